-- What holds of a key's buckets and of the log of its admitted counts, from call to call; the ceiling is a part of it, the floor follows from it.
-- In ticks are w, the window, b, the longest age that joins, at most w, and t, the reading; top is the hard limit.
-- Assumes nothing.
use Rattle.std.specs.Prelude.{List, ℕ, ◌+◌, ◌-◌, ◌≤◌}
use Rattle.ring.specs.declared.Bucket.{Bucket}
use Rattle.admissions.specs.Log.{Entry, in_span, since}
use Rattle.admissions.specs.Buckets.{mass}

pub record Good (w b top t : ℕ) (xs : List Bucket) (log : List Entry) : Type 0 where
  -- what was admitted within window less bucket is still held, in buckets that are at most b older
  pub held : (u : ℕ) → t + b ≤ u + w → since u log ≤ since (u - b) (mass xs)
  -- what a bucket holds was admitted at its time or later
  pub only : (u : ℕ) → since u (mass xs) ≤ since u log
  pub ceiling : (s : ℕ) → in_span s (s + (w - b)) log ≤ top
