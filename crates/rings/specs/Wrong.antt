-- What wrong limiters break of it. One that gives 12 while its ring is full of expired buckets, which document 01 names among the easy slips, does so with a
-- ring that suffices (`hasty-full`). One that gives 12 nowhere, as by overwriting the oldest bucket, is not the limiter of which the ring is necessary
-- (`never-full`). And a set that gave a surplus a bucket of its own would not leave a key's buckets apart (`surplus-anew`).
-- Assumes nothing.
use Rattle.std.specs.Prelude.{Bool, cond, List, [], ◌∷◌, ◌++◌, ℕ}
use Rattle.answers.specs.declared.RateLimitDecision.{RateLimitDecision}
use Rattle.answers.specs.declared.RateLimitDecision.TheVariants.{Refused}
use Rattle.settings.specs.Clock.{join_ticks}
use Rattle.settings.specs.declared.Settings.{Settings}
use Rattle.ring_length.specs.RingLength.{sized}
use Rattle.ring.specs.declared.Bucket.{Bucket}
use Rattle.ring.specs.Ring.{bucket}
use Rattle.rules.specs.Both.{ring_full}
use Rattle.rules.specs.declared.RoomKind.TheVariants.{Absolute, Suppressed}
use Rattle.room.specs.Room.{ring_of, empty}
use Rattle.parties.specs.Parties.{Sent}
use Rattle.judge.specs.Held.{held_in}
use Rattle.judge.specs.Verdict.{Verdict, verdict}
use Rattle.steps.specs.Ops.{inc, is_allowed, get, set_rate, set, delete, cleanup, cleanup_both, clear, verdict_of, words}
use Rattle.apart.specs.Apart.{Limiter}
use Rattle.rings.specs.Window.{BucketsApart}
use Rattle.rings.specs.Zeros.{zeros}
use Rattle.rings.specs.Rings.{Limiters, lone}

-- 12 by all buckets that are stored, expired ones too
abbrev pub hastily : Bool → List ℕ → Verdict RateLimitDecision → Verdict RateLimitDecision
hastily full w v = cond full (verdict (Refused 12) w) v

abbrev pub hasty_inc : Settings → Limiter Absolute
hasty_inc s w t (inc key rate c) = hastily (ring_full (ring_of w) (join_ticks s) t (held_in w key).buckets) w (verdict_of Absolute s w t (inc key rate c))
hasty_inc s w t (is_allowed key) = verdict_of Absolute s w t (is_allowed key)
hasty_inc s w t (get key) = verdict_of Absolute s w t (get key)
hasty_inc s w t (set_rate key rate) = verdict_of Absolute s w t (set_rate key rate)
hasty_inc s w t (set key rate comparator count mode) = verdict_of Absolute s w t (set key rate comparator count mode)
hasty_inc s w t (delete key) = verdict_of Absolute s w t (delete key)
hasty_inc s w t (cleanup who stale) = verdict_of Absolute s w t (cleanup who stale)
hasty_inc s w t (cleanup_both who other whose stale) = verdict_of Absolute s w t (cleanup_both who other whose stale)
hasty_inc s w t (clear who) = verdict_of Absolute s w t (clear who)

abbrev pub hasty : Limiters
hasty Absolute s = hasty_inc s
hasty Suppressed s = verdict_of Suppressed s

-- a window of 1 s and buckets of 1,000 ms: one bucket suffices
abbrev pub single : Settings
single = sized 1 1000

abbrev pub key : Sent
key = lone 1

abbrev pub room : ℕ → List ℕ
room n = words Absolute single (empty 1 1) (zeros Absolute single key n)

-- ---- a set that adds a bucket

-- what it would have to keep, whatever the reading and the surplus
abbrev pub AddsApart : Type 0
AddsApart = (s : Settings) (t m : ℕ) (xs : List Bucket) → BucketsApart s xs → BucketsApart s (xs ++ (bucket m 0 t ∷ []))
