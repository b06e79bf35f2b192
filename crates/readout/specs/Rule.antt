-- The read-out by document 01's rule: what it answers, and every place of the row, told by what the key holds. The rule tells all: what keeps it is what
-- the definition gives.
-- Assumes nothing.
use Rattle.std.specs.Prelude.{◌≡◌, false, ℕ, ◌≤◌, ◌<◌}
use mathlib.Core.List.{List}
use Rattle.std.proofs.Math.ListN.{length, get_or}
use Rattle.answers.specs.Rows.{row, read_out_row}
use Rattle.ring.specs.declared.Bucket.{Bucket}
use Rattle.ring.specs.Ring.{no_bucket}
use Rattle.parties.specs.Parties.{Sent}
use Rattle.judge.specs.Held.{held_in}
use Rattle.readout.specs.ReadOut.{Filled}

-- "fills a lent row of bucket records, oldest first, expired ones too, as many as fit, leaving the others; it gives the ring's bucket count, 0 for an
-- unknown key": of all buckets that the key holds, by place from the oldest
pub record ReadsOut (w : List ℕ) (key : Sent) (cells : List Bucket) (v : Filled) : Type 0 where
  pub answer : read_out_row v.answer ≡ row 0 1 (length (held_in w key).buckets) 0 0
  pub unknown : (held_in w key).known ≡ false → read_out_row v.answer ≡ row 0 1 0 0 0
  pub oldest-first : (i j : ℕ) → i ≤ j → j < length (held_in w key).buckets →
      (get_or (held_in w key).buckets i no_bucket).time ≤ (get_or (held_in w key).buckets j no_bucket).time
  pub places : length v.row ≡ length cells
  pub filled : (i : ℕ) → i < length (held_in w key).buckets → i < length cells → get_or v.row i no_bucket ≡ get_or (held_in w key).buckets i no_bucket
  pub others : (i : ℕ) → length (held_in w key).buckets ≤ i → get_or v.row i no_bucket ≡ get_or cells i no_bucket
