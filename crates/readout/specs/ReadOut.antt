-- What the read-out answers, and what it leaves in the row, for every input.
-- Assumes nothing.
use Rattle.std.specs.Prelude.{◌≡◌, cond, List, ℕ, length, eqb, Result, Ok}
use Rattle.settings.specs.declared.Settings.{Settings}
use Rattle.rules.specs.declared.RoomKind.{RoomKind}
use Rattle.ring.specs.declared.Bucket.{Bucket}
use Rattle.parties.specs.Parties.{Sent}
use Rattle.readout.specs.Row.{up_to, laid}
use Rattle.finding.specs.Finding.{buckets_of, refusal}
use Rattle.common.specs.Refusals.{refuse}
use Rattle.common.specs.declared.refusal.Refusal.{Refusal}

-- ---- the answer and the row after

pub record Filled : Type 0 where
  pub answer : Result ℕ Refusal
  pub row : List Bucket

-- "as many as fit, leaving the others; it gives the ring's bucket count, 0 for an unknown key"; refusals "leave the row"
unfoldable pub read_out : RoomKind → Settings → List ℕ → Sent → List Bucket → Filled
read_out kind s w key row =
    let n = refusal kind s w key in
    record {
      answer = cond (eqb n 0) (Ok (length (buckets_of w key))) (refuse n);
      row = cond (eqb n 0) (laid (buckets_of w key) row) row;
    }

-- the answer given and the row left are these
pub record Shown (v : Filled) (r : Result ℕ Refusal) (exit : List Bucket) : Type 0 where
  pub answer : r ≡ v.answer
  pub row : exit ≡ v.row

-- the row once i buckets are written
abbrev pub row_at : List ℕ → Sent → List Bucket → ℕ → List Bucket
row_at w key row i = up_to i (buckets_of w key) row
