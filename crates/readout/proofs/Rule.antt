-- The read-out by document 01's rule: what it answers, and every place of the row, told by what the key holds. The rule tells all: what keeps it is what
-- the definition gives.
-- Assumes nothing.
use Rattle.std.specs.Prelude.{◌≡◌, false, ℕ, ◌≤◌, ◌<◌, Result, Ok, Err}
use Rattle.std.proofs.Common.{sym, ◌∙◌, arith, ext_get_or, eq-eqb}
use Rattle.std.proofs.Math.Path.{ap, subst}
use mathlib.Core.List.{List, []}
use Rattle.std.proofs.Math.Decide.{dec_lt}
use Rattle.std.proofs.Math.ListN.{length, get_or}
use Rattle.answers.specs.Rows.{row, read_out_row}
use Rattle.settings.specs.declared.Settings.{Settings}
use Rattle.rules.specs.declared.RoomKind.{RoomKind}
use Rattle.ring.specs.declared.Bucket.{Bucket}
use Rattle.ring.specs.Ring.{no_bucket}
use Rattle.parties.specs.Parties.{Sent}
use Rattle.judge.specs.Held.{held_in}
use Rattle.finding.specs.Finding.{refusal}
use Rattle.finding.proofs.FindingLaws.{buckets-held, buckets-rise}
use Rattle.readout.specs.Row.{laid}
use Rattle.readout.proofs.Row.{laid-length, laid-written, laid-left}
use Rattle.readout.specs.ReadOut.{Filled, read_out}
use Rattle.readout.specs.Rule.{ReadsOut}
use Rattle.common.specs.declared.refusal.Refusal.{Refusal}

none-unknown : (w : List ℕ) (key : Sent) → (held_in w key).known ≡ false → (held_in w key).buckets ≡ []
unfolding held_in
none-unknown w key e = rw e

module _ (kind : RoomKind) (s : Settings) (w : List ℕ) (key : Sent) (cells : List Bucket) (n : refusal kind s w key ≡ 0) where
  abbrev xs : List Bucket
  xs = (held_in w key).buckets

  given_is : (read_out kind s w key cells).answer ≡ Ok (length (held_in w key).buckets)
  unfolding read_out
  given_is = rw (eq-eqb (refusal kind s w key) 0 n, buckets-held kind s w key)

  row_is : (read_out kind s w key cells).row ≡ laid (held_in w key).buckets cells
  unfolding read_out
  row_is = rw (eq-eqb (refusal kind s w key) 0 n, buckets-held kind s w key)

  pub reads-out : ReadsOut w key cells (read_out kind s w key cells)
  unfolding read_out_row
  reads-out =
      let a : read_out_row (read_out kind s w key cells).answer ≡ row 0 1 (length xs) 0 0 = ap read_out_row given_is in
      record {
        answer = a;
        unknown = λ u. a ∙ ap (λ (ys : List Bucket). row 0 1 (length ys) 0 0) (none-unknown w key u);
        oldest-first = subst (λ (ys : List Bucket). (i j : ℕ) → i ≤ j → j < length ys → (get_or ys i no_bucket).time ≤ (get_or ys j no_bucket).time)
            (buckets-held kind s w key) (buckets-rise kind s w key n);
        places = ap (λ (ys : List Bucket). length ys) row_is ∙ laid-length xs cells;
        filled = λ i p q. ap (λ (ys : List Bucket). get_or ys i no_bucket) row_is ∙ laid-written xs cells i no_bucket p q;
        others = λ i p. ap (λ (ys : List Bucket). get_or ys i no_bucket) row_is ∙ laid-left xs cells i no_bucket p;
      }

-- ---- what keeps the rule is one answer and one row

buckets-row : (a : Result ℕ Refusal) (n : ℕ) → read_out_row a ≡ row 0 1 n 0 0 → a ≡ Ok n
unfolding read_out_row
buckets-row (Ok m) n e = ap Ok (ap (λ (ys : List ℕ). get_or ys 2 0) e)
buckets-row (Err m) n e = let z : ◌≡◌ {A = ℕ} 0 1 = ap (λ (ys : List ℕ). get_or ys 1 0) e in absurd (omega (arith, z))

filled-path : {v u : Filled} → v.answer ≡ u.answer → v.row ≡ u.row → v ≡ u
filled-path p q = λ i. record { answer = p i; row = q i }

module _ (w : List ℕ) (key : Sent) (cells : List Bucket) (v u : Filled) (p : ReadsOut w key cells v) (q : ReadsOut w key cells u) where
  abbrev n : ℕ
  n = length (held_in w key).buckets

  same_place : (i : ℕ) → i < length v.row → get_or v.row i no_bucket ≡ get_or u.row i no_bucket
  same_place i l = go (dec_lt i (length (held_in w key).buckets))
    where
      go : Dec (i < length (held_in w key).buckets) → get_or v.row i no_bucket ≡ get_or u.row i no_bucket
      go (yes h) = let c : i < length cells = omega (arith, p.places) in p.filled i h c ∙ sym (q.filled i h c)
      go (no h) = let g : n ≤ i = omega arith in p.others i g ∙ sym (q.others i g)

  pub reads-one : v ≡ u
  reads-one =
      filled-path (buckets-row v.answer n p.answer ∙ sym (buckets-row u.answer n q.answer))
      (ext_get_or no_bucket v.row u.row (p.places ∙ sym q.places) same_place)
