-- What is read of what was found, and the row place by place.
-- Assumes nothing.
use Rattle.std.specs.Prelude.{◌≡◌, ◌≢◌, List, ℕ, ◌+◌, ◌≤◌, ◌<◌, min, length, get_or, set, Ok, Err}
use Rattle.std.proofs.Math.Path.{refl}
use Rattle.std.proofs.Common.{ap, sym, ◌∙◌, arith, ne_eqb, eq-eqb}
use Rattle.common.specs.declared.refusal.Refusal.{Refusal}
use Rattle.common.proofs.Ruled.{unless-err, unless-ok}
use Rattle.settings.specs.declared.Settings.{Settings}
use Rattle.rules.specs.declared.RoomKind.{RoomKind}
use Rattle.ring.specs.declared.Bucket.{Bucket}
use Rattle.ring.specs.Ring.{no_bucket, buckets}
use Rattle.room.specs.Room.{ring_of, body_of}
use Rattle.opened.specs.Sound.{addressed}
use Rattle.parties.specs.Parties.{Sent}
use Rattle.finding.specs.declared.Found.{Found}
use Rattle.finding.specs.Finding.{refusal, buckets_of, found, Readable, Reads}
use Rattle.finding.proofs.FindingLaws.{readable}
use Rattle.readout.proofs.Row.{up_to-length, up_to-more}
use Rattle.readout.specs.ReadOut.{read_out, Shown, row_at}

module _ (kind : RoomKind) (s : Settings) (w : List ℕ) (key : Sent) where
  -- a refusal leaves the row
  pub row-refused : (row : List Bucket) (r : Refusal) → Err r ≡ found kind s w key → Shown (read_out kind s w key row) (Err r) row
  unfolding read_out found
  row-refused row r e =
      let o = unless-err _ _ r e in
      record { answer = sym (rw (ne_eqb _ 0 o.0, sym o.1)); row = sym (rw (ne_eqb _ 0 o.0)) }

  -- ---- what was found

  module _ (x : Found) (e : Ok x ≡ found kind s w key) where
    fine : refusal kind s w key ≡ 0
    unfolding found
    fine = (unless-ok _ _ x e).0

    count-is : x.count ≡ length (buckets_of w key)
    unfolding found
    count-is = ap (λ (y : Found). y.count) (unless-ok _ _ x e).1

    slot_is : x.slot ≡ addressed w key
    unfolding found
    slot_is = ap (λ (y : Found). y.slot) (unless-ok _ _ x e).1

    -- while there is a bucket, the slot can be read
    reads : 0 < x.count → Reads w x.slot (buckets_of w key)
    reads h = rw slot_is (readable kind s w key _ _ fine refl refl (omega (arith, count-is)))

    pub slot-readable : (i : ℕ) → i < x.count → Readable w x.slot
    slot-readable i h = (reads (omega arith)).readable

    -- ---- the row, place by place

    pub row-length : (row : List Bucket) (i : ℕ) → i ≤ min x.count (length row) → length (row_at w key row i) ≡ length row
    row-length row i h = up_to-length (buckets_of w key) row i (omega (arith, count-is)) (omega arith)

    -- writing a bucket makes the row of one more
    pub row_more : (row : List Bucket) (i : ℕ) (b : Bucket) → i < min x.count (length row) →
        b ≡ get_or (buckets (ring_of w) (body_of w x.slot)) i no_bucket → set (row_at w key row i) i b ≡ row_at w key row (i + 1)
    row_more row i b h f =
        up_to-more (buckets_of w key) row i b no_bucket (f ∙ ap (λ (xs : List Bucket). get_or xs i no_bucket) (reads (omega arith)).view)
        (omega (arith, count-is)) (omega arith)

    -- all that fit are the row to leave
    pub row-shown : (row : List Bucket) (i : ℕ) → i ≡ min x.count (length row) → Shown (read_out kind s w key row) (Ok x.count) (row_at w key row i)
    unfolding read_out
    row-shown row i q =
        let n : i ≡ min (length (buckets_of w key)) (length row) = q ∙ ap (λ (k : ℕ). min k (length row)) count-is in
        record { answer = ap Ok count-is ∙ sym (rw fine); row = ap (λ (k : ℕ). row_at w key row k) n ∙ sym (rw fine) }
