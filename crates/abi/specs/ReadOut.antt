-- The read-out through a face: one bucket at a call, by its place from the oldest, in an answer row. It takes no reading and changes no word.
-- Assumes nothing.
use Rattle.std.specs.Prelude.{◌≡◌, Bool, cond, ℕ, ◌≤◌, ◌<◌, eqb, ltb, Ok, Err}
use Rattle.std.proofs.Math.Path.{refl, sym, ap}
use Rattle.std.proofs.Common.{◌∙◌}
use Rattle.std.proofs.Math.Bool.{true, false}
use mathlib.Core.List.{List, [], ◌∷◌}
use native.Mathlib.Omega.{arith}
use Rattle.std.proofs.Math.ListN.{length, get_or}
use borrow.Author.Tests.{ne_eqb, lt-ltb, le-ltb}
use Rattle.answers.specs.Rows.{row, refused_row}
use Rattle.settings.specs.declared.Settings.{Settings}
use Rattle.ring.specs.declared.Bucket.{Bucket}
use Rattle.ring.specs.Ring.{no_bucket, buckets}
use Rattle.room.specs.Room.{slots_of, ring_of, use_of, body_of}
use Rattle.parties.specs.Parties.{Sent}
use Rattle.rules.specs.declared.RoomKind.{RoomKind}
use Rattle.opened.specs.Sound.{has_series, addressed}
use Rattle.finding.specs.declared.Found.{Found}
use Rattle.finding.specs.Finding.{refusal, buckets_of, found, Readable}
use Rattle.readout.proofs.Laws.{slot-readable}
use Rattle.common.specs.declared.refusal.Refusal.{Refusal}
use Rattle.common.proofs.Ruled.{unless-err, unless-ok}

-- count, declined and time
abbrev pub cell_row : Bucket → List ℕ
cell_row b = row 0 1 b.count b.declined b.time

-- bucket i, or that there is none
abbrev pub place_row : List Bucket → ℕ → List ℕ
place_row xs i = cond (ltb i (length xs)) (cell_row (get_or xs i no_bucket)) (row 0 2 0 0 0)

unfoldable pub bucket_row : RoomKind → Settings → List ℕ → Sent → ℕ → List ℕ
bucket_row kind s w key i = cond (eqb (refusal kind s w key) 0) (place_row (buckets_of w key) i) (refused_row (refusal kind s w key))

-- ---- what the code has found, turned into what the definition says

pub bucket-refused : (kind : RoomKind) (s : Settings) (w : List ℕ) (key : Sent) (r : Refusal) → Err r ≡ found kind s w key → (i : ℕ) →
    refused_row r.0 ≡ bucket_row kind s w key i
unfolding bucket_row found
bucket-refused kind s w key r e i =
    let o = unless-err _ _ r e in
    sym (rw (ne_eqb _ 0 o.0, o.1))

module _ (kind : RoomKind) (s : Settings) (w : List ℕ) (key : Sent) (x : Found) (is : Ok x ≡ found kind s w key) where
  unrefused : refusal kind s w key ≡ 0
  unfolding found
  unrefused = (unless-ok _ _ x is).0

  count-is : x.count ≡ length (buckets_of w key)
  unfolding found
  count-is = ap (λ (y : Found). y.count) (unless-ok _ _ x is).1

  slot_is : x.slot ≡ addressed w key
  unfolding found
  slot_is = ap (λ (y : Found). y.slot) (unless-ok _ _ x is).1

  pub bucket-none : (i : ℕ) → x.count ≤ i → row 0 2 0 0 0 ≡ bucket_row kind s w key i
  unfolding bucket_row
  bucket-none i h =
      let past : length (buckets_of w key) ≤ i = omega (arith, count-is) in
      sym (rw (unrefused, le-ltb i (length (buckets_of w key)) past))

  pub bucket-readable : (i : ℕ) → i < x.count → Readable w x.slot
  bucket-readable i h = slot-readable kind s w key x is i h

  -- a bucket is there, so the key has a series and these are its buckets
  view : (b c : Bool) → ltb (addressed w key) (slots_of w) ≡ b → has_series (use_of w (addressed w key)) ≡ c → 0 < length (buckets_of w key) →
      buckets_of w key ≡ buckets (ring_of w) (body_of w (addressed w key))
  unfolding buckets_of
  view false c e f h = absurd (omega (arith, rw e at h))
  view true false e f h = absurd (omega (arith, rw (e, f) at h))
  view true true e f h = rw (e, f)

  pub bucket-some : (i : ℕ) → i < x.count → (b : Bucket) → b ≡ get_or (buckets (ring_of w) (body_of w x.slot)) i no_bucket →
      cell_row b ≡ bucket_row kind s w key i
  unfolding bucket_row
  bucket-some i h b e =
      let below : i < length (buckets_of w key) = omega (arith, count-is) in
      let any : 0 < length (buckets_of w key) = omega arith in
      let here : b ≡ get_or (buckets_of w key) i no_bucket = e ∙ ap (λ (a : ℕ). get_or (buckets (ring_of w) (body_of w a)) i no_bucket) slot_is ∙
      ap (λ (xs : List Bucket). get_or xs i no_bucket) (sym (view _ _ refl refl any)) in
      ap (λ (y : Bucket). cell_row y) here ∙ sym (rw (unrefused, lt-ltb i (length (buckets_of w key)) below))
