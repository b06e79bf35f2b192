-- The laws of a room's lengths and places, and of a body that is lent.
-- Assumes nothing.
use Rattle.std.specs.Prelude.{◌≡◌, Bool, true, false, cond, List, ◌++◌, ℕ, zero, suc, ◌+◌, ◌-◌, ◌*◌, ◌≤◌, ◌<◌, length, get_or, take, drop, set, replicate, leb, Ok}
use Rattle.std.proofs.Common.{sym, ap, ap₂, ◌∙◌, append-nil, suc-mul, mul-le-mul, mul-le-mul_right, arith, length-take, length-drop, le-leb, leb-true, eq-eqb, eqb-true}
use Rattle.std.proofs.lemmas.List.{length-replicate}
use Rattle.std.proofs.Math.Seq.{drop-length}
use borrow.Rule.Slice.PartMut.{put_mid, Post-is}
use Rattle.base.specs.Decides.{Decides, tested, and-true}
use Rattle.common.specs.Refusals.{refuse}
use Rattle.base.specs.Splice.{splice, splice-length, splice-lo}
use Rattle.layout.specs.Layout.{most_slots, most_ring, header_words, entry_words, slots_word, ring_word, last_word, size_of}
use Rattle.room.specs.Room.{slots_of, ring_of, length_of, start_of, end_of, fits, Lengths, sized, Room, Directory, empty, if_fits, Made, body_from, body_of, with_from}
use Rattle.room.specs.Room.{with_body}

-- ---- lengths: the test and the facts

pub lengths-fit : (n r l : ℕ) → Lengths n r l → fits n r l ≡ true
unfolding fits
lengths-fit n r l o = simp (le-leb _ _ o.one, le-leb _ _ o.few, le-leb _ _ o.some, le-leb _ _ o.small, eq-eqb _ _ o.long)

pub fit-lengths : (n r l : ℕ) → fits n r l ≡ true → Lengths n r l
unfolding fits
fit-lengths n r l e =
    let p = and-true (leb 1 n) _ e in
    let q = and-true (leb n most_slots) _ p.1 in
    let s = and-true (leb 1 r) _ q.1 in
    let t = and-true (leb r most_ring) _ s.1 in
    record { one = leb-true _ _ p.0; few = leb-true _ _ q.0; some = leb-true _ _ s.0; small = leb-true _ _ t.0; long = eqb-true _ _ t.1 }

pub room-sized : (w : List ℕ) → Room w → sized w ≡ true
room-sized w o = lengths-fit (slots_of w) (ring_of w) (length w) o

pub sized-room : (w : List ℕ) → sized w ≡ true → Room w
sized-room w e = fit-lengths (slots_of w) (ring_of w) (length w) e

-- what `sized` answers is the test
pub sized-is : (w : List ℕ) (x : Bool) → Decides x (Room w) → x ≡ sized w
sized-is w x d = tested x (sized w) (room-sized w) (sized-room w) d

-- the same header and length: a room too
pub room-same : (w v : List ℕ) → slots_of v ≡ slots_of w → ring_of v ≡ ring_of w → length v ≡ length w → Room w → Room v
room-same w v n r l o = record {
  one = omega (arith, n, o.one);
  few = omega (arith, n, o.few);
  some = omega (arith, r, o.some);
  small = omega (arith, r, o.small);
  long = l ∙ o.long ∙ sym (ap₂ (λ (n r : ℕ). length_of n r) n r);
}

-- a room has its directory; so have words with the same slots and length
pub room-directory : {w : List ℕ} → Room w → Directory w
room-directory o = record { few = o.few; long = omega (arith, o.long) }

pub directory-same : (w v : List ℕ) → slots_of v ≡ slots_of w → length v ≡ length w → Directory w → Directory v
directory-same w v n l o = record { few = omega (arith, n, o.few); long = omega (arith, n, l, o.long) }

-- ---- places

-- slot s lies among n, of z words each
pub slot-in : (s n z : ℕ) → s < n → s * z + z ≤ n * z
slot-in s n z h = rw suc-mul at (mul-le-mul_right z h)

pub bodies-few : (n r : ℕ) → n ≤ 64 → r ≤ 512 → n * size_of r ≤ 64 * 1543
bodies-few n r h k = let z : size_of r ≤ 1543 = omega arith in mul-le-mul h z

pub slot-few : (s n r : ℕ) → s < n → n ≤ 64 → r ≤ 512 → s * size_of r ≤ 64 * 1543
slot-few s n r h k l = omega (arith, slot-in s n (size_of r) h, bodies-few n r k l)

pub body_end : (w : List ℕ) (s : ℕ) → Room w → s < slots_of w → end_of w s ≤ length w
body_end w s o h = omega (arith, o.long, slot-in s (slots_of w) (size_of (ring_of w)) h)

pub body-length : (w : List ℕ) (s : ℕ) → Room w → s < slots_of w → length (body_of w s) ≡ size_of (ring_of w)
unfolding body_from
body-length w s o h = simp (length-take, length-drop) (omega (arith, body_end w s o h))

-- ---- a lent body

-- the part that `&mut w[a..e]` lends, where e was computed as a and a body's size
pub part-lent : (w : List ℕ) (a : ℕ) → take (a + size_of (ring_of w) - a) (drop a w) ≡ body_from w a
unfolding body_from
part-lent w a = let e : a + size_of (ring_of w) - a ≡ size_of (ring_of w) = omega arith in rw e

-- and the whole once it is back: b is what the callee left of the part
pub part-back : (w b : List ℕ) (a : ℕ) → put_mid a (a + size_of (ring_of w) - a) w b ≡ with_from w a b
unfolding splice
part-back w b a = ap (λ (p : List ℕ). take a w ++ (b ++ p)) (Post-is a (a + size_of (ring_of w)) w (omega arith))

-- of slot s
pub part_body : (w : List ℕ) (a s : ℕ) → a ≡ start_of w s → take (a + size_of (ring_of w) - a) (drop a w) ≡ body_of w s
part_body w a s e = part-lent w a ∙ ap (λ (x : ℕ). body_from w x) e

pub part_length : (w : List ℕ) (a s : ℕ) → a ≡ start_of w s → Room w → s < slots_of w → length (take (a + size_of (ring_of w) - a) (drop a w)) ≡ size_of (ring_of w)
part_length w a s e o h = ap (λ (y : List ℕ). length y) (part_body w a s e) ∙ body-length w s o h

pub part-home : (w b : List ℕ) (a s : ℕ) → a ≡ start_of w s → put_mid a (a + size_of (ring_of w) - a) w b ≡ with_body w s b
part-home w b a s e = part-back w b a ∙ ap (λ (x : ℕ). with_from w x b) e

-- the header and the length with another body
module _ (w b : List ℕ) (s : ℕ) (o : Room w) (h : s < slots_of w) (l : length b ≡ size_of (ring_of w)) where
  fit : start_of w s + length b ≡ end_of w s
  fit = ap (λ (n : ℕ). start_of w s + n) l

  pub body-header : (j : ℕ) → j < header_words + entry_words * slots_of w → get_or (with_body w s b) j 0 ≡ get_or w j 0
  body-header j g = splice-lo (start_of w s) (end_of w s) w b fit (body_end w s o h) j (omega arith)

  pub body-long : length (with_body w s b) ≡ length w
  body-long = splice-length (start_of w s) (end_of w s) w b fit (body_end w s o h)

  pub body-room : Room (with_body w s b)
  body-room = room-same w (with_body w s b) (body-header slots_word (omega arith)) (body-header ring_word (omega (arith, o.one))) body-long o

-- ---- an empty room

-- a header's words are there
pub zeros-long : (n r : ℕ) (w v : List ℕ) → v ≡ replicate (length w) 0 → Lengths n r (length w) → last_word < length v
zeros-long n r w v e o = omega (arith, ap (λ (y : List ℕ). length y) e, length-replicate (length w) (zero), o.long)

-- the stores of the two lengths, once the words are zeros
pub empty-stores : (n r l : ℕ) → Lengths n r l → set (set (replicate l 0) slots_word n) ring_word r ≡ empty n r
unfolding empty
empty-stores n r l o =
    let e : l ≡ suc (suc (suc (suc (suc (entry_words * n + n * size_of r))))) = omega (arith, o.long) in
    rw e

pub empty-made : (n r l : ℕ) (w : List ℕ) → length w ≡ l → Lengths n r l → Made n r w (Ok tt) (set (set (replicate l 0) slots_word n) ring_word r)
empty-made n r l w e o =
    let f : fits n r (length w) ≡ true = ap (fits n r) e ∙ lengths-fit n r l o in
    record { answer = sym (ap if_fits f); words = empty-stores n r l o ∙ sym (ap (λ (x : Bool). cond x (empty n r) w) f) }

pub not_made : (n r : ℕ) (w : List ℕ) → (Lengths n r (length w) → ⊥) → Made n r w (refuse 5) w
not_made n r w d =
    let f : false ≡ fits n r (length w) = tested false (fits n r (length w)) (lengths-fit n r (length w)) (fit-lengths n r (length w)) d in
    record { answer = ap if_fits f; words = ap (λ (x : Bool). cond x (empty n r) w) f }

-- zeros up to the end
pub filled : (w : List ℕ) (i : ℕ) → i ≤ length w → length w ≤ i → replicate i 0 ++ drop i w ≡ replicate (length w) 0
filled w i h l =
    let e : i ≡ length w = omega arith in
    rw (e, drop-length, append-nil)
