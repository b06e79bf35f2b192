-- A quick pass that meets what is asked shows that the buckets are sound.
-- Assumes nothing.
use Rattle.std.specs.Prelude.{◌≡◌, refl, Bool, false, List, [], ◌∷◌, ℕ, ◌≤◌, ◌<◌, length, leb, ltb, eqb}
use Rattle.std.proofs.Common.{sym, ap, subst, ◌∙◌, arith}
use Rattle.std.proofs.Math.Bool.{true}
use Rattle.std.specs.Int.Bits.{bit_or, or_zero_l, or_zero_r}
use borrow.Author.Tests.{le-leb, leb-true, ltb-true, eqb-true}
use Rattle.base.specs.Decides.{and-true}
use Rattle.layout.specs.Layout.{most_ring, most_total}
use Rattle.ring.specs.declared.Bucket.{Bucket}
use Rattle.ring.specs.Ring.{Shape, total_of, declined_of, len_of, buckets}
use Rattle.ring.specs.Order.{fine-wider}
use Rattle.ring.specs.Sound.{Sound}
use Rattle.ring.specs.View.{view-length}
use Rattle.quick.specs.declared.Acc.{Acc}
use Rattle.quick.specs.Quick.{small, early, minus, plus, full_turn, plain_turn, run_of, few, plainly, begun, met_of, first_of, shown}
use Rattle.quick.specs.Laws.{or_left, or_right, ran-all, ran-total}

-- ---- a pass that begins with no declined, and ends with none, met none: a plain one is as good as the other

rest-none : (a b : ℕ) → bit_or a b ≡ 0 → (a ≡ 0) × (b ≡ 0)
rest-none a b e = (omega (arith, or_left a b), omega (arith, or_right a b))

none_before : (xs : List Bucket) (a : Acc) → (run_of true a xs).declined ≡ 0 → a.declined ≡ 0
unfolding run_of plain_turn
none_before [] a e = e
none_before (x ∷ xs) a e = (rest-none a.declined x.declined (none_before xs (plain_turn a x) e)).0

none_here : (a : Acc) (x : Bucket) (xs : List Bucket) → (run_of true (plain_turn a x) xs).declined ≡ 0 → (a.declined ≡ 0) × (x.declined ≡ 0)
unfolding plain_turn
none_here a x xs e = rest-none a.declined x.declined (none_before xs (plain_turn a x) e)

-- with no declined
minus-none : (c d : ℕ) → d ≡ 0 → minus c d ≡ c
unfolding minus
minus-none c d e = simp (e, le-leb 0 c (omega arith)) (omega arith)

plus_none : (a d : ℕ) → a ≡ 0 → d ≡ 0 → plus a d ≡ bit_or a d
unfolding plus
plus_none a d p q = simp (p, q, or_zero_l)

turn-same : (a : Acc) (x : Bucket) → a.declined ≡ 0 → x.declined ≡ 0 → plain_turn a x ≡ full_turn a x
unfolding plain_turn full_turn
turn-same a x p q =
    let m = minus-none x.count x.declined q in
    let o : bit_or a.bits x.declined ≡ a.bits = ap (bit_or a.bits) q ∙ or_zero_r a.bits in
    cc (sym m, sym o, sym (plus_none a.declined x.declined p q))

plain-same : (xs : List Bucket) (a : Acc) → (run_of true a xs).declined ≡ 0 → run_of true a xs ≡ run_of false a xs
unfolding run_of
plain-same [] a e = refl
plain-same (x ∷ xs) a e =
    let n = none_here a x xs e in
    plain-same xs (plain_turn a x) e ∙ ap (λ (y : Acc). run_of false y xs) (turn-same a x n.0 n.1)

-- where none is declined by the total, a plain pass that meets what is asked is the other pass
either : (plain : Bool) (xs : List Bucket) (a : Acc) → (plain ≡ true → (run_of plain a xs).declined ≡ 0) → run_of plain a xs ≡ run_of false a xs
either true xs a e = plain-same xs a (e refl)
either false xs a e = refl

-- ---- what a pass shows

record Met (a : Acc) (first last total declined : ℕ) : Type 0 where
  pub bits : a.bits < small
  pub early : first < early
  pub passed : a.lo ≤ last
  pub sum : plus a.kept a.declined ≡ total
  pub part : a.declined ≡ declined
  pub most : total ≤ most_total

met-true : (a : Acc) (first last total declined : ℕ) → met_of a first last total declined ≡ true → Met a first last total declined
unfolding met_of
met-true a first last total declined e =
    let p = and-true (ltb a.bits small) _ e in
    let q = and-true (ltb first early) _ p.1 in
    let s = and-true (leb a.lo last) _ q.1 in
    let u = and-true (eqb (plus a.kept a.declined) total) _ s.1 in
    let v = and-true (eqb a.declined declined) _ u.1 in
    record {
      bits = ltb-true _ _ p.0;
      early = ltb-true _ _ q.0;
      passed = leb-true _ _ s.0;
      sum = eqb-true _ _ u.0;
      part = eqb-true _ _ v.0;
      most = leb-true _ _ v.1;
    }

module _ (r : ℕ) (b : List ℕ) (last : ℕ) (s : Shape r b) where
  abbrev xs : List Bucket
  xs = buckets r b

  few-enough : length (buckets r b) ≤ most_ring
  few-enough = omega (arith, view-length r b, s.small, s.len)

  full-sound : Met (run_of false (begun (first_of r b)) (buckets r b)) (first_of r b) last (total_of b) (declined_of b) → Sound r b last
  full-sound m =
      let first = first_of r b in
      let w = ran-all xs first few-enough m.early m.bits in
      record {
        shape = s;
        each = fine-wider first 0 xs (run_of false (begun first) xs).lo last (omega arith) m.passed w.each;
        total = sym m.sum ∙ ran-total xs first few-enough w;
        declined = omega (arith, m.part, w.denied);
        most = m.most;
      }

  pub shown-sound : shown r b last ≡ true → Sound r b last
  unfolding shown
  shown-sound e =
      let first = first_of r b in
      let m = met-true (run_of (plainly b) (begun first) xs) first last (total_of b) (declined_of b) e in
      let none : plainly b ≡ true → (run_of (plainly b) (begun first) xs).declined ≡ 0 =
      λ p. m.part ∙ eqb-true (declined_of b) 0 (and-true (ltb few (len_of b)) _ p).1 in
      full-sound (subst (λ (y : Acc). Met y first last (total_of b) (declined_of b)) (either (plainly b) xs (begun first) none) m)
