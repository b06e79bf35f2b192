-- Where the bits of a pass stay below 2^54 nothing in it wrapped: the times do not fall, none declined more than it counted, and
-- the sums are the sums.
-- Assumes nothing.
use Rattle.std.specs.Prelude.{◌≡◌, refl, Bool, true, false, cond, List, [], ◌∷◌, ℕ, ◌+◌, ◌-◌, ◌*◌, ◌≤◌, ◌<◌, length, leb}
use Rattle.std.proofs.Common.{arith, leb-true, leb-false}
use Rattle.std.specs.Int.Bits.{bit_or, or_add_and}
use Rattle.std.proofs.lemmas.Nat.{and_le_l, and_le_r}
use Rattle.std.proofs.lemmas.Bool.{lt-leb}
use Rattle.layout.specs.Layout.{most_ring}
use Rattle.ring.specs.declared.Bucket.{Bucket}
use Rattle.ring.specs.Ring.{sum_of, counts, declineds}
use Rattle.ring.specs.Order.{Fine}
use Rattle.quick.specs.declared.Acc.{Acc}
use Rattle.quick.specs.Quick.{small, early, words, minus, plus, full_turn, run_of, begun}

-- what is or-ed is at least each
pub or_left : (a b : ℕ) → a ≤ bit_or a b
or_left a b = omega (arith, or_add_and a b, and_le_r a b)

pub or_right : (a b : ℕ) → b ≤ bit_or a b
or_right a b = omega (arith, or_add_and a b, and_le_l a b)

-- a small difference did not wrap, if what is taken away is 2^54 below the largest word
minus_is : (a b : ℕ) → minus a b < small → b + small ≤ words → (b ≤ a) × (minus a b ≡ a - b)
unfolding minus
minus_is a b h k = go (leb b a) refl h
  where
    go : (t : Bool) → leb b a ≡ t → cond t (a - b) (a + words - b) < small → (b ≤ a) × (cond t (a - b) (a + words - b) ≡ a - b)
    go true e l = (leb-true b a e, refl)
    go false e l = absurd (omega (arith, leb-false b a e))

-- nor did a sum that fits
plus-is : (a b : ℕ) → a + b < words → plus a b ≡ a + b
unfolding plus
plus-is a b h = simp (lt-leb words (a + b) h)

-- the bits only grow
run-bits : (xs : List Bucket) (a : Acc) → a.bits ≤ (run_of false a xs).bits
unfolding run_of full_turn
run-bits [] a = omega arith
run-bits (x ∷ xs) a =
    let e = minus x.count x.declined in
    let g = minus x.time a.lo in
    let o = bit_or a.bits x.declined in
    omega (arith, run-bits xs (full_turn a x), or_left (bit_or o e) g, or_left o e, or_left a.bits x.declined)

-- one turn whose bits are small
record Turned (a : Acc) (x : Bucket) : Type 0 where
  pub later : a.lo ≤ x.time
  pub near : x.time < a.lo + small
  pub some : x.declined ≤ x.count
  pub kept : (full_turn a x).kept ≡ a.kept + (x.count - x.declined)
  pub denied : (full_turn a x).declined ≡ a.declined + x.declined
  pub less : (full_turn a x).kept < a.kept + small
  pub fewer : (full_turn a x).declined < a.declined + small

turned : (a : Acc) (x : Bucket) → (full_turn a x).bits < small → a.lo + small ≤ words → a.kept + small ≤ words → a.declined + small ≤ words → Turned a x
unfolding full_turn
turned a x h p q s =
    let c = x.count in
    let d = x.declined in
    let e = minus c d in
    let g = minus x.time a.lo in
    let o₁ = bit_or a.bits d in
    let o₂ = bit_or o₁ e in
    let gs : g < small = omega (arith, or_right o₂ g) in
    let es : e < small = omega (arith, or_left o₂ g, or_right o₁ e) in
    let ds : d < small = omega (arith, or_left o₂ g, or_left o₁ e, or_right a.bits d) in
    let m = minus_is c d es (omega arith) in
    let t = minus_is x.time a.lo gs p in
    let k = plus-is a.kept e (omega arith) in
    let n = plus-is a.declined d (omega arith) in
    record {
      later = t.0;
      near = omega (arith, t.0, t.1);
      some = m.0;
      kept = omega (arith, k, m.1);
      denied = n;
      less = omega (arith, k);
      fewer = omega (arith, n);
    }

-- a whole pass
pub record Ran (a : Acc) (xs : List Bucket) : Type 0 where
  pub each : Fine a.lo xs (run_of false a xs).lo
  pub on : a.lo ≤ (run_of false a xs).lo
  pub total : (run_of false a xs).kept + (run_of false a xs).declined ≡ a.kept + a.declined + counts xs
  pub denied : (run_of false a xs).declined ≡ a.declined + declineds xs
  pub fits : (run_of false a xs).kept + (run_of false a xs).declined + 2 * length xs ≤ a.kept + a.declined + 2 * (small * length xs)

lo-is : (a : Acc) (x : Bucket) → (full_turn a x).lo ≡ x.time
unfolding full_turn
lo-is a x = refl

each_from : (a : Acc) (x : Bucket) (xs : List Bucket) → Ran (full_turn a x) xs → Fine x.time xs (run_of false (full_turn a x) xs).lo
unfolding full_turn
each_from a x xs w = w.each

ran : (xs : List Bucket) (a : Acc) → (run_of false a xs).bits < small → a.lo + small * length xs ≤ words → a.kept + small * length xs ≤ words →
    a.declined + small * length xs ≤ words → Ran a xs
unfolding run_of sum_of
ran [] a h p q s = record { each = tt; on = omega arith; total = omega arith; denied = omega arith; fits = omega arith }
ran (x ∷ xs) a h p q s =
    let a' = full_turn a x in
    let t = turned a x (omega (arith, run-bits xs a')) (omega arith) (omega arith) (omega arith) in
    let lo : a'.lo ≡ x.time = lo-is a x in
    let w = ran xs a' h (omega (arith, t.near, lo)) (omega (arith, t.less)) (omega (arith, t.fewer)) in
    record {
      each = (t.later, omega (arith, w.on, lo), t.some, each_from a x xs w);
      on = omega (arith, w.on, lo, t.later);
      total = omega (arith, w.total, t.kept, t.denied, t.some);
      denied = omega (arith, w.denied, t.denied);
      fits = omega (arith, w.fits, t.less, t.fewer);
    }

-- a whole ring: at most 512 buckets, the oldest before 2^63
pub ran-all : (xs : List Bucket) (first : ℕ) → length xs ≤ most_ring → first < early → (run_of false (begun first) xs).bits < small → Ran (begun first) xs
ran-all xs first l h b = ran xs (begun first) b (omega arith) (omega arith) (omega arith)

pub ran-total : (xs : List Bucket) (first : ℕ) → length xs ≤ most_ring → Ran (begun first) xs →
    plus (run_of false (begun first) xs).kept (run_of false (begun first) xs).declined ≡ counts xs
ran-total xs first l w =
    let a = run_of false (begun first) xs in
    let h : a.kept + a.declined < words = omega (arith, w.fits) in
    omega (arith, plus-is a.kept a.declined h, w.total)
