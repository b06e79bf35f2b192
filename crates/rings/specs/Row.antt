-- Buckets that count nothing, d apart from time 0 on: what increments of 0 make, each as soon as it no longer joins.
-- d is the distance in ticks, b the longest age that joins, one tick less than d.
-- Assumes nothing.
use Rattle.std.specs.Prelude.{◌≡◌, Bool, ◌&&◌, List, [], ◌∷◌, ◌++◌, length}
use Rattle.std.proofs.Math.Path.{refl, ap}
use Rattle.std.proofs.Common.{◌∙◌, arith, length-append}
use Rattle.std.proofs.Math.Bool.{true, false, not, cond}
use Prim.Native.Nat.{ℕ, zero, suc, ◌+◌, ◌-◌, ◌*◌, ◌≤◌}
use Rattle.std.proofs.Math.Dec.{leb, ltb}
use Rattle.std.proofs.lemmas.List.{get_or_at}
use borrow.Author.Tests.{le-ltb, ltb-false, lt-leb}
use Rattle.settings.specs.Clock.{age}
use Rattle.ring.specs.declared.Bucket.{Bucket}
use Rattle.ring.specs.Ring.{bucket, no_bucket, count_of, counts}
use Rattle.ring.specs.Sums.{sum-append, sum_one, sum-none}
use Rattle.rules.specs.Buckets.{older, ahead, newest, raised, joins, joined}
use Rattle.rules.specs.Both.{ring_full}

-- n of them
pub row : ℕ → ℕ → List Bucket
row d zero = []
row d (suc n) = row d n ++ (bucket 0 0 (n * d) ∷ [])

pub row-none : (d : ℕ) → row d 0 ≡ []
unfolding row
row-none d = refl

-- the first
pub row-begun : (d n : ℕ) → ltb 0 n ≡ false → bucket 0 0 (n * d) ∷ [] ≡ row d (suc n)
unfolding row
row-begun d zero e = refl
row-begun d (suc n) e = absurd (omega (arith, ltb-false 0 (suc n) e))

row-length : (d n : ℕ) → length (row d n) ≡ n
unfolding row
row-length d zero = refl
row-length d (suc n) = length-append (row d n) (bucket 0 0 (n * d) ∷ []) ∙ omega (arith, row-length d n)

pub row_counts : (d n : ℕ) → counts (row d n) ≡ 0
unfolding row
row_counts d zero = sum-none count_of
row_counts d (suc n) = sum-append count_of (row d n) (bucket 0 0 (n * d) ∷ []) ∙ omega (arith, row_counts d n, sum_one count_of (bucket 0 0 (n * d)))

row-newest : (d n : ℕ) → newest (row d (suc n)) ≡ bucket 0 0 (n * d)
unfolding row
row-newest d n = get_or_at (row d n) (bucket 0 0 (n * d)) [] no_bucket (length (row d (suc n)) - 1) (omega (arith, row-length d n, row-length d (suc n)))

-- none is over the window while the reading is not
pub young : (w t : ℕ) (xs : List Bucket) → t ≤ w → ahead w t xs ≡ 0
unfolding ahead older
young w t [] h = refl
young w t (x ∷ xs) h = rw (le-ltb w (age t x.time) (omega arith))

module _ (d b : ℕ) (is : d ≡ b + 1) where
  -- the next one does not join
  row-joins : (n : ℕ) → joins b (n * d) (row d n) ≡ false
  unfolding joins row
  row-joins zero = refl
  row-joins (suc n) =
      let q : (newest (row d (suc n))).time ≡ n * d = ap (λ (x : Bucket). x.time) (row-newest d n) in
      let l : leb (age (suc n * d) (newest (row d (suc n))).time) b ≡ false = lt-leb _ b (omega (arith, q)) in
      ap (λ (z : Bool). ltb 0 (length (row d (suc n))) && z) l ∙ none (ltb 0 (length (row d (suc n))))
    where
      none : (z : Bool) → z && false ≡ false
      none true = refl
      none false = refl

  -- and is one more, where it counts nothing
  pub row-joined : (n c : ℕ) → c ≡ 0 → joined b (n * d) 0 c (row d n) ≡ row d (suc n)
  unfolding joined row
  row-joined n c e =
      ap (λ (z : Bool). cond z (raised (length (row d n) - 1) 0 c (row d n)) (row d n ++ (bucket 0 c (n * d) ∷ []))) (row-joins n) ∙
      ap (λ (m : ℕ). row d n ++ (bucket 0 m (n * d) ∷ [])) e

  -- which meets 12 exactly where the ring has no more than n
  pub row-full : (r n : ℕ) → ring_full r b (n * d) (row d n) ≡ leb r n
  unfolding ring_full
  row-full r n = ap (λ (z : Bool). not z && leb r (length (row d n))) (row-joins n) ∙ ap (leb r) (row-length d n)
