-- The young buckets are the newest: a walk from the newest back that stops at the first old one has met them all.
-- Assumes nothing.
use Rattle.std.specs.Prelude.{◌≡◌, refl, Bool, true, false, cond, ℕ, zero, suc, ◌+◌, ◌-◌, ◌≤◌, ◌<◌, length, get_or, take}
use Rattle.std.proofs.Math.Path.{sym, ap}
use Rattle.std.proofs.Common.{ap₂, ◌∙◌, not-suc-le-zero, le_of_suc-le-suc, arith, take-append-drop, length-drop, get_or-drop, drop-drop, lt-ltb, le-ltb}
use mathlib.Core.List.{List, [], ◌∷◌, ◌++◌}
use Rattle.std.proofs.Math.ListN.{drop}
use Rattle.layout.specs.Layout.{most_total}
use Rattle.ring.specs.declared.Bucket.{Bucket}
use Rattle.ring.specs.Ring.{no_bucket, sum_of, count_of, counts, len_of, cell_of, bucket_at, buckets}
use Rattle.ring.specs.Order.{Fine, fine-drop}
use Rattle.ring.specs.Sums.{sum-split}
use Rattle.ring.specs.Sound.{Sound}
use Rattle.ring.specs.View.{view-length, view-at, view-turn, view-end}
use Rattle.rules.specs.Buckets.{older, recent}

-- ---- order

fine-later : (k lo : ℕ) (xs : List Bucket) (hi : ℕ) → Fine lo xs hi → k < length xs → lo ≤ (get_or xs k no_bucket).time
fine-later k lo [] hi f h = absurd (not-suc-le-zero h)
fine-later zero lo (x ∷ xs) hi f h = f.0
fine-later (suc k) lo (x ∷ xs) hi f h = omega (arith, f.0, fine-later k x.time xs hi f.3 (le_of_suc-le-suc h))

fine-upto : (k lo : ℕ) (xs : List Bucket) (hi : ℕ) → Fine lo xs hi → k < length xs → Fine lo (take (suc k) xs) (get_or xs k no_bucket).time
fine-upto k lo [] hi f h = absurd (not-suc-le-zero h)
fine-upto zero lo (x ∷ xs) hi f h = (f.0, omega arith, f.2, tt)
fine-upto (suc k) lo (x ∷ xs) hi f h =
    (f.0, fine-later k x.time xs hi f.3 (le_of_suc-le-suc h), f.2, fine-upto k x.time xs hi f.3 (le_of_suc-le-suc h))

-- ---- young and old

recent-none : (w t lo : ℕ) (xs : List Bucket) (hi : ℕ) → Fine lo xs hi → w < t - hi → recent w t xs ≡ []
unfolding recent older
recent-none w t lo [] hi f h = refl
recent-none w t lo (x ∷ xs) hi f h = simp (lt-ltb w (t - x.time) (omega (arith, f.1))) (recent-none w t x.time xs hi f.3 h)

recent-append : (w t : ℕ) (xs ys : List Bucket) → recent w t (xs ++ ys) ≡ recent w t xs ++ recent w t ys
unfolding recent
recent-append w t [] ys = refl
recent-append w t (x ∷ xs) ys = go (older w t x) (recent-append w t xs ys)
  where
    go : (o : Bool) → recent w t (xs ++ ys) ≡ recent w t xs ++ recent w t ys →
        cond o (recent w t (xs ++ ys)) (x ∷ recent w t (xs ++ ys)) ≡ cond o (recent w t xs) (x ∷ recent w t xs) ++ recent w t ys
    go true e = e
    go false e = ap (λ (zs : List Bucket). x ∷ zs) e

recent-young : (w t : ℕ) (x : Bucket) (xs : List Bucket) → t - x.time ≤ w → recent w t xs ≡ xs → recent w t (x ∷ xs) ≡ x ∷ xs
unfolding recent older
recent-young w t x xs h e = simp (le-ltb w (t - x.time) h) (ap (λ (zs : List Bucket). x ∷ zs) e)

-- ---- the walk: what stands from k on is young, and comes to the sum

abbrev pub Walks : ℕ → List ℕ → ℕ → ℕ → ℕ → ℕ → Type 0
Walks r b w t k sum = (sum ≡ counts (drop k (buckets r b))) × (recent w t (drop k (buckets r b)) ≡ drop k (buckets r b))

module _ (r : ℕ) (b : List ℕ) (w t : ℕ) where
  pub walk_start : (n : ℕ) → n ≡ len_of b → Walks r b w t n 0
  unfolding sum_of recent
  walk_start n e =
      let z : drop n (buckets r b) ≡ [] = view-end r b n (omega arith) in
      (sym (ap counts z), ap (recent w t) z ∙ sym z)

  -- g of the oldest are out
  module _ (last g k sum : ℕ) (x : Bucket) (o : Sound r b last) (p : g < k) (h : k ≤ len_of b) (e : x ≡ bucket_at r b (cell_of r b (k - 1)))
      (i : Walks r b w t k sum) where
    turn : drop (k - 1) (buckets r b) ≡ x ∷ drop k (buckets r b)
    turn =
        let s : k - 1 + 1 ≡ k = omega arith in
        view-turn r b (k - 1) x (omega arith) e ∙ ap (λ (m : ℕ). x ∷ drop m (buckets r b)) s

    counted : sum + x.count ≡ counts (drop (k - 1) (buckets r b))
    unfolding sum_of
    counted = omega (arith, i.0, ap counts turn)

    -- the sum stays within the total
    pub walk-fits : sum + x.count ≤ most_total
    walk-fits = omega (arith, counted, sum-split count_of (k - 1) (buckets r b), o.total, o.most)

    pub walk-on : t - x.time ≤ w → Walks r b w t (k - 1) (sum + x.count)
    walk-on y = (counted, ap (recent w t) turn ∙ recent-young w t x (drop k (buckets r b)) y i.1 ∙ sym turn)

    pub walk-old : w < t - x.time → sum ≡ counts (recent w t (drop g (buckets r b)))
    walk-old y =
        let xs = buckets r b in
        let ys = drop g xs in
        let j = k - g in
        let l : j - 1 < length ys = omega (arith, length-drop g xs, view-length r b) in
        let s : suc (j - 1) ≡ j = omega arith in
        let n : g + (j - 1) ≡ k - 1 = omega arith in
        let m : g + j ≡ k = omega arith in
        let z : get_or ys (j - 1) no_bucket ≡ x =
        get_or-drop g xs (j - 1) no_bucket ∙ ap (λ (u : ℕ). get_or xs u no_bucket) n ∙ view-at r b (k - 1) (omega arith) ∙ sym e in
        let v : w < t - (get_or ys (j - 1) no_bucket).time = omega (arith, ap (λ (q : Bucket). q.time) z) in
        let none : recent w t (take j ys) ≡ [] =
        ap (λ (u : ℕ). recent w t (take u ys)) (sym s) ∙
        recent-none w t 0 (take (suc (j - 1)) ys) (get_or ys (j - 1) no_bucket).time (fine-upto (j - 1) 0 ys last (fine-drop g 0 xs last o.each) l) v in
        let rest : drop j ys ≡ drop k xs = drop-drop j g xs ∙ ap (λ (u : ℕ). drop u xs) m in
        let all : recent w t ys ≡ drop k xs =
        ap (recent w t) (sym (take-append-drop j ys)) ∙ recent-append w t (take j ys) (drop j ys) ∙
        ap₂ (λ (us zs : List Bucket). us ++ recent w t zs) none rest ∙ i.1 in
        i.0 ∙ sym (ap counts all)

  pub walk_end : (g k sum : ℕ) → g ≤ k → k ≤ g → Walks r b w t k sum → sum ≡ counts (recent w t (drop g (buckets r b)))
  walk_end g k sum h l i =
      let z : k ≡ g = omega arith in
      i.0 ∙ ap counts (sym i.1) ∙ ap (λ (m : ℕ). counts (recent w t (drop m (buckets r b)))) z
