-- A shortage: so many whole buckets from one end, and a part of the next. It leaves what is wanted, in order.
-- Assumes nothing.
use Rattle.std.specs.Prelude.{◌≡◌, refl, ◌≢◌, Bool, true, false, cond, List, [], ◌∷◌, ℕ, suc, ◌+◌, ◌-◌, ◌≤◌, ◌<◌, length, get_or, set, take, drop, leb, eqb}
use Rattle.std.proofs.Common.{sym, ap, subst, ◌∙◌, arith, le-leb, leb-true, leb-false, eq-eqb, ne_eqb, eqb-true}
use Rattle.std.proofs.lemmas.Bool.{lt-leb, eqb-false}
use Rattle.common_laws.specs.ShareLaws.{mul_div-le, mul_div-le-right}
use Rattle.answers.specs.declared.HistoryPreservation.{HistoryPreservation}
use Rattle.answers.specs.declared.HistoryPreservation.TheVariants.{PreserveNewest, PreserveOldest}
use Rattle.ring.specs.declared.Bucket.{Bucket}
use Rattle.ring.specs.Ring.{bucket, no_bucket, sum_of, count_of, denied_of, counts}
use Rattle.ring.specs.Order.{Fine, fine-set, fine-at}
use Rattle.ring.specs.Sums.{sum-set}
use Rattle.rules.specs.Buckets.{partial, cut_oldest, cut_newest, shrunk}
use Rattle.preserve.specs.Preserving.{facing, lost_at, wholes, rest_of}
use Rattle.preserve.specs.Ends.{out}
use Rattle.preserve.proofs.Ends.{facing-length, facing-at, facing-sum, facing-back, facing-set, out-facing, out-length, out-sum, out_at, lost-lt}
use Rattle.preserve.specs.Shortage.{Way, done, whole, part, Walks, parted_at, Cuts, Reduced}

pub way : (m : ℕ) (x : Bucket) → Way m x
way m x = go (eqb m 0) refl (leb x.count m) refl
  where
    go : (e : Bool) → eqb m 0 ≡ e → (l : Bool) → leb x.count m ≡ l → Way m x
    go true p l q = done (eqb-true _ _ p)
    go false p true q = whole (eqb-false _ _ p) (leb-true _ _ q)
    go false p false q = part (eqb-false _ _ p) (leb-false _ _ q)

pub wholes-done : (m : ℕ) (x : Bucket) (xs : List Bucket) → m ≡ 0 → wholes m (x ∷ xs) ≡ 0
unfolding wholes
wholes-done m x xs e = simp (eq-eqb _ _ e)

pub wholes-on : (m : ℕ) (x : Bucket) (xs : List Bucket) → m ≢ 0 → x.count ≤ m → wholes m (x ∷ xs) ≡ suc (wholes (m - x.count) xs)
unfolding wholes
wholes-on m x xs n l = simp (ne_eqb _ _ n, le-leb _ _ l)

pub wholes-part : (m : ℕ) (x : Bucket) (xs : List Bucket) → m < x.count → wholes m (x ∷ xs) ≡ 0
unfolding wholes
wholes-part m x xs l = go (eqb m 0)
  where
    go : (e : Bool) → cond e 0 (cond (leb x.count m) (suc (wholes (m - x.count) xs)) 0) ≡ 0
    go true = refl
    go false = simp (lt-leb _ _ l)

pub wholes-none : (m : ℕ) → wholes m [] ≡ 0
unfolding wholes
wholes-none m = refl

none-walks : (m : ℕ) (x : Bucket) (xs : List Bucket) → (m ≢ 0 → m < x.count) → Walks m (x ∷ xs) 0
unfolding sum_of
none-walks m x xs h = record { within = omega arith; least = omega arith; next = λ n l. (omega arith, omega (arith, h (λ e. n (omega arith)))) }

on-walks : (m : ℕ) (x : Bucket) (xs : List Bucket) (k : ℕ) → x.count ≤ m → Walks (m - x.count) xs k → Walks m (x ∷ xs) (suc k)
unfolding sum_of
on-walks m x xs k h i = record {
  within = omega (arith, i.within);
  least = omega (arith, i.least);
  next = λ n l. let j = i.next (λ e. n (omega arith)) (omega arith) in (omega (arith, j.0), omega (arith, j.1));
}

pub walks : (m : ℕ) (ys : List Bucket) → Walks m ys (wholes m ys)
unfolding sum_of
walks m [] = rw wholes-none (record { within = omega arith; least = omega arith; next = λ n l. absurd (n (omega arith)) })
walks m (x ∷ xs) = elim (way m x) [
  | done e ↦ rw (wholes-done m x xs e) (none-walks m x xs (λ n. absurd (n e)))
  | whole n l ↦ rw (wholes-on m x xs n l) (on-walks m x xs _ l (walks (m - x.count) xs))
  | part n l ↦ rw (wholes-part m x xs l) (none-walks m x xs (λ z. l))
]

-- ---- the cut, as that many out and the next one parted

parted : ℕ → List Bucket → List Bucket
parted q zs = cond (eqb q 0) zs (set zs 0 (partial q (get_or zs 0 no_bucket)))

parted-zero : (q : ℕ) (zs : List Bucket) → q ≡ 0 → parted q zs ≡ zs
unfolding parted
parted-zero q zs e = simp (eq-eqb _ _ e)

parted-some : (q : ℕ) (zs : List Bucket) → q ≢ 0 → parted q zs ≡ set zs 0 (partial q (get_or zs 0 no_bucket))
unfolding parted
parted-some q zs n = simp (ne_eqb _ _ n)

parted-none : (q : ℕ) → parted q [] ≡ []
unfolding parted
parted-none q = go (eqb q 0)
  where
    go : (e : Bool) → cond e [] (set [] 0 (partial q no_bucket)) ≡ []
    go true = refl
    go false = refl

-- what is cut where k whole buckets go
cut_at : ℕ → List Bucket → ℕ → List Bucket
cut_at m ys k = parted (m - counts (take k ys)) (drop k ys)

cut-done : (m : ℕ) (x : Bucket) (xs : List Bucket) → m ≡ 0 → cut_oldest m (x ∷ xs) ≡ cut_at m (x ∷ xs) (wholes m (x ∷ xs))
unfolding cut_oldest cut_at sum_of
cut-done m x xs e =
    let l : cut_oldest m (x ∷ xs) ≡ x ∷ xs = simp (eq-eqb _ _ e) in
    l ∙ sym (ap (cut_at m (x ∷ xs)) (wholes-done m x xs e) ∙ parted-zero (m - 0) (x ∷ xs) (omega arith))

cut-part : (m : ℕ) (x : Bucket) (xs : List Bucket) → m ≢ 0 → m < x.count → cut_oldest m (x ∷ xs) ≡ cut_at m (x ∷ xs) (wholes m (x ∷ xs))
unfolding cut_oldest cut_at sum_of
cut-part m x xs n h =
    let l : cut_oldest m (x ∷ xs) ≡ partial m x ∷ xs = simp (ne_eqb _ _ n, lt-leb _ _ h) in
    let z : m - 0 ≡ m = omega arith in
    l ∙ sym (ap (cut_at m (x ∷ xs)) (wholes-part m x xs h) ∙ ap (λ (q : ℕ). parted q (x ∷ xs)) z ∙ parted-some m (x ∷ xs) n)

cut_on : (m : ℕ) (x : Bucket) (xs : List Bucket) → m ≢ 0 → x.count ≤ m → cut_oldest (m - x.count) xs ≡ cut_at (m - x.count) xs (wholes (m - x.count) xs) →
    cut_oldest m (x ∷ xs) ≡ cut_at m (x ∷ xs) (wholes m (x ∷ xs))
unfolding cut_oldest cut_at sum_of
cut_on m x xs n h i =
    let k = wholes (m - x.count) xs in
    let l : cut_oldest m (x ∷ xs) ≡ cut_oldest (m - x.count) xs = simp (ne_eqb _ _ n, le-leb _ _ h) in
    let z : m - x.count - counts (take k xs) ≡ m - (x.count + counts (take k xs)) = omega arith in
    l ∙ i ∙ ap (λ (q : ℕ). parted q (drop k xs)) z ∙ sym (ap (cut_at m (x ∷ xs)) (wholes-on m x xs n h))

cut-is : (m : ℕ) (ys : List Bucket) → cut_oldest m ys ≡ cut_at m ys (wholes m ys)
unfolding cut_oldest cut_at sum_of
cut-is m [] = sym (ap (cut_at m []) (wholes-none m) ∙ parted-none (m - 0))
cut-is m (x ∷ xs) = elim (way m x) [
  | done e ↦ cut-done m x xs e
  | whole n l ↦ cut_on m x xs n l (cut-is (m - x.count) xs)
  | part n l ↦ cut-part m x xs n l
]

pub parted-at-zero : (p : HistoryPreservation) (q : ℕ) (zs : List Bucket) → q ≡ 0 → parted_at p q zs ≡ zs
unfolding parted_at
parted-at-zero p q zs e = simp (eq-eqb _ _ e)

pub parted-at-some : (p : HistoryPreservation) (q : ℕ) (zs : List Bucket) → q ≢ 0 →
    parted_at p q zs ≡ set zs (lost_at p (length zs) 0) (partial q (get_or zs (lost_at p (length zs) 0) no_bucket))
unfolding parted_at
parted-at-some p q zs n = simp (ne_eqb _ _ n)

facing-first : (p : HistoryPreservation) (zs : List Bucket) → get_or (facing p zs) 0 no_bucket ≡ get_or zs (lost_at p (length zs) 0) no_bucket
facing-first PreserveNewest zs = refl
facing-first PreserveOldest [] = refl
facing-first PreserveOldest (z ∷ zs) = facing-at PreserveOldest (z ∷ zs) 0 (omega arith)

facing-parted : (p : HistoryPreservation) (q : ℕ) (zs : List Bucket) → facing p (parted q (facing p zs)) ≡ parted_at p q zs
unfolding parted parted_at
facing-parted p q zs = go (eqb q 0)
  where
    go : (e : Bool) → facing p (cond e (facing p zs) (set (facing p zs) 0 (partial q (get_or (facing p zs) 0 no_bucket)))) ≡
        cond e zs (set zs (lost_at p (length zs) 0) (partial q (get_or zs (lost_at p (length zs) 0) no_bucket)))
    go true = facing-back p zs
    go false = facing-set p zs _ ∙ ap (λ (x : Bucket). set zs (lost_at p (length zs) 0) (partial q x)) (facing-first p zs)

shrunk-facing : (p : HistoryPreservation) (m : ℕ) (xs : List Bucket) → shrunk p m xs ≡ facing p (cut_oldest m (facing p xs))
unfolding cut_newest
shrunk-facing PreserveNewest m xs = refl
shrunk-facing PreserveOldest m xs = refl

pub cuts : (p : HistoryPreservation) (m : ℕ) (xs : List Bucket) → Cuts p m xs (wholes m (facing p xs)) (rest_of m (facing p xs))
unfolding cut_at
cuts p m xs =
    let ys = facing p xs in
    let k = wholes m ys in
    let q = rest_of m ys in
    let w = walks m ys in
    let h : k ≤ length xs = omega (arith, w.within, facing-length p xs) in
    record {
      within = h;
      least = omega (arith, w.least);
      next = λ n l.
          let j = w.next n (omega (arith, facing-sum p count_of xs)) in
          let kl : k < length xs = omega (arith, j.0, facing-length p xs) in
          (omega (arith, out-length p k xs h, kl), omega (arith, j.1, ap count_of (out_at p k xs kl)));
      is = shrunk-facing p m xs ∙ ap (facing p) (cut-is m ys ∙ ap (parted q) (sym (out-facing p k xs h))) ∙ facing-parted p q (out p k xs);
    }

-- ---- what it leaves

pub partial-count : (q : ℕ) (x : Bucket) → (partial q x).count ≡ x.count - q
unfolding partial
partial-count q x = refl

pub partial-time : (q : ℕ) (x : Bucket) → partial q x ≡ bucket (partial q x).count (partial q x).declined x.time
unfolding partial
partial-time q x = refl

pub partial-least : (q : ℕ) (x : Bucket) → x.declined ≤ x.count → (partial q x).declined ≤ (partial q x).count
unfolding partial
partial-least q x h = mul_div-le-right x.declined (x.count - q) x.count h

pub partial-fewer : (q : ℕ) (x : Bucket) → (partial q x).declined ≤ x.declined
unfolding partial
partial-fewer q x = mul_div-le x.declined (x.count - q) x.count (omega arith)

pub parted-fine : (p : HistoryPreservation) (q lo : ℕ) (zs : List Bucket) (hi : ℕ) → Fine lo zs hi → Fine lo (parted_at p q zs) hi
unfolding parted_at
parted-fine p q lo zs hi f = go (eqb q 0)
  where
    go : (e : Bool) → Fine lo (cond e zs (set zs (lost_at p (length zs) 0) (partial q (get_or zs (lost_at p (length zs) 0) no_bucket)))) hi
    go true = f
    go false =
        let i = lost_at p (length zs) 0 in
        let x = get_or zs i no_bucket in
        subst (λ (y : Bucket). Fine lo (set zs i y) hi) (sym (partial-time q x))
        (fine-set i lo zs (partial q x).count (partial q x).declined hi (partial-least q x (fine-at i lo zs hi f)) f)

parts : (p : HistoryPreservation) (m : ℕ) (xs : List Bucket) (k q : ℕ) → Cuts p m xs k q → m ≤ counts xs → (e : Bool) → eqb q 0 ≡ e →
    Reduced m xs (parted_at p q (out p k xs))
parts p m xs k q c h true e =
    let z : q ≡ 0 = eqb-true _ _ e in
    rw (parted-at-zero p q (out p k xs) z)
    (record { count = omega (arith, c.least, out-sum p count_of k xs c.within); fewer = omega (arith, out-sum p denied_of k xs c.within) })
parts p m xs k q c h false e =
    let n : q ≢ 0 = eqb-false _ _ e in
    let zs = out p k xs in
    let i = lost_at p (length zs) 0 in
    let x = get_or zs i no_bucket in
    let j = c.next n h in
    let l = lost-lt p (length zs) 0 j.0 in
    rw (parted-at-some p q zs n) (record {
      count = omega (arith, c.least, out-sum p count_of k xs c.within, sum-set count_of zs i (partial q x) l, partial-count q x, j.1);
      fewer = omega (arith, out-sum p denied_of k xs c.within, sum-set denied_of zs i (partial q x) l, partial-fewer q x);
    })

pub shrunk-leaves : (p : HistoryPreservation) (m : ℕ) (xs : List Bucket) → m ≤ counts xs → Reduced m xs (shrunk p m xs)
shrunk-leaves p m xs h = let c = cuts p m xs in subst (λ (ys : List Bucket). Reduced m xs ys) (sym c.is) (parts p m xs _ _ c h _ refl)
