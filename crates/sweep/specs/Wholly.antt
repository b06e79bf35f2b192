-- Why a ring is emptied at once: in a sound slot times do not fall, so where the newest bucket is expired all are, and nothing
-- is live. w is the window in ticks: `older`, `ahead`, `recent` are `expired`, `gone`, `evicted` there.
-- Assumes nothing.
use Rattle.std.specs.Prelude.{◌≡◌, refl, Bool, true, false, cond, List, [], ◌∷◌, ℕ, zero, suc, ◌-◌, ◌≤◌, length, get_or, drop}
use Rattle.std.proofs.Math.Path.{sym}
use Rattle.std.proofs.Common.{ap, ◌∙◌, arith, drop_of_length-le, lt-ltb, ltb-true}
use Rattle.std.proofs.Math.Dec.{ltb}
use Rattle.ring.specs.declared.Bucket.{Bucket}
use Rattle.ring.specs.Ring.{bucket, no_bucket, sum_of, counts, declineds, total_of, declined_of, len_of, buckets}
use Rattle.ring.specs.Order.{Fine}
use Rattle.ring.specs.View.{view-length}
use Rattle.ring.specs.Sound.{Sound}
use Rattle.rules.specs.Buckets.{older, recent, ahead, newest, expired, gone}
use Rattle.sweep.specs.declared.tally.Gone.{Gone}
use Rattle.sweep.specs.Sweep.{gone_none, gone_of}
use Rattle.sweep.specs.Found.{gone-ahead, gone-total, gone-declined}

-- each bucket is over w
abbrev pub AllOlder : ℕ → ℕ → List Bucket → Type 0
AllOlder w t [] = Unit {0}
AllOlder w t (x ∷ xs) = (older w t x ≡ true) × AllOlder w t xs

-- a ring has wholly expired: each bucket is, as many go as there are, eviction leaves none, and both live totals are 0
pub record Wholly (w t : ℕ) (xs : List Bucket) : Type 0 where
  pub all : AllOlder w t xs
  pub all-gone : ahead w t xs ≡ length xs
  pub none_stays : recent w t xs ≡ []
  pub live-total : counts (drop (ahead w t xs) xs) ≡ 0
  pub live-declined : declineds (drop (ahead w t xs) xs) ≡ 0

-- ---- the newest has the least age

newest-on : (x y : Bucket) (ys : List Bucket) → newest (x ∷ y ∷ ys) ≡ newest (y ∷ ys)
newest-on x y ys =
    let e : length (x ∷ y ∷ ys) - 1 ≡ suc (length (y ∷ ys) - 1) = omega arith in
    ap (λ (i : ℕ). get_or (x ∷ y ∷ ys) i no_bucket) e

older-all : (w t lo hi : ℕ) (x : Bucket) (xs : List Bucket) → Fine lo (x ∷ xs) hi → older w t (newest (x ∷ xs)) ≡ true → AllOlder w t (x ∷ xs)
unfolding older
older-all w t lo hi x [] f h = (h, tt)
older-all w t lo hi x (y ∷ ys) f h =
    let i = older-all w t x.time hi y ys f.3 (sym (ap (older w t) (newest-on x y ys)) ∙ h) in
    (lt-ltb w (t - x.time) (omega (arith, f.3.0, ltb-true w (t - y.time) i.0)), i)

ahead-all : (w t : ℕ) (xs : List Bucket) → AllOlder w t xs → ahead w t xs ≡ length xs
unfolding ahead
ahead-all w t [] a = refl
ahead-all w t (x ∷ xs) a = simp a.0 (ap suc (ahead-all w t xs a.1))

recent-none : (w t : ℕ) (xs : List Bucket) → AllOlder w t xs → recent w t xs ≡ []
unfolding recent
recent-none w t [] a = refl
recent-none w t (x ∷ xs) a = simp a.0 (recent-none w t xs a.1)

wholly_of : (w t : ℕ) (xs : List Bucket) → AllOlder w t xs → Wholly w t xs
unfolding sum_of
wholly_of w t xs a =
    let g = ahead-all w t xs a in
    let l : length xs ≤ ahead w t xs = omega (arith, g) in
    let e = drop_of_length-le xs l in
    record { all = a; all-gone = g; none_stays = recent-none w t xs a; live-total = ap counts e; live-declined = ap declineds e }

-- so where the newest is over w, all are
pub wholly : (w t lo hi : ℕ) (xs : List Bucket) → Fine lo xs hi → older w t (newest xs) ≡ true → Wholly w t xs
wholly w t lo hi [] f h = wholly_of w t [] tt
wholly w t lo hi (x ∷ xs) f h = wholly_of w t (x ∷ xs) (older-all w t lo hi x xs f h)

-- and only there, if there is any
pub only-wholly : (w t : ℕ) (x : Bucket) (xs : List Bucket) → ahead w t (x ∷ xs) ≡ length (x ∷ xs) → older w t (newest (x ∷ xs)) ≡ true
unfolding ahead
only-wholly w t x [] e = alone (older w t x) e
  where
    alone : (o : Bool) → cond o (suc zero) 0 ≡ suc zero → o ≡ true
    alone true e = refl
    alone false e = absurd (omega (arith, e))
only-wholly w t x (y ∷ ys) e = ap (older w t) (newest-on x y ys) ∙ only-wholly w t y ys (rest (older w t x) e)
  where
    rest : (o : Bool) → cond o (suc (ahead w t (y ∷ ys))) 0 ≡ suc (length (y ∷ ys)) → ahead w t (y ∷ ys) ≡ length (y ∷ ys)
    rest true e = omega (arith, e)
    rest false e = absurd (omega (arith, e))

-- ---- of a sound slot

module _ (r : ℕ) (b : List ℕ) (last : ℕ) (s : Sound r b last) (w t : ℕ) where
  pub sound-wholly : older w t (newest (buckets r b)) ≡ true → Wholly w t (buckets r b)
  sound-wholly h = wholly w t 0 last (buckets r b) s.each h

  -- so all there are go, and both totals come to 0; by the newest's time, as the code has it
  pub gone-wholly : (n time : ℕ) → n ≡ len_of b → time ≡ (newest (buckets r b)).time → ltb w (t - time) ≡ true →
      ◌≡◌ {A = Gone} (record { buckets = n; total = 0; declined = 0 }) (gone_of r b t w)
  unfolding older
  gone-wholly n time e y h =
      let xs = buckets r b in
      let none = gone_none (total_of b) (declined_of b) in
      let a = sound-wholly (sym (ap (λ (i : ℕ). ltb w (t - i)) y) ∙ h) in
      let k : n ≡ (gone_of r b t w).buckets = omega (arith, e, gone-ahead w t none xs, a.all-gone, view-length r b) in
      let c = sym (gone-total w t none xs (sym s.total) ∙ a.live-total) in
      let f = sym (gone-declined w t none xs (sym s.declined) ∙ a.live-declined) in
      λ i. record { buckets = k i; total = c i; declined = f i }

-- the newest is where the code looks for it
pub newest-at : (r : ℕ) (b : List ℕ) (n d : ℕ) (x : Bucket) → n ≡ len_of b → d ≡ n - 1 → x ≡ get_or (buckets r b) d no_bucket → x ≡ newest (buckets r b)
newest-at r b n d x e z v = v ∙ ap (λ (i : ℕ). get_or (buckets r b) i no_bucket) (z ∙ ap (λ (i : ℕ). i - 1) (e ∙ sym (view-length r b)))

-- ---- what it rests on

-- the oldest would not do: it is expired here, and the newest, at age exactly the window, is live
pub oldest-too-early : (expired 10000 20000 (bucket 1 0 9999) ≡ true) × (gone 10000 20000 (bucket 1 0 9999 ∷ bucket 1 0 10000 ∷ []) ≡ 1)
unfolding ahead older
oldest-too-early = (refl, refl)

-- nor would the newest at age exactly the window: nothing goes there, and a millisecond on all do
pub window-too-early : (gone 10000 20000 (bucket 1 0 10000 ∷ bucket 1 0 10000 ∷ []) ≡ 0) × (gone 10000 20001 (bucket 1 0 10000 ∷ bucket 1 0 10000 ∷ []) ≡ 2)
unfolding ahead older
window-too-early = (refl, refl)

-- where times fall, as in no sound slot, the newest tells nothing of the others
abbrev falling : List Bucket
falling = bucket 1 0 10000 ∷ bucket 1 0 9999 ∷ []

pub order-needed : (expired 10000 20000 (newest falling) ≡ true) × (gone 10000 20000 falling ≡ 0)
unfolding ahead older
order-needed = (refl, refl)
