-- A key's buckets as a log of what each has admitted: what eviction, an increment and a drop of the series make of it.
-- In ticks are w, the window, t, the reading, and b, the longest age that joins; c is the count, d how much of it is declined.
-- Assumes nothing.
use Rattle.std.specs.Prelude.{◌≡◌, Bool, length, set, leb}
use Rattle.std.proofs.Math.Path.{refl, ap}
use Rattle.std.proofs.Math.Bool.{true, false, cond}
use mathlib.Core.List.{List, [], ◌∷◌, ◌++◌}
use Prim.Native.Nat.{ℕ, suc, ◌+◌, ◌-◌, ◌≤◌, ◌<◌}
use Rattle.std.proofs.Math.Decide.{dec_le}
use native.Mathlib.Omega.{arith}
use Rattle.std.proofs.Math.ListN.{get_or}
use borrow.Author.Tests.{leb-true, lt-ltb, ltb-true, ltb-false}
use Rattle.rules.specs.Buckets.{older, recent, newest, raised, joins, joined}
use Rattle.ring.specs.declared.Bucket.{Bucket}
use Rattle.ring.specs.Order.{Fine}
use Rattle.ring.specs.Ring.{bucket, no_bucket, sum_of, counts, declineds}
use Rattle.admissions.specs.Log.{pick, since}
use Rattle.admissions.proofs.Log.{pick-mono}
use Rattle.admissions.specs.Buckets.{mass}

-- the totals are what the entries come to
pub mass-total : (lo : ℕ) (xs : List Bucket) (hi : ℕ) → Fine lo xs hi → declineds xs + since 0 (mass xs) ≡ counts xs
unfolding sum_of
mass-total lo [] hi f = refl
mass-total lo (x ∷ xs) hi f = go (dec_le 0 x.time) (mass-total x.time xs hi f.3)
  where
    go : (p : Dec (0 ≤ x.time)) → declineds xs + since 0 (mass xs) ≡ counts xs →
        (x.declined + declineds xs) + (pick p (x.count - x.declined) + since 0 (mass xs)) ≡ x.count + counts xs
    go (yes p) g = omega (arith, f.2)
    go (no p) g = omega arith

-- ---- eviction

module _ (w t : ℕ) where
  older-past : (x : Bucket) → older w t x ≡ true → w < t - x.time
  unfolding older
  older-past x e = ltb-true w (t - x.time) e

  older-not : (x : Bucket) → older w t x ≡ false → t - x.time ≤ w
  unfolding older
  older-not x e = ltb-false w (t - x.time) e

  pub evict-less : (x : ℕ) (xs : List Bucket) → since x (mass (recent w t xs)) ≤ since x (mass xs)
  unfolding recent
  evict-less x [] = omega arith
  evict-less x (y ∷ ys) = go (older w t y) (evict-less x ys)
    where
      go : (o : Bool) → since x (mass (recent w t ys)) ≤ since x (mass ys) →
          since x (mass (cond o (recent w t ys) (y ∷ recent w t ys))) ≤ since x (mass (y ∷ ys))
      go true g = omega arith
      go false g = omega arith

  none_of : (x n : ℕ) (y : Bucket) → t ≤ x + w → w < t - y.time → (p : Dec (x ≤ y.time)) → pick p n ≡ 0
  none_of x n y f g (yes p) = absurd (omega arith)
  none_of x n y f g (no p) = refl

  -- nothing goes that is live
  pub evict-keeps : (x : ℕ) → t ≤ x + w → (xs : List Bucket) → since x (mass xs) ≤ since x (mass (recent w t xs))
  unfolding recent
  evict-keeps x f [] = omega arith
  evict-keeps x f (y ∷ ys) = go (older w t y) refl (evict-keeps x f ys)
    where
      go : (o : Bool) → older w t y ≡ o → since x (mass ys) ≤ since x (mass (recent w t ys)) →
          since x (mass (y ∷ ys)) ≤ since x (mass (cond o (recent w t ys) (y ∷ recent w t ys)))
      go true e g = omega (arith, none_of x (y.count - y.declined) y f (older-past y e) (dec_le x y.time))
      go false e g = omega arith

  -- all that stays is live
  pub evict-live : (xs : List Bucket) → since 0 (mass (recent w t xs)) ≤ since (t - w) (mass xs)
  unfolding recent
  evict-live [] = omega arith
  evict-live (y ∷ ys) = go (older w t y) refl (evict-live ys)
    where
      go : (o : Bool) → older w t y ≡ o → since 0 (mass (recent w t ys)) ≤ since (t - w) (mass ys) →
          since 0 (mass (cond o (recent w t ys) (y ∷ recent w t ys))) ≤ since (t - w) (mass (y ∷ ys))
      go true e g = omega arith
      go false e g =
          omega (arith, pick-mono (dec_le 0 y.time) (dec_le (t - w) y.time) (y.count - y.declined) (λ z. omega (arith, older-not y e)))

  -- where times do not fall, none is older than the oldest
  pub recent-all : (lo : ℕ) (xs : List Bucket) (hi : ℕ) → Fine lo xs hi → t - lo ≤ w → recent w t xs ≡ xs
  unfolding recent
  recent-all lo [] hi f h = refl
  recent-all lo (y ∷ ys) hi f h = go (older w t y) refl (recent-all y.time ys hi f.3 (omega (arith, f.0)))
    where
      go : (o : Bool) → older w t y ≡ o → recent w t ys ≡ ys → cond o (recent w t ys) (y ∷ recent w t ys) ≡ y ∷ ys
      go true e g = absurd (omega (arith, older-past y e, f.0))
      go false e g = ap (λ (zs : List Bucket). y ∷ zs) g

-- ---- an increment, bucket by bucket

cond-cons : (j : Bool) (x : Bucket) (xs ys : List Bucket) → cond j (x ∷ xs) (x ∷ ys) ≡ x ∷ cond j xs ys
cond-cons true x xs ys = refl
cond-cons false x xs ys = refl

module _ (b t c d : ℕ) where
  joined-none : joined b t c d [] ≡ bucket c d t ∷ []
  unfolding joined joins
  joined-none = refl

  joined-one : (x : Bucket) → joined b t c d (x ∷ []) ≡
      cond (leb (t - x.time) b) (bucket (x.count + c) (x.declined + d) x.time ∷ []) (x ∷ bucket c d t ∷ [])
  unfolding joined joins raised
  joined-one x = refl

  joined-more : (x y : Bucket) (r : List Bucket) → joined b t c d (x ∷ (y ∷ r)) ≡ x ∷ joined b t c d (y ∷ r)
  unfolding joined joins raised
  joined-more x y r =
      let k : suc (suc (length r)) - 1 ≡ suc (suc (length r) - 1) = omega arith in
      let i = suc (length r) - 1 in
      let z = get_or (y ∷ r) i no_bucket in
      rw (k, lt-ltb 0 (suc (suc (length r))) (omega arith), lt-ltb 0 (suc (length r)) (omega arith))
      (cond-cons (leb (t - z.time) b) x (set (y ∷ r) i (bucket (z.count + c) (z.declined + d) z.time)) ((y ∷ r) ++ (bucket c d t ∷ [])))

  -- what is admitted now counts from now, in a bucket that is at most b older
  pub joined-low : (u : ℕ) → d ≤ c → (lo : ℕ) (xs : List Bucket) → Fine lo xs t →
      since (u - b) (mass xs) + pick (dec_le u t) (c - d) ≤ since (u - b) (mass (joined b t c d xs))
  joined-low u le lo [] f =
      rw joined-none (omega (arith, pick-mono (dec_le u t) (dec_le (u - b) t) (c - d) (λ z. omega arith)))
  joined-low u le lo (x ∷ []) f = rw (joined-one x) (go (leb (t - x.time) b) refl)
    where
      one : (p : Dec (u - b ≤ x.time)) (q : Dec (u ≤ t)) → t - x.time ≤ b →
          pick p (x.count - x.declined) + pick q (c - d) ≤ pick p ((x.count + c) - (x.declined + d))
      one (yes p) (yes q) g = omega (arith, f.2)
      one (yes p) (no q) g = omega (arith, f.2)
      one (no p) (yes q) g = absurd (p (omega arith))
      one (no p) (no q) g = omega arith

      go : (j : Bool) → leb (t - x.time) b ≡ j →
          since (u - b) (mass (x ∷ [])) + pick (dec_le u t) (c - d) ≤ since (u - b)
          (mass (cond j (bucket (x.count + c) (x.declined + d) x.time ∷ []) (x ∷ bucket c d t ∷ [])))
      go true e = omega (arith, one (dec_le (u - b) x.time) (dec_le u t) (leb-true _ _ e))
      go false e = omega (arith, pick-mono (dec_le u t) (dec_le (u - b) t) (c - d) (λ z. omega arith))
  joined-low u le lo (x ∷ (y ∷ r)) f = rw (joined-more x y r) (omega (arith, joined-low u le x.time (y ∷ r) f.3))

  -- and in no bucket that is younger than it
  pub joined-high : (u : ℕ) → d ≤ c → (lo : ℕ) (xs : List Bucket) → Fine lo xs t →
      since u (mass (joined b t c d xs)) ≤ since u (mass xs) + pick (dec_le u t) (c - d)
  joined-high u le lo [] f = rw joined-none (omega arith)
  joined-high u le lo (x ∷ []) f = rw (joined-one x) (go (leb (t - x.time) b))
    where
      one : (p : Dec (u ≤ x.time)) (q : Dec (u ≤ t)) → pick p ((x.count + c) - (x.declined + d)) ≤ pick p (x.count - x.declined) + pick q (c - d)
      one (yes p) (yes q) = omega (arith, f.2)
      one (yes p) (no q) = absurd (q (omega (arith, f.1)))
      one (no p) (yes q) = omega arith
      one (no p) (no q) = omega arith

      go : (j : Bool) → since u (mass (cond j (bucket (x.count + c) (x.declined + d) x.time ∷ []) (x ∷ bucket c d t ∷ []))) ≤ since u
          (mass (x ∷ [])) + pick (dec_le u t) (c - d)
      go true = omega (arith, one (dec_le u x.time) (dec_le u t))
      go false = omega arith
  joined-high u le lo (x ∷ (y ∷ r)) f = rw (joined-more x y r) (omega (arith, joined-high u le x.time (y ∷ r) f.3))

-- ---- the newest bucket

newest-more : (x y : Bucket) (r : List Bucket) → newest (x ∷ (y ∷ r)) ≡ newest (y ∷ r)
newest-more x y r =
    let k : suc (suc (length r)) - 1 ≡ suc (suc (length r) - 1) = omega arith in
    ap (λ (i : ℕ). get_or (x ∷ (y ∷ r)) i no_bucket) k

-- no time is past the newest's
newest-last : (lo : ℕ) (x : Bucket) (xs : List Bucket) (hi : ℕ) → Fine lo (x ∷ xs) hi → x.time ≤ (newest (x ∷ xs)).time
newest-last lo x [] hi f = omega arith
newest-last lo x (y ∷ r) hi f = omega (arith, f.3.0, newest-last x.time y r hi f.3, ap (λ (z : Bucket). z.time) (newest-more x y r))

pub mass-old : (u lo : ℕ) (xs : List Bucket) (hi : ℕ) → Fine lo xs hi → (newest xs).time < u → since u (mass xs) ≤ 0
mass-old u lo [] hi f h = omega arith
mass-old u lo (x ∷ []) hi f h = go (dec_le u x.time)
  where
    go : (p : Dec (u ≤ x.time)) → pick p (x.count - x.declined) + 0 ≤ 0
    go (yes p) = absurd (omega arith)
    go (no p) = omega arith
mass-old u lo (x ∷ (y ∷ r)) hi f h =
    let e = ap (λ (z : Bucket). z.time) (newest-more x y r) in
    omega (arith, mass-old u x.time (y ∷ r) hi f.3 (omega arith), go (dec_le u x.time) (newest-last lo x (y ∷ r) hi f))
  where
    go : (p : Dec (u ≤ x.time)) → x.time ≤ (newest (x ∷ (y ∷ r))).time → pick p (x.count - x.declined) ≤ 0
    go (yes p) l = absurd (omega arith)
    go (no p) l = omega arith
