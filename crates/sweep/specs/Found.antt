-- What the pass finds is what the rules say: sound exactly where the buckets are, and there the expired and the live sums.
-- Assumes nothing.
use Rattle.std.specs.Prelude.{◌≡◌, refl, Bool, true, false, cond, List, [], ◌∷◌, ℕ, suc, ◌+◌, ◌-◌, ◌≤◌, ◌<◌, length, get_or, drop, leb, eqb}
use Rattle.std.proofs.Math.Path.{sym}
use Rattle.std.proofs.Common.{ap, ◌∙◌, arith, le-leb, leb-true, le-ltb, ltb-false, eq-eqb, eqb-true}
use Rattle.base.specs.Decides.{both_ways, and-true, not_so}
use Rattle.layout.specs.Layout.{most_total}
use Rattle.ring.specs.declared.Bucket.{Bucket}
use Rattle.ring.specs.Ring.{no_bucket, sum_of, counts, declineds, total_of, declined_of, len_of, buckets, Shape}
use Rattle.ring.specs.Order.{Fine}
use Rattle.ring.specs.Sound.{sound_buckets, sound-true, true-sound}
use Rattle.sweep.specs.declared.tally.Tally.{Tally}
use Rattle.sweep.specs.declared.tally.Gone.{Gone}
use Rattle.rules.specs.Buckets.{older, recent, ahead}
use Rattle.sweep.specs.Sweep.{good_of, step_of, ended_of, swept, begun, sweep_of, fewer, gone_from, gone_none, gone_of, telling, found, unsound}
use Rattle.sweep.specs.Sweep.{pick, pass_of}

-- ---- where times do not fall, the buckets over w are the oldest ones

young-all : (w t lo hi : ℕ) (xs : List Bucket) → Fine lo xs hi → t - lo ≤ w → recent w t xs ≡ xs
unfolding recent older
young-all w t lo hi [] f h = refl
young-all w t lo hi (x ∷ xs) f h =
    let y : t - x.time ≤ w = omega arith in
    simp (le-ltb _ _ y) (ap (λ (ys : List Bucket). x ∷ ys) (young-all w t x.time hi xs f.3 y))

pub recent-drop : (w t lo hi : ℕ) (xs : List Bucket) → Fine lo xs hi → recent w t xs ≡ drop (ahead w t xs) xs
unfolding recent ahead older
recent-drop w t lo hi [] f = refl
recent-drop w t lo hi (x ∷ xs) f = go (older w t x) refl (recent-drop w t x.time hi xs f.3)
  where
    go : (o : Bool) → older w t x ≡ o → recent w t xs ≡ drop (ahead w t xs) xs →
        cond o (recent w t xs) (x ∷ recent w t xs) ≡ drop (cond o (suc (ahead w t xs)) 0) (x ∷ xs)
    go true e i = i
    go false e i = ap (λ (ys : List Bucket). x ∷ ys) (young-all w t x.time hi xs f.3 (ltb-false w (t - x.time) e))

pub ahead-le : (w t : ℕ) (xs : List Bucket) → ahead w t xs ≤ length xs
unfolding ahead
ahead-le w t [] = omega arith
ahead-le w t (x ∷ xs) = go (older w t x) (ahead-le w t xs)
  where
    go : (o : Bool) → ahead w t xs ≤ length xs → cond o (suc (ahead w t xs)) 0 ≤ suc (length xs)
    go true h = omega arith
    go false h = omega arith

-- ---- the expired

pub gone-ahead : (w t : ℕ) (g : Gone) (xs : List Bucket) → (gone_from w t g xs).buckets ≡ g.buckets + ahead w t xs
unfolding gone_from ahead
gone-ahead w t g [] = omega arith
gone-ahead w t g (x ∷ xs) = go (older w t x) (gone-ahead w t (fewer g x) xs)
  where
    go : (o : Bool) → (gone_from w t (fewer g x) xs).buckets ≡ g.buckets + 1 + ahead w t xs →
        (cond o (gone_from w t (fewer g x) xs) g).buckets ≡ g.buckets + cond o (suc (ahead w t xs)) 0
    go true i = omega (arith, i)
    go false i = omega arith

pub gone-total : (w t : ℕ) (g : Gone) (xs : List Bucket) → counts xs ≡ g.total → (gone_from w t g xs).total ≡ counts (drop (ahead w t xs) xs)
unfolding gone_from ahead sum_of
gone-total w t g [] e = sym e
gone-total w t g (x ∷ xs) e = go (older w t x) (gone-total w t (fewer g x) xs (omega (arith, e)))
  where
    go : (o : Bool) → (gone_from w t (fewer g x) xs).total ≡ counts (drop (ahead w t xs) xs) →
        (cond o (gone_from w t (fewer g x) xs) g).total ≡ counts (drop (cond o (suc (ahead w t xs)) 0) (x ∷ xs))
    go true i = i
    go false i = sym e

pub gone-declined : (w t : ℕ) (g : Gone) (xs : List Bucket) → declineds xs ≡ g.declined → (gone_from w t g xs).declined ≡ declineds (drop (ahead w t xs) xs)
unfolding gone_from ahead sum_of
gone-declined w t g [] e = sym e
gone-declined w t g (x ∷ xs) e = go (older w t x) (gone-declined w t (fewer g x) xs (omega (arith, e)))
  where
    go : (o : Bool) → (gone_from w t (fewer g x) xs).declined ≡ declineds (drop (ahead w t xs) xs) →
        (cond o (gone_from w t (fewer g x) xs) g).declined ≡ declineds (drop (cond o (suc (ahead w t xs)) 0) (x ∷ xs))
    go true i = i
    go false i = sym e

-- ---- a sweep stays sound exactly where the buckets are in order and the totals are their sums

record Keeps (last : ℕ) (a : Tally) (xs : List Bucket) : Type 0 where
  pub past : a.lo ≤ last
  pub order : Fine a.lo xs last
  pub left : counts xs ≡ a.left
  pub spare : declineds xs ≡ a.spare

record Good (a : Tally) (x : Bucket) : Type 0 where
  pub up : a.lo ≤ x.time
  pub most : x.declined ≤ x.count
  pub left : x.count ≤ a.left
  pub spare : x.declined ≤ a.spare

good-true : (a : Tally) (x : Bucket) → good_of a x ≡ true → Good a x
unfolding good_of
good-true a x e =
    let p = and-true (leb a.lo x.time) _ e in
    let q = and-true (leb x.declined x.count) _ p.1 in
    let s = and-true (leb x.count a.left) _ q.1 in
    record { up = leb-true _ _ p.0; most = leb-true _ _ q.0; left = leb-true _ _ s.0; spare = leb-true _ _ s.1 }

true-good : (a : Tally) (x : Bucket) → Good a x → good_of a x ≡ true
unfolding good_of
true-good a x g = simp (le-leb _ _ g.up, le-leb _ _ g.most, le-leb _ _ g.left, le-leb _ _ g.spare)

keeps_on : (last : ℕ) (a : Tally) (x : Bucket) (xs : List Bucket) → Good a x → Keeps last (step_of a x) xs → Keeps last a (x ∷ xs)
unfolding step_of sum_of
keeps_on last a x xs g k =
    record {
      past = omega (arith, g.up, k.past);
      order = (g.up, k.past, g.most, k.order);
      left = omega (arith, g.left, k.left);
      spare = omega (arith, g.spare, k.spare);
    }

keeps-good : (last : ℕ) (a : Tally) (x : Bucket) (xs : List Bucket) → Keeps last a (x ∷ xs) → good_of a x ≡ true
unfolding sum_of
keeps-good last a x xs k = true-good a x (record { up = k.order.0; most = k.order.2; left = omega (arith, k.left); spare = omega (arith, k.spare) })

keeps-back : (last : ℕ) (a : Tally) (x : Bucket) (xs : List Bucket) → Keeps last a (x ∷ xs) → Keeps last (step_of a x) xs
unfolding step_of sum_of
keeps-back last a x xs k = record { past = k.order.1; order = k.order.3; left = omega (arith, k.left); spare = omega (arith, k.spare) }

keeps-true : (last : ℕ) (a : Tally) (xs : List Bucket) → swept last a xs ≡ true → Keeps last a xs
unfolding swept ended_of sum_of
keeps-true last a [] h =
    let p = and-true (leb a.lo last) _ h in
    let q = and-true (eqb a.left 0) _ p.1 in
    record { past = leb-true _ _ p.0; order = tt; left = sym (eqb-true _ _ q.0); spare = sym (eqb-true _ _ q.1) }
keeps-true last a (x ∷ xs) h =
    let p = and-true (good_of a x) _ h in
    keeps_on last a x xs (good-true a x p.0) (keeps-true last (step_of a x) xs p.1)

true-keeps : (last : ℕ) (a : Tally) (xs : List Bucket) → Keeps last a xs → swept last a xs ≡ true
unfolding swept ended_of sum_of
true-keeps last a [] k = simp (le-leb _ _ k.past, eq-eqb _ _ (sym k.left), eq-eqb _ _ (sym k.spare))
true-keeps last a (x ∷ xs) k = simp (keeps-good last a x xs k) (true-keeps last (step_of a x) xs (keeps-back last a x xs k))

-- ---- so it judges them

module _ (r : ℕ) (b : List ℕ) (last : ℕ) (sh : Shape r b) where
  -- a total over 2^53 is none
  pub sound-over : most_total < total_of b → false ≡ sound_buckets r b last
  sound-over h = sym (not_so _ (λ e. let m = (sound-true r b last e).most in omega arith))

  pub sound-swept : total_of b ≤ most_total → sweep_of r b last ≡ sound_buckets r b last
  sound-swept m = both_ways (sweep_of r b last) (sound_buckets r b last) to from
    where
      to : sweep_of r b last ≡ true → sound_buckets r b last ≡ true
      to e =
          let k = keeps-true last (begun (total_of b) (declined_of b)) (buckets r b) e in
          true-sound r b last (record { shape = sh; each = k.order; total = sym k.left; declined = sym k.spare; most = m })

      from : sound_buckets r b last ≡ true → sweep_of r b last ≡ true
      from e =
          let h = sound-true r b last e in
          true-keeps last (begun (total_of b) (declined_of b)) (buckets r b)
          (record { past = omega arith; order = h.each; left = sym h.total; spare = sym h.declined })

-- ---- the pass

module _ (r : ℕ) (b : List ℕ) (last t w : ℕ) where
  -- what is not sound finds nothing
  pub pass-not : sound_buckets r b last ≡ false → unsound ≡ pass_of r b last t w
  unfolding pass_of
  pass-not n = sym (ap (λ (f : Bool). pick f (found (len_of b) (buckets r b) t w) unsound) n)

  pub sound-is : sound_buckets r b last ≡ true → found (len_of b) (buckets r b) t w ≡ pass_of r b last t w
  unfolding pass_of
  sound-is e = sym (ap (λ (f : Bool). pick f (found (len_of b) (buckets r b) t w) unsound) e)

  -- what is sound finds what the rules say; the fields as the code has them
  pub pass-is : sound_buckets r b last ≡ true → (g : Gone) → g ≡ gone_of r b t w → (n d : ℕ) (o m f : Bucket) →
      n ≡ len_of b → d ≡ n - 1 → o ≡ get_or (buckets r b) g.buckets no_bucket → m ≡ get_or (buckets r b) d no_bucket → f ≡ get_or (buckets r b) 0 no_bucket →
      telling n g o m f ≡ pass_of r b last t w
  pass-is e g q n d o m f a z u v first =
      let k = sound-true r b last e in
      let xs = buckets r b in
      let y = gone_none (total_of b) (declined_of b) in
      let ex : g.buckets ≡ ahead w t xs = omega (arith, ap (λ (g : Gone). g.buckets) q, gone-ahead w t y xs) in
      let to = ap (λ (g : Gone). g.total) q ∙ gone-total w t y xs (sym k.total) in
      let de = ap (λ (g : Gone). g.declined) q ∙ gone-declined w t y xs (sym k.declined) in
      let old = u ∙ ap (λ (i : ℕ). get_or xs i no_bucket) ex in
      let new = v ∙ ap (λ (i : ℕ). get_or xs i no_bucket) (z ∙ ap (λ (i : ℕ). i - 1) a) in
      (λ i. telling (a i) (record { buckets = ex i; total = to i; declined = de i }) (old i) (new i) (first i)) ∙ sound-is e

-- words that do not fit
pub pass-unfit : (r : ℕ) (b : List ℕ) (last t w : ℕ) → (Shape r b → ⊥) → unsound ≡ pass_of r b last t w
unfolding pass_of
pass-unfit r b last t w n = let f : sound_buckets r b last ≡ false =
    not_so _ (λ h. n (sound-true r b last h).shape) in sym (ap (λ (f : Bool). pick f (found (len_of b) (buckets r b) t w) unsound) f)
