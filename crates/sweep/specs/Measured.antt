-- What a caller learns from a pass.
-- Assumes nothing.
use Rattle.std.specs.Prelude.{◌≡◌, refl, Bool, true, false, cond, List, [], ◌∷◌, ℕ, suc, ◌-◌, ◌≤◌, get_or, drop}
use Rattle.std.proofs.Common.{sym, ap, ◌∙◌, arith}
use Rattle.ring.specs.declared.Bucket.{Bucket}
use Rattle.ring.specs.Ring.{no_bucket, counts, declineds, len_of, buckets}
use Rattle.ring.specs.Order.{Fine}
use Rattle.ring.specs.View.{view-length}
use Rattle.ring.specs.Sound.{sound_buckets, Sound, sound-true}
use Rattle.sweep.specs.declared.tally.Pass.{Pass}
use Rattle.rules.specs.Buckets.{older, ahead, evicted, live, newest}
use Rattle.sweep.specs.Sweep.{mark, found, unsound, pick, pass_of}
use Rattle.sweep.specs.Found.{ahead-le, recent-drop}

-- k of the oldest go: of a pass those that are over the window, of a first look the same ones or none
pub record Measured (r : ℕ) (b : List ℕ) (last k : ℕ) (x : Pass) : Type 0 where
  pub sound : Sound r b last
  pub buckets-are : x.buckets ≡ len_of b
  pub expired-are : x.expired ≡ k
  pub some : x.expired ≤ len_of b
  pub total : x.live_total ≡ counts (drop x.expired (buckets r b))
  pub declined : x.live_declined ≡ declineds (drop x.expired (buckets r b))
  pub oldest-is : x.oldest ≡ mark (get_or (buckets r b) x.expired no_bucket)
  pub newest-is : x.newest_time ≡ (newest (buckets r b)).time
  pub eldest-is : x.eldest ≡ mark (get_or (buckets r b) 0 no_bucket)

-- the pass says whether the buckets are sound
pub pass-judges : (r : ℕ) (b : List ℕ) (last t w : ℕ) (x : Pass) → x ≡ pass_of r b last t w → x.sound ≡ sound_buckets r b last
unfolding pass_of
pass-judges r b last t w x e = ap (λ (y : Pass). y.sound) e ∙ go (sound_buckets r b last)
  where
    go : (s : Bool) → (pick s (found (len_of b) (buckets r b) t w) unsound).sound ≡ s
    go true = refl
    go false = refl

-- and where they are, what the rules say of them
pub pass-measures : (r : ℕ) (b : List ℕ) (last t w : ℕ) (x : Pass) → x ≡ pass_of r b last t w → x.sound ≡ true → Measured r b last (ahead w t (buckets r b)) x
unfolding pass_of
pass-measures r b last t w x e s =
    let q : sound_buckets r b last ≡ true = sym (pass-judges r b last t w x e) ∙ s in
    let xs = buckets r b in
    let f : x ≡ found (len_of b) xs t w = e ∙ ap (λ (s : Bool). pick s (found (len_of b) xs t w) unsound) q in
    let k : x.expired ≡ ahead w t xs = ap (λ (y : Pass). y.expired) f in
    record {
      sound = sound-true r b last q;
      buckets-are = ap (λ (y : Pass). y.buckets) f;
      expired-are = k;
      some = omega (arith, k, ahead-le w t xs, view-length r b);
      total = ap (λ (y : Pass). y.live_total) f ∙ ap (λ (i : ℕ). counts (drop i xs)) (sym k);
      declined = ap (λ (y : Pass). y.live_declined) f ∙ ap (λ (i : ℕ). declineds (drop i xs)) (sym k);
      oldest-is = ap (λ (y : Pass). y.oldest) f ∙ ap (λ (i : ℕ). mark (get_or xs i no_bucket)) (sym k);
      newest-is = ap (λ (y : Pass). y.newest_time) f ∙ ap (λ (n : ℕ). (get_or xs (n - 1) no_bucket).time) (sym (view-length r b));
      eldest-is = ap (λ (y : Pass). y.eldest) f;
    }

-- ---- what a caller asks and gets when it evicts what the pass found expired

-- taking the expired out wherever they stand is taking the oldest ones out
pub evicted-live : (w t lo hi : ℕ) (xs : List Bucket) → Fine lo xs hi → evicted w t xs ≡ live w t xs
evicted-live w t lo hi xs f = recent-drop w t lo hi xs f

-- and none that is left at the front is expired
pub ahead_after : (w t : ℕ) (xs : List Bucket) → ahead w t (drop (ahead w t xs) xs) ≡ 0
unfolding ahead
ahead_after w t [] = refl
ahead_after w t (x ∷ xs) = go (older w t x) refl (ahead_after w t xs)
  where
    go : (o : Bool) → older w t x ≡ o → ahead w t (drop (ahead w t xs) xs) ≡ 0 → ahead w t (drop (cond o (suc (ahead w t xs)) 0) (x ∷ xs)) ≡ 0
    go true e i = i
    go false e i = ap (λ (o : Bool). cond o (suc (ahead w t xs)) 0) e
