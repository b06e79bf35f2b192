-- Which age each rule goes by, in document 01's and ticket 8's words: the join, the last second and a first look go by the age cut to milliseconds, which is
-- the age in ticks held against one tick less than a millisecond more. And what a first look leaves: where a millisecond has one tick, what is live.
-- Assumes nothing.
use Rattle.std.specs.Prelude.{◌≡◌, Bool, ◌&&◌, ℕ, suc, ◌≤◌, leb, ltb, length, get_or, drop}
use Rattle.std.proofs.Math.Path.{refl, sym, subst}
use Rattle.std.proofs.Common.{ap, ◌∙◌, arith}
use Rattle.std.proofs.Math.Bool.{true, false, cond}
use Rattle.std.proofs.lemmas.Bool.{false≢true}
use mathlib.Core.List.{List, [], ◌∷◌}
use borrow.Author.Tests.{lt-ltb, le-ltb, ltb-true, ltb-false}
use Rattle.base.specs.Decides.{not_so}
use Rattle.settings.specs.Settings.{window_in, bucket_in}
use Rattle.settings.specs.Clock.{age, age_in_milliseconds, ticks_in, longest, window_in_milliseconds, window_ticks, look_ticks, join_ticks}
use Rattle.settings.specs.Clock.{ticks-some, cut-over, cut-within}
use Rattle.settings.specs.declared.Settings.{Settings}
use Rattle.ring.specs.declared.Bucket.{Bucket}
use Rattle.ring.specs.Ring.{no_bucket}
use Rattle.rules.specs.Buckets.{older, ahead, gone, live, gone_if, out_if, newest, joins}
use Rattle.rules.specs.Both.{overdue}

-- "joins the newest bucket at age at most b"
pub joins-cut : (s : Settings) (t : ℕ) (xs : List Bucket) →
    joins (join_ticks s) t xs ≡ ltb 0 (length xs) && leb (age_in_milliseconds (ticks_in s) t (newest xs).time) (bucket_in s)
unfolding joins
joins-cut s t xs = ap (λ (z : Bool). ltb 0 (length xs) && z) (sym (cut-within (ticks_in s) (ticks-some s) (age t (newest xs).time) (bucket_in s)))

-- "the counts at age at most 1000 ms", and a first look: over m milliseconds
pub older-cut : (n m t : ℕ) (x : Bucket) → 1 ≤ n → older (longest n m) t x ≡ ltb m (age_in_milliseconds n t x.time)
unfolding older
older-cut n m t x some = sym (cut-over n some (age t x.time) m)

module _ (s : Settings) (t : ℕ) where
  pub overdue-ticks : (xs : List Bucket) → overdue s t xs ≡ ltb 0 (length xs) && older (look_ticks s) t (get_or xs 0 no_bucket)
  unfolding overdue
  overdue-ticks [] = refl
  overdue-ticks (x ∷ xs) =
      sym (older-cut (ticks_in s) (window_in_milliseconds (window_in s)) t x (ticks-some s)) ∙
      sym (ap (λ (z : Bool). z && older (look_ticks s) t x) (lt-ltb 0 (length (x ∷ xs)) (omega arith)))

  -- what is over the window by its milliseconds is over it
  pub overdue-gone : (xs : List Bucket) → overdue s t xs ≡ true → 1 ≤ gone (window_ticks s) t xs
  unfolding overdue older ahead
  overdue-gone [] e = absurd (false≢true e)
  overdue-gone (x ∷ xs) e =
      let W = window_in_milliseconds (window_in s) in
      let l = ltb-true (look_ticks s) (age t x.time) (sym (cut-over (ticks_in s) (ticks-some s) (age t x.time) W) ∙ e) in
      subst (λ (z : Bool). 1 ≤ cond z (suc (ahead (window_ticks s) t xs)) 0) (sym (lt-ltb (window_ticks s) (age t x.time) (omega arith))) (omega arith)

  -- so where nothing is expired a first look leaves all
  pub none-overdue : (xs : List Bucket) → gone (window_ticks s) t xs ≡ 0 → overdue s t xs ≡ false
  none-overdue xs e = not_so (overdue s t xs) (λ o. omega (arith, overdue-gone xs o))

  -- and where it leaves all, the oldest is a millisecond over the window at most
  pub looked-oldest : (x : Bucket) (xs : List Bucket) → overdue s t (x ∷ xs) ≡ false → age t x.time ≤ look_ticks s
  unfolding overdue
  looked-oldest x xs e =
      ltb-false (look_ticks s) (age t x.time) (sym (cut-over (ticks_in s) (ticks-some s) (age t x.time) (window_in_milliseconds (window_in s))) ∙ e)

  -- where a millisecond has one tick, a first look evicts exactly where something is expired
  pub exact-gone : ticks_in s ≡ 1 → (xs : List Bucket) → gone_if (overdue s t xs) (window_ticks s) t xs ≡ gone (window_ticks s) t xs
  unfolding older ahead
  exact-gone one xs = go xs (overdue s t xs) refl
    where
      go : (ys : List Bucket) (z : Bool) → overdue s t ys ≡ z → gone_if z (window_ticks s) t ys ≡ gone (window_ticks s) t ys
      go ys true e = refl
      go [] false e = refl
      go (y ∷ ys) false e =
          let l = looked-oldest y ys e in
          sym (ap (λ (z : Bool). cond z (suc (ahead (window_ticks s) t ys)) 0) (le-ltb (window_ticks s) (age t y.time) (omega arith)))

  pub exact-look : ticks_in s ≡ 1 → (xs : List Bucket) → out_if (overdue s t xs) (window_ticks s) t xs ≡ live (window_ticks s) t xs
  exact-look one xs = ap (λ (k : ℕ). drop k xs) (exact-gone one xs)
