-- The factor of every decision and snapshot that is not refused is a double in 0 to 1 with its sign clear, and so is every factor that is cached.
-- Assumes nothing.
use Rattle.std.specs.Prelude.{◌≡◌, Bool, true, false, not, ◌&&◌, ◌||◌, cond, List, ℕ, ◌^◌, ◌≤◌, ◌<◌, T, leb, ltb, eqb, Float, Result, Ok, Err, Option, Some, None}
use Rattle.std.proofs.Math.Path.{refl}
use Rattle.std.proofs.Common.{ap, subst, ◌∙◌, arith, ltb-true, ltb-false}
use Rattle.std.specs.Float.{nan, inf, fin, binary64}
use Rattle.std.specs.Float.Ieee.{le, fits, is_nan, of_bits, to_bits}
use Rattle.std.specs.Float.Ieee.Bits.{of_bits-fits, to_bits-of_bits}
use Rattle.base.specs.Decides.{and-true}
use Rattle.suppression.specs.Factor.{Unit01, factor_word_ok}
use Rattle.common_laws.specs.FactorLaws.{Counted, fresh-unit, fresh_ok, fresh-fits, factor-unit, nil_word, one_word, nil-ok, one_ok, nil-word, one-word}
use Rattle.common.specs.Ranges.{nil, one}
use Rattle.common.specs.Limits.{cut_word, soft_word}
use Rattle.settings.specs.Settings.{window_in, factor_in, Proper}
use Rattle.settings.specs.Clock.{age, ticks_in, cache_ticks}
use Rattle.settings.specs.declared.Settings.{Settings}
use Rattle.answers.specs.declared.RateLimitDecision.{RateLimitDecision}
use Rattle.answers.specs.declared.RateLimitDecision.TheVariants.{Allowed, Rejected, Suppressed, Refused}
use Rattle.opened.specs.declared.Slot.{Slot}
use Rattle.rules.specs.declared.FactorRule.{FactorRule}
use Rattle.rules.specs.declared.FactorRule.TheVariants.{Nil, One, Worked}
use Rattle.rules.specs.declared.Asked.{Asked}
use Rattle.rules.specs.declared.Reach.{Reach}
use Rattle.rules.specs.declared.Reach.TheVariants.{Hard, Soft, Over, Between}
use Rattle.factor_opened.specs.Opened.{left, stays_at, usable_at, rule_at, second_at, worked_at, asked_at}
use Rattle.forecast_opened.specs.Forecast.{accepted_at, outcome_at}
use Rattle.rules.specs.Suppressed.{fresh_by, as_cached, reach_of, drawn, outcome_of}
use Rattle.suppressed_verdicts.specs.Standing.{Sums}
use Rattle.common.specs.declared.refusal.Refusal.{Refusal}
use Rattle.answers.specs.declared.SuppressedRateLimitSnapshot.{SuppressedRateLimitSnapshot}
use Rattle.suppression.specs.declared.CachedFactor.{CachedFactor}

-- ---- 0 and 1

unit-nil : Unit01 nil
unit-nil = subst (λ (f : Float). Unit01 f) nil-word (factor-unit nil_word nil-ok)

unit-one : Unit01 one
unit-one = subst (λ (f : Float). Unit01 f) one-word (factor-unit one_word one_ok)

word-nil : factor_word_ok (to_bits binary64 nil) ≡ true
unfolding to_bits
word-nil = nil-ok

word-one : factor_word_ok (to_bits binary64 one) ≡ true
unfolding to_bits
word-one = one_ok

-- the factor f that is given lies in 0 to 1 and its sign is clear, and so is what is cached
pub record Within01 (f : Float) : Type 0 where
  pub unit : Unit01 f
  pub word : factor_word_ok (to_bits binary64 f) ≡ true
  pub double : T (fits binary64 f)

pub nil-within : Within01 nil
unfolding fits
nil-within = record { unit = unit-nil; word = word-nil; double = tt }

one-within : Within01 one
unfolding fits
one-within = record { unit = unit-one; word = word-one; double = tt }

no_nan : (f : Float) → T (le nil f) → T (not (is_nan f))
unfolding le is_nan
no_nan nan h = h
no_nan (inf s) h = tt
no_nan (fin s m e) h = tt

-- a word that is sound holds such a factor
word-within : (n : ℕ) → factor_word_ok n ≡ true → Within01 (of_bits binary64 n)
unfolding factor_word_ok
word-within n e =
    let unit = factor-unit n e in
    let low : n < 2 ^ 63 = ltb-true n (2 ^ 63) (and-true (ltb n (2 ^ 63)) _ e).0 in
    let back : to_bits binary64 (of_bits binary64 n) ≡ n = to_bits-of_bits binary64 n (omega (arith, low)) (no_nan (of_bits binary64 n) unit.0) in
    record { unit = unit; word = ap factor_word_ok back ∙ e; double = of_bits-fits binary64 n }

-- ---- a factor that is worked out

nil-worked : {A : Type 0} → Nil ≡ Worked → A
nil-worked e = let z : ◌≡◌ {A = ℕ} 0 1 = cc in absurd (omega arith)

one-worked : {A : Type 0} → One ≡ Worked → A
one-worked e = let z : ◌≡◌ {A = ℕ} 0 1 = cc in absurd (omega arith)

third : (a b d e : Bool) → cond a Nil (cond b One (cond d Nil (cond e One Worked))) ≡ Worked → d ≡ false
third true b d e h = nil-worked h
third false true d e h = one-worked h
third false false true e h = nil-worked h
third false false false e h = refl

worked-soft : (S H : ℕ) (x : Slot) → rule_at S H x ≡ Worked → S ≤ accepted_at x
unfolding rule_at
worked-soft S H x h = ltb-false (accepted_at x) S
    (third (not x.series || eqb (left x) 0) (leb H x.pass.live_total) (ltb (accepted_at x) S) (eqb (accepted_at x) S && eqb S H) h)

module _ (n : ℕ) (w : List ℕ) (t : ℕ) (x : Slot) (o : Sums n w t x) (W : ℕ) (p : 1 ≤ W) (q : W ≤ 33554432) where
  by-rule : (S H : ℕ) (r : FactorRule) → rule_at S H x ≡ r → Within01 (fresh_by r S x.pass.live_total W (second_at n w t x))
  by-rule S H Nil e = nil-within
  by-rule S H One e = one-within
  by-rule S H Worked e =
      let l = worked-soft S H x e in
      let k : Counted S x.pass.live_total W (second_at n w t x) =
      record { soft = omega arith; few = o.most; from = p; to = q; newest = o.recent } in
      record {
        unit = fresh-unit S x.pass.live_total W (second_at n w t x) k;
        word = fresh_ok S x.pass.live_total W (second_at n w t x) k;
        double = fresh-fits S x.pass.live_total W (second_at n w t x);
      }

-- ---- the factor that is asked for

-- what is cached is sound at reading t
abbrev pub CachingOk : ℕ → Option CachedFactor → Type 0
CachingOk t None = Unit {0}
CachingOk t (Some k) = (factor_word_ok (to_bits binary64 k.suppression_factor) ≡ true) × (k.time ≤ t)

pub record AskedOk (t : ℕ) (a : Asked) : Type 0 where
  pub within : Within01 a.factor
  pub caching : CachingOk t a.caching

usable-cached : (C t : ℕ) (x : Slot) → usable_at C t x ≡ true → x.cached ≡ true
unfolding usable_at stays_at
usable-cached C t x e = (and-true x.cached (eqb x.pass.expired 0)
    (and-true (x.cached && eqb x.pass.expired 0) (ltb (age t x.factor_time) C) e).0).0

module _ (s : Settings) (p : Proper s) (w : List ℕ) (t : ℕ) (x : Slot) (o : Sums (ticks_in s) w t x)
    (h : x.cached ≡ true → factor_word_ok x.factor ≡ true) where
  worked-ok : (limit : ℕ) → AskedOk t (worked_at (factor_in s) (window_in s) (ticks_in s) w t x limit)
  unfolding worked_at
  worked-ok limit =
      let S = soft_word (factor_in s) limit in
      let H = cut_word limit in
      let r = by-rule (ticks_in s) w t x o (window_in s) p.window-low p.window-high S H (rule_at S H x) refl in
      record { within = r; caching = (r.word, omega arith) }

  by-use : (limit : ℕ) (z : Bool) → usable_at (cache_ticks s) t x ≡ z →
      AskedOk t (cond z (as_cached x.factor) (worked_at (factor_in s) (window_in s) (ticks_in s) w t x limit))
  by-use limit true e = record { within = word-within x.factor (h (usable-cached (cache_ticks s) t x e)); caching = tt }
  by-use limit false e = worked-ok limit

  pub asked-ok : (limit : ℕ) → AskedOk t (asked_at s w t x limit)
  unfolding asked_at
  asked-ok limit = by-use limit (usable_at (cache_ticks s) t x) refl

-- ---- "It lies in 0 to 1": of what each call answers that is not refused

abbrev pub SnapshotOk : Result SuppressedRateLimitSnapshot Refusal → Type 0
SnapshotOk (Ok x) = Within01 x.suppression_factor
SnapshotOk (Err n) = ⊥

abbrev pub FactorOk : Result Float Refusal → Type 0
FactorOk (Ok f) = Within01 f
FactorOk (Err n) = ⊥

-- the suppressed limiter rejects nothing: it suppresses
abbrev pub DecisionOk : RateLimitDecision → Type 0
DecisionOk Allowed = Unit {0}
DecisionOk (Rejected window wait rest) = ⊥
DecisionOk (Suppressed f is) = Within01 f
DecisionOk (Refused n) = ⊥

by-reach : (r : Reach) (a : Asked) (t c draw : ℕ) → AskedOk t a →
    DecisionOk (outcome_of r a t c draw).decision × CachingOk t (outcome_of r a t c draw).caching
unfolding drawn
by-reach Hard a t c draw g = (tt, (word-one, omega arith))
by-reach Soft a t c draw g = (tt, tt)
by-reach Over a t c draw g = (one-within, (word-one, omega arith))
by-reach Between a t c draw g = (g.within, g.caching)

-- ---- the factor that is asked for

module _ (s : Settings) (p : Proper s) (w : List ℕ) (t : ℕ) (x : Slot) (o : Sums (ticks_in s) w t x)
    (h : x.cached ≡ true → factor_word_ok x.factor ≡ true) where
  pub outcome-ok : (limit n c draw : ℕ) →
      DecisionOk (outcome_at s w t x limit n c draw).decision × CachingOk t (outcome_at s w t x limit n c draw).caching
  unfolding outcome_at
  outcome-ok limit n c draw =
      by-reach (reach_of n (soft_word (factor_in s) limit) (cut_word limit)) (asked_at s w t x limit) t c draw (asked-ok s p w t x o h limit)
