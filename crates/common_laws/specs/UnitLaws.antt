-- Whatever a constructor of a unit makes lies in the unit's range, and what it refuses it refuses by the unit's own number.
-- Assumes nothing.
use Rattle.std.specs.Prelude.{◌≡◌, refl, Bool, true, false, ◌&&◌, Option, Some, None, Result, Ok, Err, cond, ℕ, ◌*◌, ◌≤◌, ◌<◌, leb, ltb, Float}
use Rattle.std.proofs.Common.{mul-pos, arith, ltb-true, leb-true}
use Rattle.common.specs.declared.refusal.Refusal.{Refusal}
use Rattle.common.specs.declared.units.WindowSize.{WindowSize}
use Rattle.common.specs.declared.units.BucketSize.{BucketSize}
use Rattle.common.specs.declared.units.SuppressionFactorCachePeriod.{SuppressionFactorCachePeriod}
use Rattle.common.specs.declared.units.RateLimit.{RateLimit}
use Rattle.common.specs.Ranges.{most_window, most_bucket, most_cache, within, window_ok, bucket_ok, cache_ok, rate_ok, within-true}
use Rattle.common.specs.Refusals.{refusal}
use Rattle.common.specs.Units.{period_of, window_made, bucket_made, cache_made, window_of, bucket_of, cache_of, rate_from}

-- what is made lies in the range: what holds of all that is made of a number in range, and of a refusal, holds of each answer
pub period-all : {A : Type 0} (P : A → Type 0) (f : Option ℕ → A) (top m v : ℕ) → 0 < m → ((x : ℕ) → within 1 top x ≡ true → P (f (Some x))) → P (f None) →
    P (f (period_of top m v))
unfolding period_of
period-all P f top m v p made none = go (ltb 0 v) (leb (v * m) top) (ltb-true 0 v) (leb-true (v * m) top)
  where
    go : (a b : Bool) → (a ≡ true → 0 < v) → (b ≡ true → v * m ≤ top) → P (f (cond (a && b) (Some (v * m)) None))
    go true true g h = let q = mul-pos (g refl) p in made (v * m) (within-true 1 top (v * m) (record { low = omega arith; high = h refl }))
    go true false g h = none
    go false b g h = none

-- every answer is a unit in range, or the unit's own refusal
abbrev pub WindowFine : Result WindowSize Refusal → Type 0
WindowFine (Ok w) = window_ok w.0 ≡ true
WindowFine (Err n) = n.0 ≡ 1

abbrev pub BucketFine : Result BucketSize Refusal → Type 0
BucketFine (Ok b) = bucket_ok b.0 ≡ true
BucketFine (Err n) = n.0 ≡ 2

abbrev pub CacheFine : Result SuppressionFactorCachePeriod Refusal → Type 0
CacheFine (Ok p) = cache_ok p.0 ≡ true
CacheFine (Err n) = n.0 ≡ 3

pub window-fine : (m v : ℕ) → 0 < m → WindowFine (window_of m v)
unfolding window_of
window-fine m v p = period-all WindowFine window_made most_window m v p (λ x h. h) refl

pub bucket-fine : (m v : ℕ) → 0 < m → BucketFine (bucket_of m v)
unfolding bucket_of
bucket-fine m v p = period-all BucketFine bucket_made most_bucket m v p (λ x h. h) refl

pub cache-fine : (m v : ℕ) → 0 < m → CacheFine (cache_of m v)
unfolding cache_of
cache-fine m v p = period-all CacheFine cache_made most_cache m v p (λ x h. h) refl

abbrev pub RateFine : Result RateLimit Refusal → Type 0
RateFine (Ok r) = rate_ok r.0 ≡ true
RateFine (Err n) = n.0 ≡ 8

pub rate-fine : (x : Float) → RateFine (rate_from x)
unfolding rate_from
rate-fine x = go (rate_ok x) (λ e. e)
  where
    go : (b : Bool) → (b ≡ true → rate_ok x ≡ true) → RateFine (cond b (Ok (record { 0 = x })) (Err (refusal 8)))
    go true e = e refl
    go false e = refl
