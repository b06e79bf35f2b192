-- The units of time and rate: what a period constructor makes of a number, and how a unit is read back.
-- Assumes nothing.
use Rattle.std.specs.Prelude.{◌≡◌, ℕ, zero, suc, ◌-◌, ◌*◌, ◌^◌, ◌<◌, ◌≤◌, min, Bool, Option, Some, None, Result, Ok, Err, cond, ◌&&◌, pos, nat_le, nat_lt, refl, Float, ◌/◌}
use Rattle.std.proofs.Common.{sym, ap, ◌∙◌, suc-mul, arith, lt-ltb, le-leb, le-ltb, div-lt_iff_lt-mul, le-div_iff_mul-le}
use Rattle.std.specs.Float.{binary64}
use Rattle.std.specs.Float.Ieee.{of_int, div, mul}
use Rattle.std.proofs.lemmas.Bool.{lt-leb}
use Rattle.common.specs.declared.refusal.Refusal.{Refusal}
use Rattle.common.specs.declared.units.WindowSize.{WindowSize}
use Rattle.common.specs.declared.units.BucketSize.{BucketSize}
use Rattle.common.specs.declared.units.SuppressionFactorCachePeriod.{SuppressionFactorCachePeriod}
use Rattle.common.specs.declared.units.RateLimit.{RateLimit}
use Rattle.common.specs.Ranges.{within, most_window, most_bucket, most_cache, rate_ok, and_no}
use Rattle.common.specs.Refusals.{refusal}

-- ---- periods, in seconds

abbrev pub second : ℕ
second = 1

abbrev pub minute : ℕ
minute = 60

abbrev pub hour : ℕ
hour = 3600

abbrev pub day : ℕ
day = 86400

abbrev pub week : ℕ
week = 604800

abbrev pub month : ℕ
month = 2592000

-- a period in milliseconds
abbrev pub ms : ℕ → ℕ
ms p = 1000 * p

-- ---- v periods of m each: refused at zero and past the range, overflow included
unfoldable pub period_of : ℕ → ℕ → ℕ → Option ℕ
period_of top m v = cond (nat_lt 0 v && nat_le (v * m) top) (Some (v * m)) None

pub period-within : (top m v : ℕ) → 0 < v → v * m ≤ top → period_of top m v ≡ Some (v * m)
unfolding period_of
period-within top m v p q = simp (lt-ltb _ _ p, le-leb _ _ q)

pub period-none : (top m : ℕ) → period_of top m 0 ≡ None
unfolding period_of
period-none top m = refl

pub period-past : (top m v : ℕ) → top < v * m → period_of top m v ≡ None
unfolding period_of
period-past top m v q = rw (lt-leb _ _ q, and_no (nat_lt 0 v))

-- the product judged by a quotient, which fits a word
pub period-over : (top m v : ℕ) → 0 < m → top / m < v → period_of top m v ≡ None
period-over top m v p q = period-past top m v ((div-lt_iff_lt-mul p).0 q)

pub period-fits : (top m v : ℕ) → 0 < m → v ≤ top / m → v * m ≤ top
period-fits top m v p q = (le-div_iff_mul-le p).0 q

some_of : (m v : ℕ) → 0 < m → nat_le 1 (v * m) ≡ nat_lt 0 v
some_of m zero h = lt-leb 1 (0 * m) (omega arith) ∙ sym (le-ltb 0 0 (omega arith))
some_of m (suc v) h = le-leb 1 (suc v * m) (omega (arith, suc-mul v m)) ∙ sym (lt-ltb 0 (suc v) (omega arith))

-- by the product alone
pub period-is : (top m v : ℕ) → 0 < m → period_of top m v ≡ cond (within 1 top (v * m)) (Some (v * m)) None
unfolding period_of
period-is top m v h = ap (λ (b : Bool). cond (b && nat_le (v * m) top) (Some (v * m)) None) (sym (some_of m v h))

-- ---- the units made: refusals 1, 2 and 3

-- a number as what f makes of it, or the refusal
abbrev pub unit_made : {A : Type 0} → (ℕ → A) → Refusal → Option ℕ → Result A Refusal
unit_made f why (Some x) = Ok (f x)
unit_made f why None = Err why

-- v periods of m parts each, top parts at most
abbrev pub unit_of : {A : Type 0} → (ℕ → A) → Refusal → ℕ → ℕ → ℕ → Result A Refusal
unit_of f why top m v = unit_made f why (period_of top m v)

abbrev pub window_made : Option ℕ → Result WindowSize Refusal
window_made = unit_made (λ s. record { 0 = s }) (refusal 1)

abbrev pub bucket_made : Option ℕ → Result BucketSize Refusal
bucket_made = unit_made (λ t. record { 0 = t }) (refusal 2)

abbrev pub cache_made : Option ℕ → Result SuppressionFactorCachePeriod Refusal
cache_made = unit_made (λ t. record { 0 = t }) (refusal 3)

-- a window of v periods of m seconds; a bucket and a cache period of v periods of m milliseconds
unfoldable pub window_of : ℕ → ℕ → Result WindowSize Refusal
window_of m v = window_made (period_of most_window m v)

unfoldable pub bucket_of : ℕ → ℕ → Result BucketSize Refusal
bucket_of m v = bucket_made (period_of most_bucket m v)

unfoldable pub cache_of : ℕ → ℕ → Result SuppressionFactorCachePeriod Refusal
cache_of m v = cache_made (period_of most_cache m v)

pub window_is : (m v : ℕ) → window_of m v ≡ unit_of (λ s. record { 0 = s }) (refusal 1) most_window m v
unfolding window_of
window_is m v = refl

pub bucket_is : (m v : ℕ) → bucket_of m v ≡ unit_of (λ t. record { 0 = t }) (refusal 2) most_bucket m v
unfolding bucket_of
bucket_is m v = refl

pub cache_is : (m v : ℕ) → cache_of m v ≡ unit_of (λ t. record { 0 = t }) (refusal 3) most_cache m v
unfolding cache_of
cache_is m v = refl

-- ---- rates: refusal 8

-- x per second
unfoldable pub rate_from : Float → Result RateLimit Refusal
rate_from x = cond (rate_ok x) (Ok (record { 0 = x })) (Err (refusal 8))

-- the double nearest to a whole number
abbrev pub real : ℕ → Float
real n = of_int binary64 (pos n)

-- x per period of p seconds
unfoldable pub rate_of : ℕ → Float → Result RateLimit Refusal
rate_of p x = rate_from (div binary64 x (real p))

-- ---- readings

-- s seconds in milliseconds, 2^64 - 1 where that is more than a word holds
unfoldable pub milliseconds_of : ℕ → ℕ
milliseconds_of s = min (s * 1000) (2 ^ 64 - 1)

-- s seconds in periods of p seconds
abbrev pub in_periods : ℕ → ℕ → Float
in_periods p s = div binary64 (real s) (real p)

-- a rate of x per second, per period of p seconds
abbrev pub per_period : ℕ → Float → Float
per_period p x = mul binary64 x (real p)

-- ---- defaults

-- seconds, and twice milliseconds
abbrev pub default_window : ℕ
default_window = 30

abbrev pub default_bucket : ℕ
default_bucket = 100

abbrev pub default_cache : ℕ
default_cache = 100
