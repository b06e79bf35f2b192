-- The settings of a room: their defaults, a change of one of them, and refusals 1 to 4. Any clock mode is in range.
-- Assumes nothing.
use Rattle.std.specs.Prelude.{◌≡◌, refl, Bool, true, not, List, [], ◌∷◌, ℕ, ◌≤◌, Float}
use Rattle.std.proofs.Common.{ap, arith}
use Rattle.std.specs.Float.Ieee.{fits, le}
use Rattle.std.proofs.lemmas.Bool.{not-false}
use Rattle.settings.specs.declared.Settings.{Settings}
use Rattle.settings.specs.declared.ClockMode.{ClockMode}
use Rattle.settings.specs.declared.ClockMode.TheVariants.{Milliseconds}
use Rattle.common.specs.declared.units.WindowSize.{WindowSize}
use Rattle.common.specs.declared.units.BucketSize.{BucketSize}
use Rattle.common.specs.declared.units.SuppressionFactorCachePeriod.{SuppressionFactorCachePeriod}
use Rattle.common.specs.Ranges.{most_window, most_bucket, most_cache, window_ok, bucket_ok, cache_ok, one, factor_ok, within-facts, within-true}
use Rattle.common.specs.Refusals.{first, all-false, none_first}
use Rattle.common.specs.Units.{default_window, default_bucket, default_cache}

-- ---- the four values, as numbers

abbrev pub window_in : Settings → ℕ
window_in s = s.window_size.0

abbrev pub bucket_in : Settings → ℕ
bucket_in s = s.bucket_size.0

abbrev pub factor_in : Settings → Float
factor_in s = s.hard_limit_factor

abbrev pub cache_in : Settings → ℕ
cache_in s = s.suppression_factor_cache_period.0

-- ---- defaults

abbrev pub default_factor : Float
default_factor = one

abbrev pub defaults : Settings
defaults = record {
  window_size = record { 0 = default_window };
  bucket_size = record { 0 = default_bucket };
  hard_limit_factor = default_factor;
  suppression_factor_cache_period = record { 0 = default_cache };
  clock_mode = Milliseconds;
}

-- ---- one value changed

abbrev pub with_window : Settings → WindowSize → Settings
with_window s v = record {
  window_size = v;
  bucket_size = s.bucket_size;
  hard_limit_factor = s.hard_limit_factor;
  suppression_factor_cache_period = s.suppression_factor_cache_period;
  clock_mode = s.clock_mode;
}

-- the settings of document 01's boundary values: W = 10, which is named, b = C = 100
abbrev pub ten_seconds : Settings
ten_seconds = with_window defaults (record { 0 = 10 })

abbrev pub with_bucket : Settings → BucketSize → Settings
with_bucket s v = record {
  window_size = s.window_size;
  bucket_size = v;
  hard_limit_factor = s.hard_limit_factor;
  suppression_factor_cache_period = s.suppression_factor_cache_period;
  clock_mode = s.clock_mode;
}

abbrev pub with_factor : Settings → Float → Settings
with_factor s v = record {
  window_size = s.window_size;
  bucket_size = s.bucket_size;
  hard_limit_factor = v;
  suppression_factor_cache_period = s.suppression_factor_cache_period;
  clock_mode = s.clock_mode;
}

abbrev pub with_cache : Settings → SuppressionFactorCachePeriod → Settings
with_cache s v = record {
  window_size = s.window_size;
  bucket_size = s.bucket_size;
  hard_limit_factor = s.hard_limit_factor;
  suppression_factor_cache_period = v;
  clock_mode = s.clock_mode;
}

abbrev pub with_clock : Settings → ClockMode → Settings
with_clock s v = record {
  window_size = s.window_size;
  bucket_size = s.bucket_size;
  hard_limit_factor = s.hard_limit_factor;
  suppression_factor_cache_period = s.suppression_factor_cache_period;
  clock_mode = v;
}

-- ---- refusals 1 to 4: window, bucket, cache period, factor outside its range
abbrev pub outside : Bool → Bool → Bool → Bool → List (ℕ × Bool)
outside window bucket cache factor = (1, not window) ∷ (2, not bucket) ∷ (3, not cache) ∷ (4, not factor) ∷ []

unfoldable pub faults : Settings → List (ℕ × Bool)
faults s = outside (window_ok (window_in s)) (bucket_ok (bucket_in s)) (cache_ok (cache_in s)) (factor_ok (factor_in s))

-- what holds of settings that are not refused, and no more
pub record Proper (s : Settings) : Type 0 where
  pub window-low : 1 ≤ window_in s
  pub window-high : window_in s ≤ most_window
  pub bucket-low : 1 ≤ bucket_in s
  pub bucket-high : bucket_in s ≤ most_bucket
  pub cache-low : 1 ≤ cache_in s
  pub cache-high : cache_in s ≤ most_cache
  pub factor : factor_ok (factor_in s) ≡ true

pub proper : (s : Settings) → first (faults s) ≡ 0 → Proper s
unfolding faults
proper s e =
    let f = all-false _ (omega arith) e in
    let w = within-facts 1 most_window (window_in s) (not-false _ f.0) in
    let b = within-facts 1 most_bucket (bucket_in s) (not-false _ f.1.0) in
    let k = within-facts 1 most_cache (cache_in s) (not-false _ f.1.1.0) in
    record {
      window-low = w.low;
      window-high = w.high;
      bucket-low = b.low;
      bucket-high = b.high;
      cache-low = k.low;
      cache-high = k.high;
      factor = not-false _ f.1.1.1.0;
    }

pub unrefused : (s : Settings) → Proper s → first (faults s) ≡ 0
unfolding faults
unrefused s p =
    let w = within-true 1 most_window (window_in s) (record { low = p.window-low; high = p.window-high }) in
    let b = within-true 1 most_bucket (bucket_in s) (record { low = p.bucket-low; high = p.bucket-high }) in
    let k = within-true 1 most_cache (cache_in s) (record { low = p.cache-low; high = p.cache-high }) in
    none_first _ (ap not w, (ap not b, (ap not k, (ap not p.factor, tt))))

-- the defaults are not refused
pub defaults-unrefused : first (faults defaults) ≡ 0
unfolding faults first factor_ok le fits
defaults-unrefused = refl
