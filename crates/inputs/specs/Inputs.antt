-- What comes in as plain numbers: settings, rates, comparators and modes.
-- Assumes nothing.
use Rattle.std.specs.Prelude.{Option, Some, None, cond, ℕ, eqb, Float}
use Rattle.common.specs.declared.comparator.RateLimitComparator.{RateLimitComparator}
use Rattle.common.specs.declared.comparator.RateLimitComparator.TheVariants as comparator
use Rattle.answers.specs.declared.HistoryUpdateMode.{HistoryUpdateMode}
use Rattle.answers.specs.declared.HistoryUpdateMode.TheVariants as mode
use Rattle.answers.specs.declared.HistoryPreservation.TheVariants as preservation
use Rattle.settings.specs.declared.ClockMode.{ClockMode}
use Rattle.settings.specs.declared.ClockMode.TheVariants.{Milliseconds, Nanoseconds}
use Rattle.settings.specs.declared.Settings.{Settings}
use Rattle.common.specs.declared.units.RateLimit.{RateLimit}

-- ---- what comes in as numbers

-- 0 milliseconds, any other number nanoseconds
unfoldable pub clock_of : ℕ → ClockMode
clock_of n = cond (eqb n 0) Milliseconds Nanoseconds

abbrev pub settings : ℕ → ℕ → ℕ → Float → ℕ → Settings
settings window bucket cache factor clock = record {
  window_size = record { 0 = window };
  bucket_size = record { 0 = bucket };
  hard_limit_factor = factor;
  suppression_factor_cache_period = record { 0 = cache };
  clock_mode = clock_of clock;
}

abbrev pub rated : Float → RateLimit
rated rate = record { 0 = rate }

-- 0 Always, 1 Eq, 2 Lt, 3 Gt, 4 Ne, x being what the total is compared with
unfoldable pub comparison_of : ℕ → ℕ → Option RateLimitComparator
comparison_of n x =
    cond (eqb n 0) (Some comparator.Always) (
    cond (eqb n 1) (Some (comparator.Eq x)) (
    cond (eqb n 2) (Some (comparator.Lt x)) (
    cond (eqb n 3) (Some (comparator.Gt x)) (
    cond (eqb n 4) (Some (comparator.Ne x)) None))))

abbrev pub replacing : Option HistoryUpdateMode
replacing = Some mode.Replace

-- 0 the newest buckets stay, 1 the oldest
unfoldable pub preserving : ℕ → Option HistoryUpdateMode
preserving n =
    cond (eqb n 0) (Some (mode.Preserve preservation.PreserveNewest)) (
    cond (eqb n 1) (Some (mode.Preserve preservation.PreserveOldest)) None)
