-- The constructors of units in document 01's numbers: what is in its range is made, anything else is refused with its number.
-- Assumes nothing.
use Rattle.std.specs.Prelude.{◌≡◌, Bool, cond, List, ℕ, ◌*◌, ◌<◌, Float}
use Rattle.std.specs.Float.{binary64}
use Rattle.std.specs.Float.Ieee.{div}
use Rattle.answers.specs.Rows.{row, refused_row, bits, window_size_row, bucket_size_row, cache_period_row, rate_limit_row}
use Rattle.common.specs.Ranges.{window_ok, bucket_ok, cache_ok, rate_ok}
use Rattle.common.specs.Units.{real, window_of, bucket_of, cache_of, rate_from, rate_of}

-- x where it is in range, and n where it is not
abbrev pub made_row : Bool → ℕ → ℕ → List ℕ
made_row is x n = cond is (row 0 1 x 0 0) (refused_row n)

-- "Period constructors multiply by 1, 60, ..": v periods of m seconds or milliseconds; "zero, overflow and results past the range are refused". "Rates per
-- period divide by the same number as a double".
pub record Makes : Type 0 where
  pub window : (m v : ℕ) → 0 < m → window_size_row (window_of m v) ≡ made_row (window_ok (v * m)) (v * m) 1
  pub bucket : (m v : ℕ) → 0 < m → bucket_size_row (bucket_of m v) ≡ made_row (bucket_ok (v * m)) (v * m) 2
  pub cache : (m v : ℕ) → 0 < m → cache_period_row (cache_of m v) ≡ made_row (cache_ok (v * m)) (v * m) 3
  pub rate : (x : Float) → rate_limit_row (rate_from x) ≡ made_row (rate_ok x) (bits x) 8
  pub rate-per : (p : ℕ) (x : Float) → rate_limit_row (rate_of p x) ≡ made_row (rate_ok (div binary64 x (real p))) (bits (div binary64 x (real p))) 8
