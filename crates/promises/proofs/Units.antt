-- The constructors of units in document 01's numbers: what is in its range is made, anything else is refused with its number.
-- Assumes nothing.
use Rattle.std.specs.Prelude.{◌≡◌, refl, Bool, true, false, Option, Some, None, Ok, Err, cond, List, ℕ, ◌*◌, Float}
use Rattle.std.proofs.Common.{ap, ◌∙◌}
use Rattle.std.specs.Float.{binary64}
use Rattle.std.specs.Float.Ieee.{div}
use Rattle.answers.specs.Rows.{row, refused_row, bits, window_size_row, bucket_size_row, cache_period_row, rate_limit_row}
use Rattle.common.specs.Ranges.{most_window, most_bucket, most_cache, window_ok, bucket_ok, cache_ok, rate_ok}
use Rattle.common.specs.Refusals.{refusal}
use Rattle.common.specs.Units.{real, period-is, window_made, bucket_made, cache_made, window_of, bucket_of, cache_of, rate_from, rate_of}
use Rattle.promises.specs.Units.{made_row, Makes}

made_by : (row_of : Option ℕ → List ℕ) (n : ℕ) → ((x : ℕ) → row_of (Some x) ≡ row 0 1 x 0 0) → row_of None ≡ refused_row n → (is : Bool) (x : ℕ) →
    row_of (cond is (Some x) None) ≡ made_row is x n
made_by row_of n p q true x = p x
made_by row_of n p q false x = q

rated-by : (is : Bool) (x : Float) → rate_limit_row (cond is (Ok (record { 0 = x })) (Err (refusal 8))) ≡ made_row is (bits x) 8
unfolding rate_limit_row
rated-by true x = refl
rated-by false x = refl

pub makes : Makes
unfolding window_of bucket_of cache_of rate_from rate_of window_size_row bucket_size_row cache_period_row
makes = record {
  window = λ m v h. ap (λ (p : Option ℕ). window_size_row (window_made p)) (period-is most_window m v h) ∙
      made_by (λ (p : Option ℕ). window_size_row (window_made p)) 1 (λ x. refl) refl (window_ok (v * m)) (v * m);
  bucket = λ m v h. ap (λ (p : Option ℕ). bucket_size_row (bucket_made p)) (period-is most_bucket m v h) ∙
      made_by (λ (p : Option ℕ). bucket_size_row (bucket_made p)) 2 (λ x. refl) refl (bucket_ok (v * m)) (v * m);
  cache = λ m v h. ap (λ (p : Option ℕ). cache_period_row (cache_made p)) (period-is most_cache m v h) ∙
      made_by (λ (p : Option ℕ). cache_period_row (cache_made p)) 3 (λ x. refl) refl (cache_ok (v * m)) (v * m);
  rate = λ x. rated-by (rate_ok x) x;
  rate-per = λ p x. rated-by (rate_ok (div binary64 x (real p))) (div binary64 x (real p));
}
