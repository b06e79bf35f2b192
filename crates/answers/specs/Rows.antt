-- Document 01's number and values for each case of each answer that is an enum, the units' constructors' too, as a row of five numbers: the refusal's number
-- or 0, which case it is (0 for a refusal), and up to three values.
-- A refusal "gives its number with zeros elsewhere". A double stands in a row by its bits, yes by 1. Assumes nothing.
use Rattle.std.specs.Prelude.{Bool, cond, List, [], ◌∷◌, ℕ, get_or, Float, Result, Ok, Err, Option, Some, None}
use Rattle.std.specs.Float.{binary64}
use Rattle.std.specs.Float.Ieee.{to_bits}
use Rattle.answers.specs.declared.RateLimitDecision.{RateLimitDecision}
use Rattle.answers.specs.declared.RateLimitDecision.TheVariants as decision
use Rattle.answers.specs.declared.ShotOutcome.{ShotOutcome}
use Rattle.answers.specs.declared.ShotOutcome.TheVariants.{Held, Decided}
use Rattle.answers.specs.declared.ConditionalSetOutcome.{ConditionalSetOutcome}
use Rattle.answers.specs.declared.SuppressedRateLimitSnapshot.{SuppressedRateLimitSnapshot}
use Rattle.common.specs.declared.refusal.Refusal.{Refusal}
use Rattle.common.specs.declared.units.WindowSize.{WindowSize}
use Rattle.common.specs.declared.units.BucketSize.{BucketSize}
use Rattle.common.specs.declared.units.SuppressionFactorCachePeriod.{SuppressionFactorCachePeriod}
use Rattle.common.specs.declared.units.RateLimit.{RateLimit}

abbrev pub row : ℕ → ℕ → ℕ → ℕ → ℕ → List ℕ
row number case a b c = number ∷ case ∷ a ∷ b ∷ c ∷ []

abbrev pub refused_row : ℕ → List ℕ
refused_row n = row n 0 0 0 0

-- an answer's number, of its row: 0 where it is no refusal
abbrev pub number_of : List ℕ → ℕ
number_of row = get_or row 0 0

abbrev pub said : Bool → ℕ
said is = cond is 1 0

abbrev pub bits : Float → ℕ
bits x = to_bits binary64 x

-- window, wait and the oldest bucket's count; the factor and yes or no
unfoldable pub decision_row : RateLimitDecision → List ℕ
decision_row decision.Allowed = row 0 1 0 0 0
decision_row (decision.Rejected window wait left) = row 0 2 window.0 wait left
decision_row (decision.Suppressed x is) = row 0 3 (bits x) (said is) 0
decision_row (decision.Refused n) = refused_row n

unfoldable pub total_row : Result ℕ Refusal → List ℕ
total_row (Ok n) = row 0 1 n 0 0
total_row (Err r) = refused_row r.0

unfoldable pub snapshot_row : Result SuppressedRateLimitSnapshot Refusal → List ℕ
snapshot_row (Ok s) = row 0 1 s.total s.total_declined (bits s.suppression_factor)
snapshot_row (Err r) = refused_row r.0

unfoldable pub factor_row : Result Float Refusal → List ℕ
factor_row (Ok x) = row 0 1 (bits x) 0 0
factor_row (Err r) = refused_row r.0

unfoldable pub old_rate_row : Result (Option RateLimit) Refusal → List ℕ
old_rate_row (Ok (Some r)) = row 0 1 (bits r.0) 0 0
old_rate_row (Ok None) = row 0 2 0 0 0
old_rate_row (Err r) = refused_row r.0

unfoldable pub delete_row : Result (Option ℕ) Refusal → List ℕ
delete_row (Ok (Some n)) = row 0 1 n 0 0
delete_row (Ok None) = row 0 2 0 0 0
delete_row (Err r) = refused_row r.0

-- matched, the total before and the total after
unfoldable pub set_row : Result ConditionalSetOutcome Refusal → List ℕ
set_row (Ok o) = row 0 1 (said o.matched) o.previous_total o.current_total
set_row (Err r) = refused_row r.0

unfoldable pub done_row : Result (Unit {0}) Refusal → List ℕ
done_row (Ok tt) = row 0 1 0 0 0
done_row (Err r) = refused_row r.0

-- the ring's bucket count
unfoldable pub read_out_row : Result ℕ Refusal → List ℕ
read_out_row (Ok n) = row 0 1 n 0 0
read_out_row (Err r) = refused_row r.0

-- how many buckets
unfoldable pub ring_row : Result ℕ Refusal → List ℕ
ring_row (Ok n) = row 0 1 n 0 0
ring_row (Err r) = refused_row r.0

-- a decision's own row, and one case more: held
unfoldable pub shot_row : Result ShotOutcome Refusal → List ℕ
shot_row (Ok Held) = row 0 4 0 0 0
shot_row (Ok (Decided d)) = decision_row d
shot_row (Err r) = refused_row r.0

-- ---- the constructors of units: seconds, milliseconds twice, and a rate per second

unfoldable pub window_size_row : Result WindowSize Refusal → List ℕ
window_size_row (Ok x) = row 0 1 x.0 0 0
window_size_row (Err n) = refused_row n.0

unfoldable pub bucket_size_row : Result BucketSize Refusal → List ℕ
bucket_size_row (Ok x) = row 0 1 x.0 0 0
bucket_size_row (Err n) = refused_row n.0

unfoldable pub cache_period_row : Result SuppressionFactorCachePeriod Refusal → List ℕ
cache_period_row (Ok x) = row 0 1 x.0 0 0
cache_period_row (Err n) = refused_row n.0

unfoldable pub rate_limit_row : Result RateLimit Refusal → List ℕ
rate_limit_row (Ok x) = row 0 1 (bits x.0) 0 0
rate_limit_row (Err n) = refused_row n.0
