-- That the code's tests of an increment are the rules'.
-- Assumes nothing.
use Rattle.std.specs.Prelude.{◌≡◌, true, ℕ, ◌+◌, ◌-◌, ◌≤◌, ◌<◌, ltb}
use Rattle.std.proofs.Common.{sym, arith, ltb-true, lt-ltb}
use Rattle.base.specs.Decides.{both_ways}
use Rattle.layout.specs.Layout.{most_total}
use Rattle.rules.specs.Both.{passes}

-- 10 without a sum that could wrap
pub passes-is : (c total : ℕ) → c ≤ most_total → ltb (most_total - c) total ≡ passes c total
unfolding passes
passes-is c total h =
    both_ways (ltb (most_total - c) total) (ltb most_total (total + c))
    (λ e. lt-ltb most_total (total + c) (omega (arith, ltb-true (most_total - c) total e)))
    (λ e. lt-ltb (most_total - c) total (omega (arith, ltb-true most_total (total + c) e)))

pub passes_count : (c total : ℕ) → most_total < c → true ≡ passes c total
unfolding passes
passes_count c total h = sym (lt-ltb most_total (total + c) (omega arith))
