-- The arm taken is the one that the perceived rate picks.
use lib.Ieee.{of_bits}
use Rattle.suppression.specs.Tested.{fresh-nil, fresh-rate}
use Rattle.suppression.proofs.fresh_factor.Goals as goal

pub returns-then-perceived : goal.returns-then-perceived
unfolding of_bits
returns-then-perceived c =
    fresh-nil _ _ _ _ _ _ _ _ c.nearest_u64_to_f64-seconds.ensures c.nearest_u64_to_f64.ensures
    c.nearest_u64_to_f64-last.ensures c.larger-perceived.ensures c.if-perceived.true

pub returns : goal.returns
unfolding of_bits
returns c =
    fresh-rate _ _ _ _ _ _ _ _ c.nearest_u64_to_f64-seconds.ensures c.nearest_u64_to_f64.ensures
    c.nearest_u64_to_f64-last.ensures c.larger-perceived.ensures _ c.nearest_u64_to_f64-2.ensures c.if-perceived.false
