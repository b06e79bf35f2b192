-- The comparison is the definition's.
use lib.Ieee.{of_bits}
use Rattle.common.specs.Tested.{tested-limit}
use Rattle.common.proofs.limits.is_limit.Goals as goal

pub returns : goal.returns
unfolding of_bits
returns c =
    tested-limit _ _ _ _ c.double_of.ensures _ c.nearest_u64_to_f64.ensures
