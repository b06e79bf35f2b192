-- The constant's bits are those of 2^-900.
use lib.Ieee.{of_bits}
use Rattle.common.specs.Ranges.{rate_ok}
use Rattle.common.proofs.units.RateLimit.is_in_range.Goals as goal

pub returns : goal.returns
unfolding of_bits rate_ok
returns c =
    c.is_real_from.ensures
