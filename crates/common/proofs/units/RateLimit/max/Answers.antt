-- The constant's bits are the largest finite double's.
use Rattle.std.proofs.Common.{refl}
use lib.Ieee.{of_bits}
use Rattle.common.proofs.units.RateLimit.max.Goals as goal

pub returns : goal.returns
unfolding of_bits
returns c =
    refl
