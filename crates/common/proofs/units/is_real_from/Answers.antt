-- A NaN fails the first test. The constant's bits are the largest finite double's.
use lib.Ieee.{of_bits}
use Rattle.common.proofs.units.is_real_from.Goals as goal

pub returns-then-x-least : goal.returns-then-x-least
unfolding of_bits
returns-then-x-least c =
    simp c.if-x-least.true
