-- The three cases of the definition; 1 / 0 is the infinity.
use lib.Ieee.{of_bits, div}
use Rattle.common.specs.Tested.{back-most, back-infinite, back-divided}
use Rattle.common.proofs.units.RateLimit.from_stored_window_limit.Goals as goal
use Rattle.common.proofs.units.RateLimit.from_stored_window_limit.Goals.{then-x-via-then-x, then-x-via-else-x+then-x-2}

pub returns-then-x : goal.returns-then-x
unfolding of_bits div
returns-then-x c =
    elim c.then-x.branch [
      | then-x-via-then-x w ↦ rw c.max.ensures (back-most _ _ _ _ c.double_of-x.ensures w.if-x.true)
      | then-x-via-else-x+then-x-2 w ↦ rw c.max.ensures (back-infinite _ _ _ _ c.double_of-x.ensures w.if-x.false w.if-x-2.true)
    ]

pub returns : goal.returns
unfolding of_bits div
returns c =
    back-divided _ _ _ _ c.double_of-x.ensures _ c.nearest_u64_to_f64.ensures c.if-x.false c.if-x-2.false
