-- The three cases of the definition, in its order.
use lib.Ieee.{of_bits}
use Rattle.suppression.specs.Tested.{tested-nil, tested-one, tested-draw}
use Rattle.suppression.proofs.admits.Goals as goal

pub returns-then-factor : goal.returns-then-factor
unfolding of_bits
returns-then-factor c =
    tested-nil _ _ c.if-factor.true

pub returns-then-factor-2 : goal.returns-then-factor-2
unfolding of_bits
returns-then-factor-2 c =
    tested-one _ _ c.if-factor.false c.if-factor-2.true

pub returns : goal.returns
unfolding of_bits
returns c =
    tested-draw _ _ _ c.nearest_u64_to_f64.ensures c.if-factor.false c.if-factor-2.false
