-- `quick::full_turn` meets its contract, field by field.
-- Assumes nothing.
use Rattle.quick.specs.Quick.{full_turn}
use Rattle.quick.proofs.full_turn.Goals as goal

pub returns : goal.returns
unfolding full_turn
returns c =
    cc
