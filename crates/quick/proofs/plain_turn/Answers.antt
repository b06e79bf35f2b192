-- `quick::plain_turn` meets its contract, field by field.
-- Assumes nothing.
use Rattle.quick.specs.Quick.{plain_turn}
use Rattle.quick.proofs.plain_turn.Goals as goal

pub returns : goal.returns
unfolding plain_turn
returns c =
    cc
