-- Word by word, the definition's conjunction.
-- Assumes nothing.
use Rattle.std.proofs.Common.{arith}
use Rattle.std.proofs.lemmas.Bool.Decides.{nat_tests}
use Rattle.room.specs.Room.{spells}
use Rattle.room.proofs.spells.Goals as goal

pub returns-then-w-e-4 : goal.returns-then-w-e-4
unfolding spells
returns-then-w-e-4 c =
    grind (arith, nat_tests)

pub returns-else-w-e-4 : goal.returns-else-w-e-4
unfolding spells
returns-else-w-e-4 c =
    grind (arith, nat_tests)
