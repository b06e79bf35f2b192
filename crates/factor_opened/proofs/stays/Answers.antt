-- The tests of the definition, in its order.
-- Assumes nothing.
use Rattle.std.proofs.Common.{arith}
use Rattle.std.proofs.lemmas.Bool.Decides.{nat_tests}
use Rattle.factor_opened.specs.Opened.{stays_at}
use Rattle.factor_opened.proofs.stays.Goals as goal

pub returns-then-x : goal.returns-then-x
unfolding stays_at
returns-then-x c =
    grind (arith, nat_tests)

pub returns-else-x : goal.returns-else-x
unfolding stays_at
returns-else-x c =
    grind (arith, nat_tests)
