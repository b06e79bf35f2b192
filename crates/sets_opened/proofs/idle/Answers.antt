-- The tests of the definition, in its order.
-- Assumes nothing.
use Rattle.std.proofs.Common.{arith}
use Rattle.std.proofs.lemmas.Bool.Decides.{nat_tests}
use Rattle.sets_opened.specs.Sets.{idle_at}
use Rattle.sets_opened.proofs.idle.Goals as goal

pub returns-then-vain : goal.returns-then-vain
unfolding idle_at
returns-then-vain c =
    grind (arith, nat_tests)

pub returns-else-vain : goal.returns-else-vain
unfolding idle_at
returns-else-vain c =
    grind (arith, nat_tests)
