-- The tests of the definition, in its order.
-- Assumes nothing.
use Rattle.std.proofs.Common.{arith}
use Rattle.std.proofs.lemmas.Bool.Decides.{nat_tests}
use Rattle.sets_opened.specs.Sets.{already_at}
use Rattle.sets_opened.proofs.already.Goals as goal

pub returns-then-x-eq0 : goal.returns-then-x-eq0
unfolding already_at
returns-then-x-eq0 c =
    grind (arith, nat_tests)

pub returns-else-x-eq0 : goal.returns-else-x-eq0
unfolding already_at
returns-else-x-eq0 c =
    grind (arith, nat_tests)
