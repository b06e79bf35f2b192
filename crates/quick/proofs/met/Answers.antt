-- `quick::met` meets its contract: test by test, the definition's conjunction.
-- Assumes nothing.
use Rattle.std.proofs.Common.{arith}
use Rattle.std.proofs.lemmas.Bool.Decides.{nat_tests}
use Rattle.quick.specs.Quick.{met_of}
use Rattle.quick.proofs.met.Goals as goal

pub returns-then-a-declined : goal.returns-then-a-declined
unfolding met_of
returns-then-a-declined c =
    grind (arith, nat_tests)

pub returns-else-a-declined : goal.returns-else-a-declined
unfolding met_of
returns-else-a-declined c =
    grind (arith, nat_tests)
