-- `sweep::good` meets its contract: test by test, the definition's conjunction.
-- Assumes nothing.
use Rattle.std.proofs.Common.{arith}
use Rattle.std.proofs.lemmas.Bool.Decides.{nat_tests}
use Rattle.sweep.specs.Sweep.{good_of}
use Rattle.sweep.proofs.good.Goals as goal

pub returns-then-x-a : goal.returns-then-x-a
unfolding good_of
returns-then-x-a c =
    grind (arith, nat_tests)

pub returns-else-x-a : goal.returns-else-x-a
unfolding good_of
returns-else-x-a c =
    grind (arith, nat_tests)
