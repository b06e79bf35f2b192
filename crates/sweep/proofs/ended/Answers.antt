-- `sweep::ended` meets its contract: test by test, the definition's conjunction.
-- Assumes nothing.
use Rattle.std.proofs.Common.{arith}
use Rattle.std.proofs.lemmas.Bool.Decides.{nat_tests}
use Rattle.sweep.specs.Sweep.{ended_of}
use Rattle.sweep.proofs.ended.Goals as goal

pub returns-then-a-eq0 : goal.returns-then-a-eq0
unfolding ended_of
returns-then-a-eq0 c =
    grind (arith, nat_tests)

pub returns-else-a-eq0 : goal.returns-else-a-eq0
unfolding ended_of
returns-else-a-eq0 c =
    grind (arith, nat_tests)
