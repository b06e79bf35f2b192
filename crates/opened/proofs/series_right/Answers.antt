-- The tests of the definition, in its order.
-- Assumes nothing.
use Rattle.std.proofs.Common.{arith}
use Rattle.std.proofs.lemmas.Bool.Decides.{nat_tests}
use Rattle.opened.specs.Right.{series_right}
use Rattle.opened.proofs.series_right.Goals as goal

pub returns-then-not-x : goal.returns-then-not-x
unfolding series_right
returns-then-not-x c =
    grind (arith, nat_tests)

pub returns-then-declined_right : goal.returns-then-declined_right
unfolding series_right
returns-then-declined_right c =
    grind (arith, nat_tests)

pub returns-else-declined_right : goal.returns-else-declined_right
unfolding series_right
returns-else-declined_right c =
    grind (arith, nat_tests)
