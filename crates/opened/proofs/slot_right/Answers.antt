-- The tests of the definition, in its order.
-- Assumes nothing.
use Rattle.std.proofs.Common.{arith}
use Rattle.std.proofs.lemmas.Bool.Decides.{nat_tests}
use Rattle.opened.specs.Right.{slot_right}
use Rattle.opened.proofs.slot_right.Goals as goal

pub returns-then-series_right : goal.returns-then-series_right
unfolding slot_right
returns-then-series_right c =
    grind (arith, nat_tests)

pub returns-else-series_right : goal.returns-else-series_right
unfolding slot_right
returns-else-series_right c =
    grind (arith, nat_tests)
