-- The tests of the definition, in its order.
-- Assumes nothing.
use Rattle.std.proofs.Common.{arith}
use Rattle.std.proofs.lemmas.Bool.Decides.{nat_tests}
use Rattle.opened.specs.Right.{cached_right}
use Rattle.opened.proofs.cached_right.Goals as goal

pub returns-then-not-x : goal.returns-then-not-x
unfolding cached_right
returns-then-not-x c =
    grind (arith, nat_tests)

pub returns-then-is_factor : goal.returns-then-is_factor
unfolding cached_right
returns-then-is_factor c =
    grind (arith, nat_tests)

pub returns-else-is_factor : goal.returns-else-is_factor
unfolding cached_right
returns-else-is_factor c =
    grind (arith, nat_tests)
