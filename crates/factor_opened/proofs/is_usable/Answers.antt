-- The tests of the definition, in its order.
-- Assumes nothing.
use Rattle.std.proofs.Common.{arith}
use Rattle.std.proofs.lemmas.Bool.Decides.{nat_tests}
use Rattle.factor_opened.specs.Opened.{usable_at}
use Rattle.factor_opened.proofs.is_usable.Goals as goal

pub returns-then-stays : goal.returns-then-stays
unfolding usable_at
returns-then-stays c =
    grind (arith, nat_tests)

pub returns-else-stays : goal.returns-else-stays
unfolding usable_at
returns-else-stays c =
    grind (arith, nat_tests)
