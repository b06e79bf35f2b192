-- From 1 on, and no further than the most.
-- Assumes nothing.
use Rattle.std.proofs.Common.{arith}
use Rattle.std.proofs.lemmas.Bool.Decides.{nat_tests}
use Rattle.table.specs.Table.{numbered}
use Rattle.table.proofs.is_number.Goals as goal

pub returns-then-number-ge1 : goal.returns-then-number-ge1
unfolding numbered
returns-then-number-ge1 c =
    grind (arith, nat_tests)

pub returns-else-number-ge1 : goal.returns-else-number-ge1
unfolding numbered
returns-else-number-ge1 c =
    grind (arith, nat_tests)
