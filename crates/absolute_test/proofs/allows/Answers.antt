-- An unknown key is; a known one is by the total of the buckets that the test leaves.
-- Assumes nothing.
use Rattle.std.proofs.Common.{arith}
use Rattle.std.proofs.lemmas.Bool.Decides.{nat_tests}
use Rattle.absolute_test.specs.Test.{allowed_at}
use Rattle.absolute_test.proofs.allows.Goals as goal

pub returns-then-not-x : goal.returns-then-not-x
unfolding allowed_at
returns-then-not-x c =
    grind (arith, nat_tests)

pub returns-else-not-x : goal.returns-else-not-x
unfolding allowed_at
returns-else-not-x c =
    grind (arith, nat_tests)
