-- Test by test, without the sum.
-- Assumes nothing.
use Rattle.std.proofs.Common.{arith}
use Rattle.std.proofs.lemmas.Bool.Decides.{nat_tests}
use Rattle.parties.specs.Census.{overdrawn_by}
use Rattle.parties.proofs.is_overdrawn.Goals as goal

pub returns-then-caller-held : goal.returns-then-caller-held
unfolding overdrawn_by
returns-then-caller-held c =
    grind (arith, nat_tests)

pub returns-else-caller-held : goal.returns-else-caller-held
unfolding overdrawn_by
returns-else-caller-held c =
    grind (arith, nat_tests)
