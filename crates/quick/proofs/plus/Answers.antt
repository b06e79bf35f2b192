-- `quick::plus` meets its contract: where it would come to 2^64, that is taken off.
-- Assumes nothing.
use Rattle.std.proofs.Common.{arith}
use Rattle.std.proofs.lemmas.Bool.Decides.{nat_tests}
use Rattle.quick.specs.Quick.{plus}
use Rattle.quick.proofs.plus.Goals as goal

pub returns : goal.returns
unfolding plus
returns c =
    grind (arith, nat_tests)
