-- `quick::minus` meets its contract: where it would fall below 0, 2^64 is added.
-- Assumes nothing.
use Rattle.std.proofs.Common.{arith}
use Rattle.std.proofs.lemmas.Bool.Decides.{nat_tests}
use Rattle.quick.specs.Quick.{minus}
use Rattle.quick.proofs.minus.Goals as goal

pub returns : goal.returns
unfolding minus
returns c =
    grind (arith, nat_tests)
