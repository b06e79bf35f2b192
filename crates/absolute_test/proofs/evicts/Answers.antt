-- A total that is not below.
use Rattle.absolute_test.specs.Test.{evicts}
use Rattle.absolute_test.proofs.evicts.Goals as goal

pub returns : goal.returns
unfolding evicts
returns c =
    rw c.is_below.ensures
