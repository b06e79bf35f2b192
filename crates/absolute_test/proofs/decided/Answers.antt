-- By whether the key may.
use Rattle.absolute_test.specs.Test.{decided_at}
use Rattle.absolute_test.proofs.decided.Goals as goal

pub returns-then-may : goal.returns-then-may
unfolding decided_at
returns-then-may c =
    rw c.if-may.true

pub returns : goal.returns
unfolding decided_at
returns c =
    rw c.if-may.false c.rejected.ensures
