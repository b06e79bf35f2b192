-- By whether the series begins.
use Rattle.edit.specs.Bodies.{started}
use Rattle.edit.proofs.start.Goals as goal

pub returns-then-begins : goal.returns-then-begins
unfolding started
returns-then-begins c =
    rw c.if-begins.true c.begin.ensures

pub returns-else-begins : goal.returns-else-begins
unfolding started
returns-else-begins c =
    rw c.if-begins.false c.evict.ensures
