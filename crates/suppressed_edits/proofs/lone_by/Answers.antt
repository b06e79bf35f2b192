-- By whether the slot is there.
use Rattle.suppressed_edits.proofs.lone_by.Goals as goal

pub returns-then-there : goal.returns-then-there
returns-then-there c =
    rw (c.if-there.true, c.opening-e.ensures)

pub returns-else-there : goal.returns-else-there
returns-else-there c =
    rw (c.if-there.false, c.opening-e.ensures)
