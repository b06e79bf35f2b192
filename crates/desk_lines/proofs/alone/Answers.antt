-- The slots are the room's.
-- Assumes nothing.
use Rattle.desk_lines.proofs.alone.Goals as goal

pub returns : goal.returns
returns c =
    rw c.slots_of.ensures
