-- The line of what is told.
-- Assumes nothing.
use Rattle.desk_lines.specs.Lines.{snapshot_line}
use Rattle.desk_lines.proofs.snapshot_line.Goals as goal

pub returns : goal.returns
unfolding snapshot_line
returns c =
    rw (← c.snapped.ensures) c.line_of.ensures
