-- The line of what is told.
-- Assumes nothing.
use Rattle.desk_lines.specs.Lines.{total_line}
use Rattle.desk_lines.proofs.total_line.Goals as goal

pub returns : goal.returns
unfolding total_line
returns c =
    rw (← c.live.ensures) c.line_of.ensures
