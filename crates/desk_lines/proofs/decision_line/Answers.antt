-- The line of what is told.
-- Assumes nothing.
use Rattle.desk_lines.specs.Lines.{decision_line}
use Rattle.desk_lines.proofs.decision_line.Goals as goal

pub returns : goal.returns
unfolding decision_line
returns c =
    rw (← c.decided.ensures) c.line_of.ensures
