-- What the line tells, handed over as its row.
-- Assumes nothing.
use Rattle.rows.specs.Lines.{line-given}
use Rattle.abi.proofs.frostaxle_read_line.Goals as goal

pub returns : goal.returns
returns c =
    line-given _ _ _ _ _ c.read_line-answer.ensures c.line_row.ensures c.give_line.ensures
