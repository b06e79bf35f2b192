-- The line is that of the answer.
-- Assumes nothing.
use Rattle.std.proofs.Common.{ap, ◌∙◌}
use Rattle.desk_step.specs.Desk.{absolute_get}
use Rattle.desk_lines.specs.Lines.{total_line}
use Rattle.desk_step.proofs.absolute_get.Goals as goal

pub returns : goal.returns
unfolding absolute_get
returns c =
    let a = c.args in
    let told = rw c.alone-caller.ensures at c.get.ensures in
    record { answer = c.total_line.ensures ∙ ap (total_line a.t) told.answer; words = told.words }
