-- The step's line is put.
-- Assumes nothing.
use mathlib.Core.Path.{refl}
use Rattle.desk_turn.specs.Lines.{turn}
use Rattle.desk_turn.proofs.put_step.Goals as goal

pub returns : goal.returns
unfolding turn
returns c =
    let s = c.step-answer.ensures in
    record { phase = refl; first = s.first; second = s.second; put = rw s.answer at c.put_line.ensures }
