-- Each arm is its case of the definition.
-- Assumes nothing.
use Rattle.desk_turn.specs.Lines.{stepped_by}
use Rattle.desk_turn.proofs.step.Goals as goal

pub returns-in-Desk : goal.returns-in-Desk
unfolding stepped_by
returns-in-Desk c =
    rw c.in-Desk.is c.step.ensures

pub returns-in-Shots : goal.returns-in-Shots
unfolding stepped_by
returns-in-Shots c =
    rw c.in-Shots.is c.step-in-Shots.ensures
