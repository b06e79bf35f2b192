-- Each arm is its case of the definition.
-- Assumes nothing.
use Rattle.told.specs.Told.{snapped}
use Rattle.told.proofs.snapped.Goals as goal

pub returns-in-Ok : goal.returns-in-Ok
unfolding snapped
returns-in-Ok c =
    rw c.in-Ok.is

pub returns-in-Err : goal.returns-in-Err
unfolding snapped
returns-in-Err c =
    rw c.in-Err.is
