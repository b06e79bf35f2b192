-- Each arm is its case of the definition.
-- Assumes nothing.
use Rattle.told.specs.Told.{live}
use lib.Ieee.{of_bits}
use Rattle.told.proofs.live.Goals as goal

pub returns-in-Ok : goal.returns-in-Ok
unfolding live of_bits
returns-in-Ok c =
    rw c.in-Ok.is

pub returns-in-Err : goal.returns-in-Err
unfolding live of_bits
returns-in-Err c =
    rw c.in-Err.is
