-- `sweep::step` meets its contract: field by field, what the smaller functions return is the definition.
-- Assumes nothing.
use Rattle.sweep.specs.Sweep.{step_of}
use Rattle.sweep.proofs.step.Goals as goal

pub returns : goal.returns
unfolding step_of
returns c =
    cc
