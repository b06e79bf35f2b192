-- By whether a first look is taken.
-- Assumes nothing.
use Rattle.judge.proofs.look_of.Goals as goal

pub returns-then-first : goal.returns-then-first
returns-then-first c =
    rw c.if-first.true c.look_ticks.ensures

pub returns : goal.returns
returns c =
    rw c.if-first.false c.window_ticks.ensures
