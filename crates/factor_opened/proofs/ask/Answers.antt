-- The limits are the soft and the hard one.
-- Assumes nothing.
use Rattle.factor_opened.specs.Opened.{worked_at, asked_at}
use Rattle.factor_opened.proofs.ask.Goals as goal

pub returns : goal.returns
unfolding asked_at worked_at
returns c =
    rw (← c.cut_limit.ensures, ← c.soft_limit-soft.ensures) c.ask_by.ensures
