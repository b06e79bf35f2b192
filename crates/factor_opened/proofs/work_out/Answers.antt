-- Each part is what its function says.
-- Assumes nothing.
use Rattle.factor_opened.proofs.work_out.Goals as goal

pub returns : goal.returns
returns c =
    rw (c.fresh_by-factor.ensures, c.rule_of-by.ensures)
