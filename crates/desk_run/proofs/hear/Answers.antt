-- The answer's variant says whether the read failed, and its count whether there are bytes.
-- Assumes nothing.
use Rattle.desk_run.specs.Laws.{failed-is, nothing_is, bytes-is}
use Rattle.desk_run.proofs.hear.Goals as goal

pub returns-in_default : goal.returns-in_default
returns-in_default c = failed-is c.args.got _ _ c.in_default.is

pub returns-then-n-eq0 : goal.returns-then-n-eq0
returns-then-n-eq0 c = nothing_is c.args.got _ _ _ c.in-Ok.is c.min-n.ensures c.if-n-eq0.true

pub returns : goal.returns
returns c = bytes-is c.args.got _ _ _ c.in-Ok.is c.min-n.ensures c.if-n-eq0.false
