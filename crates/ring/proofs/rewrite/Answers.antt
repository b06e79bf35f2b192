-- `ring::rewrite` meets its contract: the bucket's old counts are part of the totals, so taking them off does not wrap.
-- Assumes nothing.
use Rattle.ring.specs.Ring.{rewritten}
use Rattle.ring.proofs.rewrite.Goals as goal

-- src/lib.rt:120:1
pub returns : goal.returns
unfolding rewritten
returns c =
    cc
