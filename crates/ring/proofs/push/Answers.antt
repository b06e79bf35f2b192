-- `ring::push` meets its contract: its stores are the words said, and the totals have room for the counts.
-- Assumes nothing.
use Rattle.ring.specs.Ring.{pushed}
use Rattle.ring.proofs.push.Goals as goal

-- src/lib.rt:103:1
pub returns : goal.returns
unfolding pushed
returns c =
    cc
