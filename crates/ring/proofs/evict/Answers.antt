-- `ring::evict` meets its contract: its stores are the words said, one after the other.
-- Assumes nothing.
use Rattle.ring.specs.Ring.{without}
use Rattle.ring.proofs.evict.Goals as goal

pub returns : goal.returns
unfolding without
returns c =
    cc
