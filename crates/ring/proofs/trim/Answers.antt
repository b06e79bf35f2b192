-- `ring::trim` meets its contract: its stores are the words said, one after the other.
-- Assumes nothing.
use Rattle.ring.specs.Ring.{trimmed}
use Rattle.ring.proofs.trim.Goals as goal

pub returns : goal.returns
unfolding trimmed
returns c =
    cc
