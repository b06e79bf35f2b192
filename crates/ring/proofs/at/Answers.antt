-- `ring::at` meets its contract: it reads the three words of one cell.
-- Assumes nothing.
use Rattle.ring.specs.Ring.{bucket_at}
use Rattle.ring.proofs.at.Goals as goal

pub returns : goal.returns
unfolding bucket_at
returns c =
    cc
