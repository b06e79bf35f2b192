-- Nobody holds it.
-- Assumes nothing.
use Rattle.room.specs.Room.{released}
use Rattle.room.proofs.release.Goals as goal

pub returns : goal.returns
unfolding released
returns c =
    c.hold.ensures
