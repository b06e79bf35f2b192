-- One store.
-- Assumes nothing.
use mathlib.Core.Path.{refl}
use Rattle.room.specs.Room.{with_use}
use Rattle.room.proofs.set_use.Goals as goal

pub returns : goal.returns
unfolding with_use
returns c =
    refl
