-- One store.
-- Assumes nothing.
use mathlib.Core.Path.{refl}
use Rattle.room.specs.Room.{with_reading}
use Rattle.room.proofs.store_reading.Goals as goal

pub returns : goal.returns
unfolding with_reading
returns c =
    refl
