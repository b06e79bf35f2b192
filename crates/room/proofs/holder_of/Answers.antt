-- A bit of each of the two words.
-- Assumes nothing.
use native.Mathlib.Omega.{arith}
use Rattle.room.specs.Room.{holder_of}
use Rattle.room.proofs.holder_of.Goals as goal

pub returns : goal.returns
unfolding holder_of
returns c =
    omega (arith, c.bit.ensures.0, c.bit-2.ensures.0)
