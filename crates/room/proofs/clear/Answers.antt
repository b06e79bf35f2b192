-- After s turns the words are those with the holder's own of the first s slots freed.
-- Assumes nothing.
use mathlib.Core.Path.{refl}
use native.Mathlib.Omega.{arith}
use Rattle.room.specs.Entries.{freed-ready, freed-turn}
use Rattle.room.specs.Room.{freed}
use Rattle.room.proofs.clear.Goals as goal

pub loop-s-init : goal.loop-s-init
unfolding freed
loop-s-init c =
    refl

pub release_own-requires : goal.release_own-requires
release_own-requires c =
    freed-ready c.args.w.now c.loop-s.w c.args.holder c.loop-s.s c.loop-s.invariant c.requires
    (omega arith)

pub loop-s-preserved : goal.loop-s-preserved
loop-s-preserved c =
    freed-turn c.args.w.now c.loop-s.w c.release_own.new.w c.args.holder
    c.loop-s.s c.loop-s.invariant
    c.release_own.ensures
