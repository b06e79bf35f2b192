-- After `at` turns the words are those with the first `at` slots swept.
use Rattle.room.specs.Laws.{room-directory}
use mathlib.Core.Path.{refl}
use Prim.Native.Nat.{◌<◌}
use Rattle.room.specs.Room.{slots_of}
use Rattle.stale.specs.Uses.{swept}
use Rattle.stale.specs.Swept.{swept-readable, swept-turn}
use native.Mathlib.Omega.{arith}
use Rattle.stale.proofs.sweep.Goals as goal

pub loop-at-init : goal.loop-at-init
unfolding swept
loop-at-init c =
    refl

pub use_next-u-requires : goal.use_next-u-requires
use_next-u-requires c = (
  swept-readable c.args.w.now c.args.reading c.args.ticks c.args.stale c.loop-at.w c.loop-at.at c.loop-at.invariant c.requires.0
      c.loop-at-test.true,
  c.requires.1,
)

pub settle-requires : goal.settle-requires
settle-requires c =
    let r = swept-readable c.args.w.now c.args.reading c.args.ticks c.args.stale c.loop-at.w c.loop-at.at c.loop-at.invariant c.requires.0
    c.loop-at-test.true in
    (room-directory r.room, r.inside)

pub loop-at-preserved : goal.loop-at-preserved
loop-at-preserved c =
    let a = c.args in
    let t : c.loop-at.at < slots_of a.w.now = c.loop-at-test.true in
    swept-turn a.w.now a.reading a.ticks a.stale c.loop-at.w c.settle.new.w c.loop-at.at c.use_next-u.result t
    (omega (arith, c.requires.0.room.long))
    c.loop-at.invariant
    c.use_next-u.ensures c.settle.ensures
