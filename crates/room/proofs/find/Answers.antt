-- No slot below the one looked at has the key: the search from 0 is the search from there.
-- Assumes nothing.
use mathlib.Core.Path.{◌≡◌, sym, ◌∙◌}
use native.Mathlib.Omega.{arith}
use Rattle.base.specs.Seek.{seek-on, seek-here, seek-end}
use Rattle.room.specs.Room.{slots_of}
use Rattle.room.proofs.find.Goals as goal

pub returns-then-holds : goal.returns-then-holds
returns-then-holds c =
    sym
    (c.loop-slot.invariant ∙ seek-here _ _ _ (omega arith) (sym c.holds.ensures ∙ c.if-holds.true))

pub loop-slot-preserved : goal.loop-slot-preserved
loop-slot-preserved c =
    c.loop-slot.invariant ∙ seek-on _ _ _ (omega arith) (sym c.holds.ensures ∙ c.if-holds.false)

pub returns : goal.returns
returns c =
    let e : slots_of c.args.w.now ≡ c.loop-slot.slot = omega arith in e ∙ sym (c.loop-slot.invariant ∙ seek-end _ _ _ (omega arith))
