-- After i turns the first i slots have passed.
use mathlib.Core.Path.{refl, sym, ◌∙◌}
use Rattle.room.specs.Room.{slots_of}
use Rattle.base.specs.Every.{every, every-on, every-off}
use Rattle.cleanup.specs.Cleanup.{slot_passes}
use Rattle.cleanup.proofs.all_pass.Goals as goal

pub loop-i-init : goal.loop-i-init
unfolding every
loop-i-init c =
    refl

pub returns-then-not-slot_passes : goal.returns-then-not-slot_passes
returns-then-not-slot_passes c =
    let a = c.args in
    sym (every-off (slot_passes a.kind a.settings a.w.now) (slots_of a.w.now) c.loop-i.i c.loop-i-test.true
    (sym c.slot_passes.ensures ∙ c.if-not-slot_passes.true))

pub loop-i-preserved : goal.loop-i-preserved
loop-i-preserved c =
    let a = c.args in
    every-on (slot_passes a.kind a.settings a.w.now) c.loop-i.i c.loop-i.invariant
    (sym c.slot_passes.ensures ∙ c.if-not-slot_passes.false)
