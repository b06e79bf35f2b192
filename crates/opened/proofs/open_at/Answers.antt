-- The body that is lent is the slot's, and it is opened.
use mathlib.Core.Path.{◌∙◌, sym, ap, ap₂}
use mathlib.Core.List.{List}
use Prim.Native.Nat.{ℕ}
use Rattle.opened.specs.Slot.{opened, first_look}
use Rattle.opened.specs.Look.{no-slot-look}
use Rattle.opened.specs.Right.{slot-here, slot-none}
use Rattle.room.specs.Room.{ring_of, last_of}
use Rattle.room.specs.Laws.{part_body}
use Rattle.opened.proofs.open_at.Goals as goal

pub returns-then-slots-at : goal.returns-then-slots-at
returns-then-slots-at c =
    let a = c.args in
    rw (slot-none _ _ _ _ c.if-slots-at.true) (c.no_slot.ensures ∙ no-slot-look a.look a.reading _)

pub returns : goal.returns
returns c =
    let w = c.args.w.now in
    let at = c.args.at in
    c.open_body.ensures ∙
    ap₂ (λ (u : ℕ) (b : List ℕ). first_look c.args.look c.args.reading (opened c.args.window (ring_of w) (last_of w) c.args.reading at u b))
    c.use_of-u.ensures (part_body w c.start-a.result at c.start-a.ensures.at) ∙
    sym (ap (first_look c.args.look c.args.reading) (slot-here c.args.window c.args.reading w at c.if-slots-at.false))
