-- The uses, then the reading.
use Rattle.room.specs.Laws.{room-directory}
use mathlib.Core.Path.{sym, ap, subst, ◌∙◌}
use mathlib.Core.List.{List}
use Prim.Native.Nat.{ℕ}
use Rattle.room.specs.Room.{Directory, slots_of, with_reading}
use Rattle.stale.specs.Uses.{cleaned}
use Rattle.stale.specs.Swept.{swept-room}
use Rattle.stale.proofs.clean.Goals as goal

pub store_reading-requires : goal.store_reading-requires
store_reading-requires c =
    let w = c.args.w.now in
    subst (λ (y : List ℕ). Directory y) (sym c.sweep.ensures) (room-directory (swept-room w c.args.reading c.args.ticks c.args.stale
    (slots_of w) c.requires.0.room))

pub returns : goal.returns
unfolding cleaned
returns c =
    let a = c.args in
    c.store_reading.ensures ∙ ap (λ (y : List ℕ). with_reading y a.reading) c.sweep.ensures
