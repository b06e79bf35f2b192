-- The body, then the use.
use Rattle.room.specs.Laws.{room-directory}
use mathlib.Core.Path.{sym, ap, subst, ◌∙◌}
use mathlib.Core.List.{List}
use Prim.Native.Nat.{ℕ, ◌<◌}
use Rattle.room.specs.Room.{Directory, slots_of, with_use}
use Rattle.frame.specs.Frame.{inside-after}
use Rattle.change.specs.Words.{updated}
use Rattle.change.specs.Laws.{edit-change}
use Rattle.change.proofs.update.Goals as goal

pub set_use-requires : goal.set_use-requires
set_use-requires c =
    let d = edit-change _ _ _ _ _ c.requires in
    subst (λ (y : List ℕ). Directory y × (c.args.at < slots_of y)) (sym c.edit_at.ensures) (room-directory d.room, inside-after d)

pub returns : goal.returns
unfolding updated
returns c =
    let a = c.args in
    c.set_use.ensures ∙ ap (λ (y : List ℕ). with_use y a.at a.e.used) c.edit_at.ensures
