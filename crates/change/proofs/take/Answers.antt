-- The body, then the entry.
use Rattle.room.specs.Laws.{room-directory}
use mathlib.Core.Path.{sym, ap, ap₂, subst, ◌∙◌}
use mathlib.Core.List.{List}
use Prim.Native.Nat.{ℕ, ◌<◌}
use Rattle.keys.specs.declared.Key.{Key}
use Rattle.keys.specs.Keys.{key_of}
use Rattle.room.specs.Room.{Directory, slots_of, entered}
use Rattle.frame.specs.Frame.{inside-after}
use Rattle.change.specs.Words.{taken}
use Rattle.change.specs.Laws.{edit-change}
use Rattle.change.proofs.take.Goals as goal

pub enter-requires : goal.enter-requires
enter-requires c =
    let d = edit-change _ _ _ _ _ c.requires in
    subst (λ (y : List ℕ). Directory y × (c.args.at < slots_of y)) (sym c.edit_at.ensures) (room-directory d.room, inside-after d)

pub returns : goal.returns
unfolding taken
returns c =
    let a = c.args in
    c.enter.ensures ∙
    ap₂ (λ (y : List ℕ) (x : Key). entered y a.at a.e.used x) c.edit_at.ensures
    (c.key_of-k.ensures ∙ ap (λ (m : ℕ). key_of m a.key.now) c.mark.ensures)
