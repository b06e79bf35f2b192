-- The change, then the reading.
use Rattle.room.specs.Laws.{room-directory}
use mathlib.Core.Path.{sym, ap, subst, ◌∙◌}
use mathlib.Core.List.{List}
use Prim.Native.Nat.{ℕ}
use Rattle.room.specs.Room.{Directory, with_reading}
use Rattle.parties.specs.Parties.{sent}
use Rattle.change.specs.Words.{applied}
use Rattle.change.specs.Laws.{carried-room}
use Rattle.change.proofs.apply.Goals as goal

pub store_reading-requires : goal.store_reading-requires
store_reading-requires c =
    let o = carried-room c.args.w.now c.args.at (sent c.args.caller c.args.key.now) c.args.size c.args.reading c.args.change
    c.requires in
    subst (λ (y : List ℕ). Directory y) (sym c.carry.ensures) (room-directory o)

pub returns : goal.returns
unfolding applied
returns c =
    let a = c.args in
    c.store_reading.ensures ∙ ap (λ (y : List ℕ). with_reading y a.reading) c.carry.ensures
