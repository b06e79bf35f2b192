-- A room that is refused is left; another has the slots of the caller's party freed, and the reading.
-- Assumes nothing.
use Rattle.room.specs.Laws.{room-directory}
use mathlib.Core.Path.{◌∙◌, sym, ap, subst, refl}
use mathlib.Core.List.{List}
use Prim.Native.Nat.{ℕ}
use Rattle.room.specs.Room.{Directory, slots_of, with_reading, cleared}
use Rattle.room.specs.Entries.{freed-room}
use Rattle.std.proofs.Common.{rules, ◌≡◌, Err}
use Rattle.common.proofs.Ruled.{ruled-ok, ruled-err}
use Rattle.judge.proofs.Verdict.{told-on}
use Rattle.clearing.specs.Clear.{clear-refused, clear_room, clear-done}
use Rattle.clearing.proofs.clear.Goals as goal

pub returns-in_err-judge : goal.returns-in_err-judge
returns-in_err-judge c =
    let a = c.args in
    let e : c.from_residual.result ≡ Err c.in_err-judge.field-0.0 = search rules in
    let o = ruled-err _ _ c.in_err-judge.ensures in
    told-on (e ∙ ap Err o.1) (clear-refused a.settings a.room.now a.reading a.caller _ refl o.0)

pub clear-requires : goal.clear-requires
clear-requires c =
    let a = c.args in
    room-directory (clear_room a.settings a.room.now a.reading a.caller (ruled-ok _ c.in_ok-judge.ensures))

pub store_reading-requires : goal.store_reading-requires
store_reading-requires c =
    let a = c.args in
    let o = clear_room a.settings a.room.now a.reading a.caller (ruled-ok _ c.in_ok-judge.ensures) in
    subst (λ (y : List ℕ). Directory y) (sym c.clear.ensures)
    (room-directory (freed-room a.room.now c.mark.result (slots_of a.room.now) o))

pub returns : goal.returns
returns c =
    let a = c.args in
    clear-done a.settings a.room.now a.reading a.caller _ (ruled-ok _ c.in_ok-judge.ensures)
    (c.store_reading.ensures ∙
    ap (λ (y : List ℕ). with_reading y a.reading) (c.clear.ensures ∙ ap (λ (n : ℕ). cleared a.room.now n) c.mark.ensures))
