-- The words are a room, the key's slot is the lowest with it, and its totals stand at the start of its body.
-- Assumes nothing.
use Rattle.std.proofs.Common.{sym, ap, ◌∙◌, arith}
use Rattle.base.specs.Decides.{decided}
use Rattle.opened.specs.Sound.{has_series}
use Rattle.room.specs.Room.{find}
use Rattle.room.specs.Laws.{sized-is, room-directory}
use Rattle.desk_lines.specs.Stored.{stored-unsized, stored-none, stored-lone, stored_is}
use Rattle.std.proofs.Common.{not}
use Rattle.desk_lines.proofs.stored_of.Goals as goal

pub returns-then-not-sized : goal.returns-then-not-sized
returns-then-not-sized c =
    let s = c.sized in
    let a = c.args in
    c.none_stored.ensures ∙ stored-unsized a.w.now a.key.now (sym (sized-is a.w.now s.result s.ensures) ∙
    c.if-not-sized.true)

pub bounds-w-0 : goal.bounds-w-0
bounds-w-0 c =
    omega (arith, (decided c.sized.result (ap not c.if-not-sized.false) c.sized.ensures).long)

pub find-at-requires : goal.find-at-requires
find-at-requires c =
    room-directory
    (decided c.sized.result (ap not c.if-not-sized.false) c.sized.ensures)

pub returns-then-slots-at : goal.returns-then-slots-at
returns-then-slots-at c =
    let a = c.args in
    let at = c.find-at.ensures ∙ ap (find a.w.now) c.key_of.ensures in
    c.none_stored-then-slots-at.ensures ∙ stored-none a.w.now a.key.now _
    (decided c.sized.result (ap not c.if-not-sized.false)
    c.sized.ensures) at c.if-slots-at.true

pub use_of-requires : goal.use_of-requires
use_of-requires c = (
  room-directory (decided c.sized.result (ap not c.if-not-sized.false)
      c.sized.ensures),
  c.if-slots-at.false,
)

pub returns-then-not-has_series : goal.returns-then-not-has_series
returns-then-not-has_series c =
    let a = c.args in
    let at = c.find-at.ensures ∙
    ap (find a.w.now) c.key_of.ensures in
    let h = sym (c.has_series.ensures ∙ ap has_series c.use_of.ensures) ∙ c.if-not-has_series.true in
    c.none_stored-then-not-has_series.ensures ∙ stored-lone a.w.now a.key.now _
    (decided c.sized.result
    (ap not c.if-not-sized.false)
    c.sized.ensures) at c.if-slots-at.false h

pub start-start-requires : goal.start-start-requires
start-start-requires c = (
  decided c.sized.result
      (ap not c.if-not-sized.false)
      c.sized.ensures,
  c.if-slots-at.false,
)

pub returns : goal.returns
returns c =
    let a = c.args in
    let at = c.find-at.ensures ∙
    ap (find a.w.now) c.key_of.ensures in
    let h = sym (c.has_series.ensures ∙ ap has_series c.use_of.ensures) ∙
    c.if-not-has_series.false in
    stored_is a.w.now a.key.now _ _
    (decided c.sized.result
    (ap not c.if-not-sized.false)
    c.sized.ensures) at
    c.if-slots-at.false h c.start-start.ensures.at
