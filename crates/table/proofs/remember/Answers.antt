-- A known controller's number alone, or an entry more.
-- Assumes nothing.
use mathlib.Core.Path.{ap, ◌∙◌}
use Prim.Native.Nat.{◌+◌}
use lib.ListN.{set}
use Rattle.layout.specs.Layout.{slots_word}
use Rattle.room.specs.Room.{entered}
use Rattle.table.specs.Table.{known_of}
use Rattle.table.specs.Laws.{remembered-known, remembered-new}
use Rattle.table.proofs.remember.Goals as goal

pub returns-then-at-w : goal.returns-then-at-w
returns-then-at-w c =
    c.set_use.ensures ∙
    remembered-known c.args.w.now c.args.key.now c.args.at c.args.number c.requires.entry c.if-at-w.true

pub returns-else-at-w : goal.returns-else-at-w
returns-else-at-w c =
    let w = c.args.w.now in
    let v = set w slots_word (known_of w + 1) in
    c.enter.ensures ∙ ap (entered v (known_of w) c.args.number) c.key_of.ensures ∙
    remembered-new w c.args.key.now c.args.at c.args.number c.requires.entry c.if-at-w.false
