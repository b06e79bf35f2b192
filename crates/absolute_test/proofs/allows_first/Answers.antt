-- Below the limit the slot is allowed however it is looked at; else the look decides.
-- Assumes nothing.
use mathlib.Core.Path.{sym, ap, ◌∙◌}
use Rattle.absolute_test.specs.Test.{allowed_at}
use Rattle.absolute_test.specs.Laws.{allowed-stored}
use Rattle.absolute_test.proofs.allows_first.Goals as goal

pub returns-then-is_below : goal.returns-then-is_below
returns-then-is_below c =
    let b = c.is_below in
    let a = c.args in
    c.if-is_below.true ∙ allowed-stored a.limit a.look a.reading a.x (sym b.ensures ∙ c.if-is_below.true)

pub returns-else-is_below : goal.returns-else-is_below
returns-else-is_below c =
    let a = c.args in
    c.allows.ensures ∙ ap (allowed_at a.limit) c.first_look.ensures
