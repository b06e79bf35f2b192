-- All stay, or the slot is as it was.
-- Assumes nothing.
use mathlib.Core.Path.{sym, ◌∙◌}
use Rattle.opened.specs.Look.{look-leaves, look-else}
use Rattle.opened.proofs.first_look.Goals as goal

pub returns-then-leaves_expired : goal.returns-then-leaves_expired
returns-then-leaves_expired c =
    let a = c.args in
    c.all_stay.ensures ∙ look-leaves a.look a.reading a.x (sym c.leaves_expired.ensures ∙ c.if-leaves_expired.true)

pub returns-else-leaves_expired : goal.returns-else-leaves_expired
returns-else-leaves_expired c =
    let a = c.args in
    look-else a.look a.reading a.x (sym c.leaves_expired.ensures ∙ c.if-leaves_expired.false)
