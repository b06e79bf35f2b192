-- By whether the key has a slot.
use mathlib.Core.Path.{sym, ◌∙◌}
use Rattle.suppressed_edits.specs.Edits.{inc_change}
use Rattle.suppressed_edits.proofs.inc_change.Goals as goal

pub returns-then-has_slot : goal.returns-then-has_slot
unfolding inc_change
returns-then-has_slot c =
    rw (sym c.has_slot.ensures ∙ c.if-has_slot.true, c.recached-e.ensures, c.inc_edit.ensures)

pub returns-else-has_slot : goal.returns-else-has_slot
unfolding inc_change
returns-else-has_slot c =
    rw (sym c.has_slot.ensures ∙ c.if-has_slot.false, c.recached-e.ensures, c.inc_edit.ensures)
