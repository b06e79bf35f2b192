-- By who holds it.
-- Assumes nothing.
use mathlib.Core.Path.{sym, ◌∙◌}
use Rattle.room.specs.Entries.{used-held, used-free}
use Rattle.room.proofs.used_at.Goals as goal

pub returns-then-holder_of-eq-NOBODY : goal.returns-then-holder_of-eq-NOBODY
returns-then-holder_of-eq-NOBODY c =
    sym (used-free _ _ (sym c.holder_of.ensures ∙ c.if-holder_of-eq-NOBODY.true))

pub returns-else-holder_of-eq-NOBODY : goal.returns-else-holder_of-eq-NOBODY
returns-else-holder_of-eq-NOBODY c =
    c.use_of.ensures ∙ sym (used-held _ _ (λ e. c.if-holder_of-eq-NOBODY.false (c.holder_of.ensures ∙ e)))
