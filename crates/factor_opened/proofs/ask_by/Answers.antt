-- By the test.
-- Assumes nothing.
use mathlib.Core.Path.{sym, ◌∙◌}
use Rattle.factor_opened.proofs.ask_by.Goals as goal

pub returns-then-is_usable : goal.returns-then-is_usable
returns-then-is_usable c =
    rw (sym c.is_usable.ensures ∙ c.if-is_usable.true, c.kept-cached.ensures)

pub returns : goal.returns
returns c =
    rw (sym c.is_usable.ensures ∙ c.if-is_usable.false) c.work_out.ensures
