-- One store, by what stays.
-- Assumes nothing.
use mathlib.Core.Path.{sym, ◌∙◌}
use borrow.Author.Tests.{eq-eqb, ne_eqb}
use Rattle.stale.specs.Uses.{settled}
use Rattle.stale.proofs.settle.Goals as goal

pub returns-then-u-eq0 : goal.returns-then-u-eq0
unfolding settled
returns-then-u-eq0 c =
    c.release.ensures ∙ sym (rw (eq-eqb _ _ c.if-u-eq0.true))

pub returns-else-u-eq0 : goal.returns-else-u-eq0
unfolding settled
returns-else-u-eq0 c =
    c.set_use.ensures ∙ sym (rw (ne_eqb _ _ c.if-u-eq0.false))
