-- The tests of the definition.
use borrow.Author.Tests.{eq-eqb, ne_eqb}
use Rattle.shared_opened.specs.Opened.{used_with}
use Rattle.shared_opened.proofs.used_with.Goals as goal

pub returns-then-limit-old : goal.returns-then-limit-old
unfolding used_with
returns-then-limit-old c =
    rw (eq-eqb _ _ c.if-limit-old.true)

pub returns-then-used-eq-BOTH : goal.returns-then-used-eq-BOTH
unfolding used_with
returns-then-used-eq-BOTH c =
    rw (ne_eqb _ _ c.if-limit-old.false, eq-eqb _ _ c.if-used-eq-BOTH.true)

pub returns : goal.returns
unfolding used_with
returns c =
    rw (ne_eqb _ _ c.if-limit-old.false, ne_eqb _ _ c.if-used-eq-BOTH.false)
