-- By the party.
-- Assumes nothing.
use borrow.Author.Tests.{eq-eqb, ne_eqb}
use Rattle.parties.specs.Parties.{none_left}
use Rattle.parties.proofs.none_left.Goals as goal

pub returns-then-caller-eq1 : goal.returns-then-caller-eq1
unfolding none_left
returns-then-caller-eq1 c =
    simp (eq-eqb _ _ c.if-caller-eq1.true, c.requires.first-is)

pub returns-else-caller-eq1 : goal.returns-else-caller-eq1
unfolding none_left
returns-else-caller-eq1 c =
    simp (ne_eqb _ _ c.if-caller-eq1.false, c.requires.second_is)
