-- By the rule; a constant is its bits.
-- Assumes nothing.
use lib.Ieee.{of_bits}
use Rattle.factor_opened.proofs.fresh_by.Goals as goal

pub returns-in-Nil : goal.returns-in-Nil
unfolding of_bits
returns-in-Nil c =
    rw c.in-Nil.is

pub returns-in-One : goal.returns-in-One
unfolding of_bits
returns-in-One c =
    rw c.in-One.is

pub returns-in-Worked : goal.returns-in-Worked
returns-in-Worked c =
    rw (c.in-Worked.is, ← c.second_of.ensures) c.fresh_factor.ensures
