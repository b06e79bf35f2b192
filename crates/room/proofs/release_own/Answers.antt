-- Freed where it is held so.
-- Assumes nothing.
use mathlib.Core.Path.{sym, ◌∙◌}
use borrow.Author.Tests.{eq-eqb, ne_eqb}
use Rattle.room.specs.Room.{released_own}
use Rattle.room.proofs.release_own.Goals as goal

pub returns-then-holder_of-holder : goal.returns-then-holder_of-holder
unfolding released_own
returns-then-holder_of-holder c =
    c.release.ensures ∙ sym (rw (eq-eqb _ _ (sym c.holder_of.ensures ∙ c.if-holder_of-holder.true)))

pub returns-else-holder_of-holder : goal.returns-else-holder_of-holder
unfolding released_own
returns-else-holder_of-holder c =
    sym (rw (ne_eqb _ _ (λ e. c.if-holder_of-holder.false (c.holder_of.ensures ∙ e))))
