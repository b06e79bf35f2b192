-- `history::preserve` meets its contract: the stored total picks the surplus or the shortage.
-- Assumes nothing.
use Rattle.preserve.specs.Preserving.{preserved_words}
use borrow.Author.Tests.{lt-ltb, le-ltb}
use Rattle.preserve.proofs.preserve.Goals as goal

pub returns-then-total-n : goal.returns-then-total-n
unfolding preserved_words
returns-then-total-n c =
    rw (lt-ltb _ _ c.if-total-n.true) c.grow.ensures

pub returns-else-total-n : goal.returns-else-total-n
unfolding preserved_words
returns-else-total-n c =
    rw (le-ltb _ _ c.if-total-n.false) c.shrink.ensures
