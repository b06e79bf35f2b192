-- A key that is too long has no slot, and another's is looked for.
-- Assumes nothing.
use borrow.Author.Tests.{lt-ltb, le-ltb}
use Rattle.opened.specs.Sound.{addressed}
use Rattle.judge.proofs.address.Goals as goal

pub returns-then-key-gt-LONGEST_KEY : goal.returns-then-key-gt-LONGEST_KEY
unfolding addressed
returns-then-key-gt-LONGEST_KEY c =
    rw (lt-ltb _ _ c.if-key-gt-LONGEST_KEY.true)

pub returns : goal.returns
unfolding addressed
returns c =
    rw (le-ltb _ _ c.if-key-gt-LONGEST_KEY.false) (rw (c.key_of.ensures, c.mark.ensures) at c.find.ensures)
