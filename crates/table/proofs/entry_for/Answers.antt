-- A key that is too long has no entry, and another's is looked for.
-- Assumes nothing.
use borrow.Author.Tests.{lt-ltb, le-ltb}
use Rattle.table.specs.Table.{entry_for}
use Rattle.table.proofs.entry_for.Goals as goal

pub returns-then-key-gt-LONGEST_KEY : goal.returns-then-key-gt-LONGEST_KEY
unfolding entry_for
returns-then-key-gt-LONGEST_KEY c =
    rw (lt-ltb _ _ c.if-key-gt-LONGEST_KEY.true)

pub returns : goal.returns
unfolding entry_for
returns c =
    rw (le-ltb _ _ c.if-key-gt-LONGEST_KEY.false) (rw c.key_of.ensures at c.entry_from.ensures)
