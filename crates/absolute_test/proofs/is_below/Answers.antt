-- The comparison of the definition.
use Rattle.rules.specs.Absolute.{below}
use borrow.Author.Rules.{rules}
use Rattle.absolute_test.proofs.is_below.Goals as goal

pub returns : goal.returns
unfolding below
returns c =
    search rules
