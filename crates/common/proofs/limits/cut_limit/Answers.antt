-- The word's number is cut.
use Rattle.common.specs.Limits.{cut_word}
use Rattle.common.proofs.limits.cut_limit.Goals as goal

pub returns : goal.returns
unfolding cut_word
returns c =
    rw c.double_of.ensures at c.cut.ensures
