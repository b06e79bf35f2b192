-- The word's number, divided, is cut.
use Rattle.common.specs.Limits.{soft_word}
use Rattle.common.proofs.limits.soft_limit.Goals as goal

pub returns : goal.returns
unfolding soft_word
returns c =
    rw c.double_of.ensures at c.cut.ensures
