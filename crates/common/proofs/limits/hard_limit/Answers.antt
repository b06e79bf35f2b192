-- The word is that of the product.
use Rattle.common.specs.Limits.{hard_word}
use Rattle.common.proofs.limits.hard_limit.Goals as goal

pub returns : goal.returns
unfolding hard_word
returns c =
    rw c.nearest_u64_to_f64.ensures at c.word_of.ensures
