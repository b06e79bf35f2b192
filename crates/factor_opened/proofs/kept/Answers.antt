-- The words are opened.
use Rattle.factor_opened.proofs.kept.Goals as goal

pub returns : goal.returns
returns c =
    rw c.double_of.ensures
