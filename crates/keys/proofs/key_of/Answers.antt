-- Four times eight bytes.
-- Assumes nothing.
use Rattle.keys.specs.Keys.{key_of}
use Rattle.keys.proofs.key_of.Goals as goal

pub returns : goal.returns
unfolding key_of
returns c =
    cc
