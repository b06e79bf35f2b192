-- As many ones as slots are the mask.
-- Assumes nothing.
use Rattle.parties.proofs.Laws.{low_mask}
use Rattle.parties.proofs.own_bits.Goals as goal

pub returns : goal.returns
returns c =
    low_mask c.args.x c.args.slots c.requires.1
