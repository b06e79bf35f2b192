-- Where the double of the half is over, n units are over too.
use Rattle.share.specs.Share.{double-over}
use Rattle.share.proofs.doubled.Goals as goal

pub returns-in_err-add : goal.returns-in_err-add
returns-in_err-add c =
    let a = c.args in
    rw c.from_residual.ensures (double-over a.c a.n a.unit a.half c.requires c.in_err-add.ensures)
