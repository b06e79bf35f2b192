-- The parts' sum is below c, or one c is carried: compared with the room left, so that no sum passes a word.
use Rattle.share.specs.Share.{sum_below, sum-carried}
use Rattle.share.proofs.add.Goals as goal

pub returns-then-part-space : goal.returns-then-part-space
returns-then-part-space c =
    let a = c.args in sum_below a.c a.x a.y c.carried.result c.if-part-space.true c.carried.ensures

pub returns : goal.returns
returns c =
    let a = c.args in sum-carried a.c a.x a.y c.carried-2.result c.requires c.if-part-space.false
    c.carried-2.ensures
