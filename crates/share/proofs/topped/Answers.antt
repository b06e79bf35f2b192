-- Twice the half is n units, or one less.
use Rattle.share.specs.Share.{even-comes, odd-comes}
use Rattle.share.proofs.topped.Goals as goal

pub returns-then-n-eq0 : goal.returns-then-n-eq0
returns-then-n-eq0 c =
    let a = c.args in even-comes a.c a.n a.unit a.even c.requires c.if-n-eq0.true

pub add-requires : goal.add-requires
add-requires c =
    let p = c.requires in record { first = p.even-holds.below; second = p.unit-below }

pub returns : goal.returns
returns c =
    let a = c.args in odd-comes a.c a.n a.unit a.even c.add.result c.requires c.if-n-eq0.false
    c.add.ensures
