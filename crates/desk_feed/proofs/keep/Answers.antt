-- A byte past the room that is lent is passed over.
-- Assumes nothing.
use Rattle.desk_feed.specs.Laws.{keep-full, keep-more}
use Rattle.desk_feed.proofs.keep.Goals as goal

pub returns-then-hold-desk : goal.returns-then-hold-desk
returns-then-hold-desk c =
    let a = c.args in keep-full a.desk a.hold.now a.b c.if-hold-desk.true

pub returns : goal.returns
returns c =
    let a = c.args in keep-more a.desk a.hold.now a.b c.if-hold-desk.false
