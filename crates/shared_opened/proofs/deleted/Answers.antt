-- By what the slot holds.
use Rattle.shared_opened.specs.Opened.{deleted_at}
use Rattle.shared_opened.proofs.deleted.Goals as goal

pub returns-then-series : goal.returns-then-series
unfolding deleted_at
returns-then-series c =
    rw (c.if-series.true, c.less.ensures)

pub returns-then-cached : goal.returns-then-cached
unfolding deleted_at
returns-then-cached c =
    rw (c.if-series.false, c.if-cached.true)

pub returns : goal.returns
unfolding deleted_at
returns c =
    rw (c.if-series.false, c.if-cached.false)
