-- By the series.
use Rattle.suppressed_edits.specs.Edits.{get_change, get-series}
use Rattle.suppressed_edits.proofs.get_change.Goals as goal

pub returns-then-not-series : goal.returns-then-not-series
unfolding get_change
returns-then-not-series c =
    rw c.if-not-series.true

pub returns : goal.returns
returns c =
    let a = c.args in
    rw (c.recached.ensures, c.evicting.ensures) (get-series a.x a.caching c.if-not-series.false)
