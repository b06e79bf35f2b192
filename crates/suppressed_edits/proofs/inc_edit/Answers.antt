-- By the series.
use Rattle.suppressed_edits.specs.Edits.{inc_edit}
use Rattle.suppressed_edits.proofs.inc_edit.Goals as goal

pub returns-then-series : goal.returns-then-series
unfolding inc_edit
returns-then-series c =
    rw c.if-series.true c.evicting.ensures

pub returns : goal.returns
unfolding inc_edit
returns c =
    rw c.if-series.false c.opening.ensures
