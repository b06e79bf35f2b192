-- By the series.
use mathlib.Core.Path.{◌∙◌}
use Rattle.suppressed_edits.specs.Edits.{factor-series, factor-lone}
use Rattle.suppressed_edits.proofs.factor_change.Goals as goal

pub returns-then-series : goal.returns-then-series
returns-then-series c =
    let a = c.args in c.get_change.ensures ∙ factor-series a.x a.caching a.reading c.if-series.true

pub returns : goal.returns
returns c =
    let a = c.args in c.lone_change.ensures ∙ factor-lone a.x a.caching a.reading c.if-series.false
