-- By what the slot holds.
use mathlib.Core.Path.{◌∙◌, ap}
use Rattle.change.specs.declared.Change.TheVariants.{Update}
use Rattle.sets_opened.specs.Sets.{stored, stored-known}
use Rattle.sets_opened.proofs.stored.Goals as goal

pub returns-then-series : goal.returns-then-series
returns-then-series c =
    let a = c.args in
    ap Update c.reset.ensures ∙ stored-known a.x a.limit a.count a.mode c.if-series.true

pub returns-then-cached : goal.returns-then-cached
unfolding stored
returns-then-cached c =
    rw (c.if-series.false, c.if-cached.true, c.begins.ensures)

pub returns : goal.returns
unfolding stored
returns c =
    rw (c.if-series.false, c.if-cached.false, c.begins-2.ensures)
