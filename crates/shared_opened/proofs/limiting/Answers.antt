-- By whether there is a series.
use mathlib.Core.Path.{◌∙◌, ap}
use Rattle.edit.specs.declared.Then.TheVariants.{Nothing}
use Rattle.edit.specs.declared.Edit.{Edit}
use Rattle.change.specs.declared.Change.TheVariants.{Update}
use Rattle.plan.specs.Plan.{keeping, relimited}
use Rattle.shared_opened.specs.Opened.{limiting, limiting-known}
use Rattle.shared_opened.proofs.limiting.Goals as goal

pub returns-then-series : goal.returns-then-series
unfolding limiting
returns-then-series c =
    let a = c.args in
    let u = c.used_with-used in
    ap Update (c.relimited.ensures ∙ ap (λ (e : Edit). relimited e a.limit u.result) c.keeping.ensures ∙
    ap (relimited (keeping a.x Nothing) a.limit) u.ensures) ∙
    limiting-known a.x a.limit c.if-series.true

pub returns : goal.returns
unfolding limiting
returns c =
    rw c.if-series.false
