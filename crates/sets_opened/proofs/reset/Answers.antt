-- By the mode.
use mathlib.Core.Path.{◌∙◌, ap}
use Rattle.edit.specs.declared.Edit.{Edit}
use Rattle.plan.specs.Plan.{relimited}
use Rattle.sets_opened.proofs.reset.Goals as goal

pub returns-in-Replace : goal.returns-in-Replace
returns-in-Replace c =
    let a = c.args in
    rw c.in-Replace.is (c.relimited.ensures ∙ ap (λ (e : Edit). relimited e a.limit 1) c.keeping.ensures)

pub returns-in-Preserve : goal.returns-in-Preserve
returns-in-Preserve c =
    let a = c.args in
    rw c.in-Preserve.is (c.relimited-in-Preserve.ensures ∙ ap (λ (e : Edit). relimited e a.limit 1) c.evicting.ensures)
