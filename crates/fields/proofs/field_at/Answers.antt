use mathlib.Core.Path.{sym, ◌∙◌}
use Rattle.fields.specs.Parts.{field_at}
use Rattle.fields.proofs.field_at.Goals as goal

pub returns-in_err-text_at : goal.returns-in_err-text_at
unfolding field_at
returns-in_err-text_at c = c.from_residual.ensures ∙ rw (sym c.text_at.ensures ∙ c.in_err-text_at.was)

pub returns : goal.returns
unfolding field_at
returns c = rw (sym c.text_at.ensures ∙ c.in_ok-text_at.was) c.number_at.ensures
