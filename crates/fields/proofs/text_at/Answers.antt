-- `fields::text_at` meets its contract: the library's test, in the words of the specs.
-- Assumes nothing.
use mathlib.Core.Path.{sym, ap, ◌∙◌}
use Rattle.fields.specs.Parts.{begins}
use Rattle.fields.specs.Turns.{begins-starts, text-found, text-missing}
use Rattle.fields.proofs.text_at.Goals as goal

pub returns-then-starts_with : goal.returns-then-starts_with
returns-then-starts_with c =
    sym (text-found _ _ _ (ap (begins c.args.text.now) (sym c.rest.ensures) ∙ sym (begins-starts _ _) ∙ sym c.starts_with.ensures.value ∙ c.if-starts_with.true))

pub returns-else-starts_with : goal.returns-else-starts_with
returns-else-starts_with c =
    sym (text-missing _ _ _ (ap (begins c.args.text.now) (sym c.rest.ensures) ∙ sym (begins-starts _ _) ∙ sym c.starts_with.ensures.value ∙ c.if-starts_with.false))
