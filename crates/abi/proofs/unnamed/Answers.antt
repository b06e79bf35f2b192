-- The number that was judged, handed over as its row.
use mathlib.Core.Path.{ap, ◌∙◌}
use Rattle.answers.specs.Rows.{refused_row}
use Rattle.abi.proofs.unnamed.Goals as goal

pub returns : goal.returns
returns c =
    rw (c.refused_row.ensures ∙ ap refused_row (c.number.ensures ∙ c.refusal-refusal.ensures)) at c.give.ensures
