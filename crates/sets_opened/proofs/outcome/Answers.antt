-- Field by field.
use Rattle.sets_opened.specs.Sets.{outcome_at}
use Rattle.sets_opened.proofs.outcome.Goals as goal

pub returns : goal.returns
unfolding outcome_at
returns c =
    rw (c.matches.ensures, c.total_after.ensures)
