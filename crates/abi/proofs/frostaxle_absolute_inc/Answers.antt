-- The limiter's answer for these settings, handed over as its row.
use Rattle.answers.specs.Rows.{decision_row}
use Rattle.abi.specs.Laws.{faced}
use Rattle.abi.proofs.frostaxle_absolute_inc.Goals as goal

pub returns : goal.returns
returns c =
    faced decision_row _ _ _ _ _ _ (rw (c.settings-settings.ensures, c.caller_of-caller.ensures) at c.inc-answer.ensures)
    c.decision_row.ensures c.give.ensures
