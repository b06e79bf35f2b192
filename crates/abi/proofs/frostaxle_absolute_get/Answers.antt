-- The limiter's answer for these settings, handed over as its row.
use Rattle.answers.specs.Rows.{total_row}
use Rattle.abi.specs.Laws.{faced}
use Rattle.abi.proofs.frostaxle_absolute_get.Goals as goal

pub returns : goal.returns
returns c =
    faced total_row _ _ _ _ _ _ (rw (c.settings-settings.ensures, c.caller_of-caller.ensures) at c.get-answer.ensures)
    c.total_row.ensures c.give.ensures
