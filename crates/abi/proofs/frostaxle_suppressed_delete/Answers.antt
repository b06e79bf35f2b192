-- The limiter's answer for these settings, handed over as its row.
use Rattle.answers.specs.Rows.{delete_row}
use Rattle.abi.specs.Laws.{faced}
use Rattle.abi.proofs.frostaxle_suppressed_delete.Goals as goal

pub returns : goal.returns
returns c =
    faced delete_row _ _ _ _ _ _ (rw (c.settings-settings.ensures, c.caller_of-caller.ensures) at c.delete-answer.ensures)
    c.delete_row.ensures c.give.ensures
