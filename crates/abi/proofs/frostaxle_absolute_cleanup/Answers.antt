-- The limiter's answer for these settings, handed over as its row.
use Rattle.answers.specs.Rows.{done_row}
use Rattle.abi.specs.Laws.{faced}
use Rattle.abi.proofs.frostaxle_absolute_cleanup.Goals as goal

pub returns : goal.returns
returns c =
    faced done_row _ _ _ _ _ _ (rw (c.settings-settings.ensures, c.caller_of-caller.ensures) at c.cleanup-answer.ensures)
    c.done_row.ensures c.give.ensures
