-- The limiter's answer for these settings, handed over as its row.
use Rattle.answers.specs.Rows.{snapshot_row}
use Rattle.abi.specs.Laws.{faced}
use Rattle.abi.proofs.frostaxle_suppressed_get.Goals as goal

pub returns : goal.returns
returns c =
    faced snapshot_row _ _ _ _ _ _ (rw (c.settings-settings.ensures, c.caller_of-caller.ensures) at c.get-answer.ensures)
    c.snapshot_row.ensures c.give.ensures
