-- The limiter's answer for these settings, handed over as its row.
use Rattle.answers.specs.Rows.{old_rate_row}
use Rattle.abi.specs.Laws.{faced}
use Rattle.abi.proofs.frostaxle_absolute_set_rate_limit.Goals as goal

pub returns : goal.returns
returns c =
    faced old_rate_row _ _ _ _ _ _ (rw (c.settings-settings.ensures, c.caller_of-caller.ensures) at c.set_rate_limit-answer.ensures)
    c.old_rate_row.ensures c.give.ensures
