-- The limiter's answer for these settings, handed over as its row.
use Rattle.answers.specs.Rows.{factor_row}
use Rattle.abi.specs.Laws.{faced}
use Rattle.abi.proofs.frostaxle_suppressed_get_suppression_factor.Goals as goal

pub returns : goal.returns
returns c =
    faced factor_row _ _ _ _ _ _ (rw (c.settings-settings.ensures, c.caller_of-caller.ensures) at c.get_suppression_factor-answer.ensures)
    c.factor_row.ensures c.give.ensures
