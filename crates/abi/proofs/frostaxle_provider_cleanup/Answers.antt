-- The provider's answer for these settings, handed over as its row.
use Rattle.abi.specs.Laws.{faced-both}
use Rattle.abi.proofs.frostaxle_provider_cleanup.Goals as goal

pub returns : goal.returns
returns c =
    faced-both _ _ _ _ _ _ _ (rw (c.settings-settings.ensures, c.caller_of-one.ensures, c.caller_of-other.ensures) at c.cleanup-answer.ensures)
    c.done_row.ensures c.give.ensures
