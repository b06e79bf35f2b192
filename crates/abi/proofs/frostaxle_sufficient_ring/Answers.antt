-- The answer for these settings, handed over as its row.
use Rattle.abi.proofs.frostaxle_sufficient_ring.Goals as goal

pub returns : goal.returns
returns c =
    rw (c.ring_row.ensures, c.sufficient_ring-answer.ensures, c.settings-settings.ensures) at c.give.ensures
