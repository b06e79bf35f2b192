-- The gateway's answer for these settings, handed over as its row.
use Rattle.abi.specs.Laws.{faced-gateway}
use Rattle.abi.proofs.frostaxle_gateway_shot.Goals as goal

pub returns : goal.returns
returns c =
    faced-gateway _ _ _ _ _ _ _ (rw (c.settings-s.ensures, c.caller_of-who.ensures) at c.shot-answer.ensures)
    c.shot_row.ensures c.give.ensures
