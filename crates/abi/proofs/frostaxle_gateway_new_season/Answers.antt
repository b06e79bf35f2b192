-- The gateway's answer, handed over as its row.
use Rattle.answers.specs.Rows.{done_row}
use Rattle.abi.specs.Laws.{faced}
use Rattle.abi.proofs.frostaxle_gateway_new_season.Goals as goal

pub returns : goal.returns
returns c =
    faced done_row _ _ _ _ _ _ c.new_season-answer.ensures c.done_row.ensures c.give.ensures
