-- What is told is the number of what the making answers.
-- Assumes nothing.
use Rattle.std.proofs.Common.{◌∙◌, ap}
use Rattle.answers.specs.Rows.{done_row, number_of}
use Rattle.abi.specs.Laws.{made-number}
use Rattle.abi.proofs.frostaxle_make.Goals as goal

pub returns : goal.returns
returns c =
    let made = c.make.ensures in record {
      value = c.number_of.ensures ∙ ap (λ x. number_of (done_row x)) made.answer ∙ made-number _;
      room_after = made.words;
    }
