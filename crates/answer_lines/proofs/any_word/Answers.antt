-- `answer_lines::any_word` meets its contract: the words in turn, each beside the one before it.
-- Assumes nothing.
use mathlib.Core.Path.{◌∙◌}
use Rattle.answer_lines.specs.Laws.{any-or}
use Rattle.answer_lines.proofs.any_word.Goals as goal

pub returns : goal.returns
returns c = cc (any-or c.args.line.now c.args.at)
