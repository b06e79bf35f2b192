-- `fields::run_end` meets its contract: the library counts the run from the start of what is left.
-- Assumes nothing.
use Rattle.std.proofs.Common.{rules, tests}
use Prim.Native.Nat.{◌+◌}
use mathlib.Core.Path.{ap, ◌∙◌}
use Rattle.std.proofs.lemmas.Iterator.{YieldsList-from_slice}
use Rattle.std.proofs.lemmas.Iterator.Consumers.{count_from_yields_List}
use Rattle.std.proofs.lemmas.Iterator.Search.{YieldsList-from_take_while}
use Rattle.std.proofs.lemmas.List.Folds.{length-prefix_len}
use Rattle.fields.specs.Bytes.{counts}
use Rattle.fields.specs.Parts.{run}
use Rattle.fields.specs.Turns.{run_prefix}
use Rattle.fields.proofs.run_end.Goals as goal

pub returns : goal.returns
returns c =
    let p = counts c.args.letters in
    ap (λ n. c.args.at + n)
    (count_from_yields_List c.take_while.result _ c.count.ensures.ran
    (YieldsList-from_take_while _ p (YieldsList-from_slice c.rest.result.now cc) c.take_while.ensures.closure c.take_while.ensures.done
    (λ x b q k. search (rules, tests)))
    ∙ length-prefix_len p c.rest.result.now ∙ run_prefix p _ ∙ ap (run p) c.rest.ensures)
