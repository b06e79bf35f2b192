-- `quick::part` meets its contract. Assumes nothing.
use mathlib.Core.Path.{ap, ◌∙◌}
use Rattle.quick.specs.Quick.{run_of}
use Rattle.quick.specs.Turns.{rows-cells}
use Rattle.quick.proofs.part.Goals as goal

pub returns : goal.returns
returns c =
    let a = c.args in
    let p = c.requires in
    c.run.ensures ∙ ap (run_of a.plain a.a) (rows-cells a.r a.b.now a.j a.m p.0.long p.1)
