-- `sweep::pass` meets its contract: words that do not fit are not sound, and the others go on to the sweep.
-- Assumes nothing.
use Rattle.sweep.specs.Looked.{looked-unfit}
use Rattle.base.specs.Decides.{undecided}
use mathlib.Core.Path.{◌∙◌}
use Rattle.std.proofs.Common.{ap}
use Rattle.std.proofs.Common.{not}
use Rattle.sweep.proofs.pass.Goals as goal

pub returns-then-not-fit : goal.returns-then-not-fit
returns-then-not-fit c =
    let a = c.args in
    let f = c.fit in
    c.no_pass.ensures ∙ looked-unfit a.r a.b.now a.last a.reading a.window a.look (undecided f.result (ap not c.if-not-fit.true)
    f.ensures)
