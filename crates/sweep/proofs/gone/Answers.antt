-- `sweep::gone` meets its contract: nothing goes where the oldest is not over the look; where the newest is over the window all go, and else
-- the walk tells what goes.
-- Assumes nothing.
use mathlib.Core.Path.{sym, ◌∙◌}
use mathlib.Core.Bool.{true}
use Rattle.sweep.specs.Looked.{gone-by}
use Rattle.sweep.specs.Wholly.{gone-wholly}
use Rattle.sweep.proofs.gone.Goals as goal

pub returns-then-older : goal.returns-then-older
returns-then-older c =
    let a = c.args in
    let o = c.older in
    gone-wholly a.r a.b.now a.last c.requires.0 a.window a.reading c.len.result a.newest
    c.len.ensures c.requires.2 (sym c.older-2.ensures ∙ c.if-older.true) ∙
    gone-by a.r a.b.now a.reading a.window a.look a.oldest c.requires.1 true
    (sym c.if-not-older.false ∙ o.ensures)
