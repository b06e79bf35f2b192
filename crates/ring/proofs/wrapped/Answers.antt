-- `ring::wrapped` meets its contract, branch by branch.
-- Assumes nothing.
use Rattle.ring.specs.Wrap.{wrap-lo, wrap-hi}
use mathlib.Core.Path.{sym}
use borrow.Author.Rules.{rules}
use Rattle.ring.proofs.wrapped.Goals as goal

pub returns-then-i-r : goal.returns-then-i-r
returns-then-i-r c =
    (sym (wrap-lo _ _ c.if-i-r.true), search rules)

pub returns-else-i-r : goal.returns-else-i-r
returns-else-i-r c =
    (sym (wrap-hi _ _ c.if-i-r.false), search rules)
