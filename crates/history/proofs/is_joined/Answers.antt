-- `history::is_joined` meets its contract: the last bucket of the ring is the newest of the view.
-- Assumes nothing.
use Rattle.history.specs.Steps.{joined_is}
use Rattle.history.specs.Changes.{joins-none}
use Rattle.ring.specs.View.{view-length}
use native.Mathlib.Omega.{arith}
use Rattle.std.proofs.Common.{ap, ◌∙◌, not, eqb}
use Rattle.history.proofs.is_joined.Goals as goal

pub returns-then-n-ne0 : goal.returns-then-n-ne0
returns-then-n-ne0 c =
    let a = c.args in
    joined_is a.r a.b.now a.size a.reading c.len-n.result c.saturating_sub.result c.nth.result
    c.len-n.ensures c.if-n-ne0.true c.nth.ensures c.saturating_sub.ensures

pub returns-else-n-ne0 : goal.returns-else-n-ne0
returns-else-n-ne0 c =
    let a = c.args in
    ap (λ n. not (eqb n 0)) c.if-n-ne0.false ∙ joins-none a.size a.reading _ (omega (arith, view-length a.r a.b.now, c.len-n.ensures, c.if-n-ne0.false))
