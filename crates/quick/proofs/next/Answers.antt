-- `quick::next` meets its contract: behind the last place comes the first.
-- Assumes nothing.
use Prim.Native.Nat.{◌+◌}
use Rattle.ring.specs.Wrap.{wrap-lo, wrap-hi}
use native.Mathlib.Omega.{arith}
use Rattle.quick.proofs.next.Goals as goal

pub returns-then-j-r : goal.returns-then-j-r
returns-then-j-r c =
    let a = c.args in omega (arith, wrap-lo a.r (a.j + 1) c.if-j-r.true)

pub returns-else-j-r : goal.returns-else-j-r
returns-else-j-r c =
    let a = c.args in omega (arith, wrap-hi a.r (a.j + 1) c.if-j-r.false, c.if-j-r.false, c.requires)
