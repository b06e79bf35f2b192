-- The unit is a; b times it is held as a multiple of c and a part below c, so that the multiple is the quotient.
use Prim.Native.Nat.{◌*◌}
use Rattle.share.specs.Share.{comes-fits, comes-over, unit-comes, nothing, quotient, saturated}
use native.Mathlib.Omega.{arith}
use borrow.Author.Rules.{rules}
use Rattle.share.proofs.mul_div.Goals as goal

pub returns-then-c-eq0 : goal.returns-then-c-eq0
returns-then-c-eq0 c =
    rw c.if-c-eq0.true (nothing _ _)

pub returns-in-Some : goal.returns-in-Some
returns-in-Some c =
    let a = c.args in
    let o = unit-comes a.a a.b a.c c.times.result c.times.ensures in
    quotient a.a a.b a.c _ (search rules) (comes-fits a.c (a.a * a.b) _ _ c.in-Some.is o)

pub returns-in-None : goal.returns-in-None
returns-in-None c =
    let a = c.args in
    let o = unit-comes a.a a.b a.c c.times.result c.times.ensures in
    saturated a.a a.b a.c (omega arith) (comes-over a.c (a.a * a.b) _ c.in-None.is o)
