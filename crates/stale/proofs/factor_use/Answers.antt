-- By the age.
use Rattle.stale.specs.Stays.{factor-young, factor-old}
use native.Mathlib.Omega.{arith}
use Rattle.stale.proofs.factor_use.Goals as goal

pub returns-then-milliseconds-stale : goal.returns-then-milliseconds-stale
returns-then-milliseconds-stale c =
    let a = c.args in factor-young a.time a.reading a.ticks a.stale (omega (arith, c.milliseconds.ensures))

pub returns-else-milliseconds-stale : goal.returns-else-milliseconds-stale
returns-else-milliseconds-stale c =
    let a = c.args in factor-old a.time a.reading a.ticks a.stale (omega (arith, c.milliseconds.ensures))
