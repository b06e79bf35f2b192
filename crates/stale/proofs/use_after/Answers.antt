-- What stays, by the use.
use Rattle.stale.specs.Stays.{after-series, after-factor, after_both, after-other}
use native.Mathlib.Omega.{arith}
use Rattle.stale.proofs.use_after.Goals as goal

pub returns-in-1 : goal.returns-in-1
returns-in-1 c =
    let a = c.args in
    after-series a.r a.u a.b.now a.reading a.ticks a.stale _ c.in-1.is c.series_use.ensures

pub returns-in-2 : goal.returns-in-2
returns-in-2 c =
    let a = c.args in
    after-factor a.r a.u a.b.now a.reading a.ticks a.stale _ c.in-2.is c.factor_use.ensures

pub returns-in-3 : goal.returns-in-3
returns-in-3 c =
    let a = c.args in
    after_both a.r a.u a.b.now a.reading a.ticks a.stale _ _ c.in-3.is c.series_use-in-3.ensures c.factor_use-in-3.ensures

pub returns-in_default : goal.returns-in_default
returns-in_default c =
    let a = c.args in
    after-other a.r a.u a.b.now a.reading a.ticks a.stale (λ e. omega arith) (λ e. omega arith) (λ e. omega arith)
