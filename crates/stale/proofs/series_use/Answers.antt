-- By the number of buckets, then by the newest one's age.
use Rattle.ring.specs.Ring.{buckets}
use Rattle.ring.specs.View.{view-length}
use Rattle.stale.specs.Stays.{series-none, series-old, series-young, newest-age}
use native.Mathlib.Omega.{arith}
use Rattle.stale.proofs.series_use.Goals as goal

pub returns-then-n-eq0 : goal.returns-then-n-eq0
returns-then-n-eq0 c =
    let a = c.args in
    series-none (buckets a.r a.b.now) a.reading a.ticks a.stale (omega (arith, view-length a.r a.b.now))

pub returns-then-stale-milliseconds : goal.returns-then-stale-milliseconds
returns-then-stale-milliseconds c =
    let a = c.args in
    series-old (buckets a.r a.b.now) a.reading a.ticks a.stale (omega (arith, view-length a.r a.b.now))
    (omega (
      arith,
      c.milliseconds.ensures,
      newest-age a.r a.b.now a.reading a.ticks c.len-n.result c.nth_or_none-newest.result c.len-n.ensures c.nth_or_none-newest.ensures,
    ))

pub returns-else-stale-milliseconds : goal.returns-else-stale-milliseconds
returns-else-stale-milliseconds c =
    let a = c.args in
    series-young (buckets a.r a.b.now) a.reading a.ticks a.stale (omega (arith, view-length a.r a.b.now))
    (omega (
      arith,
      c.milliseconds.ensures,
      newest-age a.r a.b.now a.reading a.ticks c.len-n.result c.nth_or_none-newest.result c.len-n.ensures c.nth_or_none-newest.ensures,
    ))
