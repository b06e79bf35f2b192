-- `second::last_second` meets its contract: at every turn what was walked past is young, and the sum is what it counts.
-- Assumes nothing.
use Rattle.second.specs.Walk.{walk_start, walk-fits, walk-on, walk-old}
use native.Mathlib.Omega.{arith}
use Rattle.second.proofs.last_second.Goals as goal

pub loop-k-init : goal.loop-k-init
loop-k-init c =
    let a = c.args in
    (omega (arith, c.len-k.ensures), walk_start a.r a.b.now a.most a.reading c.len-k.result c.len-k.ensures, omega (arith, c.len-k.ensures))

pub returns-then-most-saturating_sub : goal.returns-then-most-saturating_sub
returns-then-most-saturating_sub c =
    let a = c.args in
    let o = c.requires.0 in
    let l = c.loop-k in
    let x = c.nth-x in
    walk-old a.r a.b.now a.most a.reading a.last a.gone l.k l.sum x.result o
    (omega (arith, c.loop-k-test.true)) l.invariant.0
    x.ensures l.invariant.1 (omega (arith, c.saturating_sub.ensures, c.if-most-saturating_sub.true))

pub overflow_add-sum : goal.overflow_add-sum
overflow_add-sum c =
    let a = c.args in
    let o = c.requires.0 in
    let l = c.loop-k in
    let x = c.nth-x in
    omega (
      arith,
      walk-fits a.r a.b.now a.most a.reading a.last a.gone l.k l.sum x.result o
          (omega (arith, c.loop-k-test.true)) l.invariant.0
          x.ensures l.invariant.1,
    )

pub loop-k-preserved : goal.loop-k-preserved
loop-k-preserved c =
    let a = c.args in
    let o = c.requires.0 in
    let l = c.loop-k in
    let x = c.nth-x in (
      omega (arith, l.invariant.0),
      walk-on a.r a.b.now a.most a.reading a.last a.gone l.k l.sum x.result o
          (omega (arith, c.loop-k-test.true)) l.invariant.0
          x.ensures l.invariant.1 (omega (arith, c.saturating_sub.ensures, c.if-most-saturating_sub.false)),
      omega (arith, c.loop-k-test.true),
    )
