-- `sweep::sweep` meets its contract. At every turn, sweeping what is left of the buckets from here comes to the whole sweep.
-- Assumes nothing.
use Rattle.sweep.specs.Turns.{sweep-turn, sweep-off, sweep-end}
use mathlib.Core.Path.{sym, ◌∙◌}
use native.Mathlib.Omega.{arith}
use Rattle.sweep.proofs.sweep.Goals as goal

pub returns-then-not-good : goal.returns-then-not-good
returns-then-not-good c =
    let a = c.args in
    let l = c.loop-k in
    let g = c.good in
    sweep-off a.r a.b.now a.last l.k l.a c.nth-x.result
    (omega (arith, c.len-n.ensures, c.loop-k-test.true))
    c.nth-x.ensures (sym g.ensures ∙ c.if-not-good.true) l.invariant

pub loop-k-preserved : goal.loop-k-preserved
loop-k-preserved c =
    let a = c.args in
    let l = c.loop-k in
    let g = c.good in
    sweep-turn a.r a.b.now a.last l.k l.a c.step-a.result c.nth-x.result
    (omega (
      arith,
      c.len-n.ensures,
      c.loop-k-test.true,
    )) c.nth-x.ensures
    (sym g.ensures ∙ c.if-not-good.false) c.step-a.ensures l.invariant

pub returns : goal.returns
returns c =
    let a = c.args in
    let l = c.loop-k in
    sweep-end a.r a.b.now a.last l.k l.a c.ended.result
    (omega (arith, c.len-n.ensures, c.loop-k-test.false)) c.ended.ensures l.invariant
