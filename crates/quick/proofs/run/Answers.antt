-- `quick::run` meets its contract. Assumes nothing.
use native.Mathlib.Omega.{arith}
use Rattle.quick.specs.Turns.{run-turn, run_end}
use Rattle.quick.proofs.run.Goals as goal

pub loop-k-preserved : goal.loop-k-preserved
loop-k-preserved c =
    let a = c.args in
    let l = c.loop-k in
    run-turn a.plain a.cs.now a.ds.now a.ts.now l.k l.a c.turn-a.result _
    (omega (arith, c.loop-k-test.true)) c.turn-a.ensures l.invariant

pub returns : goal.returns
returns c =
    let a = c.args in
    let l = c.loop-k in
    run_end a.plain a.cs.now a.ds.now a.ts.now l.k l.a _ (omega (arith, c.loop-k-test.false)) l.invariant
