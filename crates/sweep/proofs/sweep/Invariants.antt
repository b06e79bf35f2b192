use Rattle.sweep.specs.Turns.{Sweeps}
use Rattle.sweep.proofs.sweep.Given as goal

abbrev pub invariant-loop-k : goal.invariant-loop-k
invariant-loop-k l =
    Sweeps l.r l.b l.last l.k l.a
