use mathlib.Core.Path.{◌≡◌}
use lib.ListN.{drop}
use Rattle.quick.specs.Quick.{run_of, rows}
use Rattle.quick.proofs.run.Given as goal

abbrev pub invariant-loop-k : goal.invariant-loop-k
invariant-loop-k l =
    run_of l.plain l.a (drop l.k (rows l.cs l.ds l.ts)) ≡ run_of l.plain l.initial.a (rows l.cs l.ds l.ts)
