use Prim.Native.Nat.{◌≤◌}
use Rattle.ring.specs.Ring.{len_of}
use Rattle.second.specs.Walk.{Walks}
use Rattle.second.proofs.last_second.Given as goal

abbrev pub invariant-loop-k : goal.invariant-loop-k
invariant-loop-k l =
    (l.k ≤ len_of l.b) × Walks l.r l.b l.most l.reading l.k l.sum × (l.gone ≤ l.k)
