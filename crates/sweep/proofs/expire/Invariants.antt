use mathlib.Core.Path.{◌≡◌}
use Prim.Native.Nat.{◌+◌, ◌<◌}
use Rattle.ring.specs.Ring.{head_of, wrap}
use Rattle.sweep.specs.Turns.{Goes}
use Rattle.sweep.proofs.expire.Given as goal

abbrev pub invariant-loop-k : goal.invariant-loop-k
invariant-loop-k l =
    (l.j < l.r) × (l.j ≡ wrap l.r (head_of l.b + l.k)) × Goes l.r l.b l.reading l.window l.k l.total l.declined
