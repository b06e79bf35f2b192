use mathlib.Core.Path.{◌≡◌}
use mathlib.Core.Bool.{false}
use Prim.Native.Nat.{◌+◌, ◌<◌}
use lib.ListN.{drop}
use Rattle.ring.specs.Ring.{head_of, wrap, buckets}
use Rattle.quick.specs.Quick.{run_of}
use Rattle.quick.proofs.walk.Given as goal

abbrev pub invariant-loop-k : goal.invariant-loop-k
invariant-loop-k l =
    (l.j < l.r) × (l.j ≡ wrap l.r (head_of l.b + l.k)) × (run_of false l.a (drop l.k (buckets l.r l.b)) ≡ run_of false l.initial.a (buckets l.r l.b))
