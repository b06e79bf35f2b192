use Prim.Native.Nat.{◌≤◌}
use mathlib.Core.Path.{◌≡◌}
use lib.ListN.{drop}
use Rattle.fields.specs.Numbers.{value, value_from}
use Rattle.fields.specs.Ranges.{largest}
use Rattle.fields.proofs.number_in.Given as goal

abbrev pub invariant-loop-b : goal.invariant-loop-b
invariant-loop-b l =
    (value l.digits ≡ value_from l.value (drop l.b-index l.digits)) × (l.value ≤ largest)
