use mathlib.Core.Path.{◌≡◌}
use Prim.Native.Nat.{◌-◌}
use Rattle.base.specs.Seek.{seek}
use Rattle.table.specs.Table.{names, entry_from}
use Rattle.table.proofs.entry_from.Given as goal

abbrev pub invariant-loop-i : goal.invariant-loop-i
invariant-loop-i l =
    entry_from l.w l.k l.from ≡ seek (names l.w l.k) l.i (l.known - l.i)
