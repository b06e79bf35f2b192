use mathlib.Core.Path.{◌≡◌}
use Prim.Native.Nat.{◌-◌}
use Rattle.base.specs.Seek.{seek}
use Rattle.room.specs.Room.{slots_of, has}
use Rattle.room.proofs.find.Given as goal

abbrev pub invariant-loop-slot : goal.invariant-loop-slot
invariant-loop-slot l =
    seek (has l.w l.k) 0 (slots_of l.w) ≡ seek (has l.w l.k) l.slot (l.n - l.slot)
