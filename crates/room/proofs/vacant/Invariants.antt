use mathlib.Core.Path.{◌≡◌}
use Prim.Native.Nat.{◌-◌}
use Rattle.base.specs.Seek.{seek}
use Rattle.room.specs.Room.{slots_of, free}
use Rattle.room.proofs.vacant.Given as goal

abbrev pub invariant-loop-spare : goal.invariant-loop-spare
invariant-loop-spare l =
    seek (free l.w) 0 (slots_of l.w) ≡ seek (free l.w) l.spare (l.n - l.spare)
