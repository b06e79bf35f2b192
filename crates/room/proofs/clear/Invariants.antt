use mathlib.Core.Path.{◌≡◌}
use Rattle.room.specs.Room.{freed}
use Rattle.room.proofs.clear.Given as goal

abbrev pub invariant-loop-s : goal.invariant-loop-s
invariant-loop-s l =
    l.w ≡ freed l.initial.w l.holder l.s
