use mathlib.Core.Path.{◌≡◌}
use Rattle.stale.specs.Uses.{swept}
use Rattle.stale.proofs.sweep.Given as goal

abbrev pub invariant-loop-at : goal.invariant-loop-at
invariant-loop-at l =
    l.w ≡ swept l.initial.w l.reading l.ticks l.stale l.at
