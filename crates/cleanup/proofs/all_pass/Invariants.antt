use mathlib.Core.Path.{◌≡◌}
use mathlib.Core.Bool.{true}
use Rattle.base.specs.Every.{every}
use Rattle.cleanup.specs.Cleanup.{slot_passes}
use Rattle.cleanup.proofs.all_pass.Given as goal

abbrev pub invariant-loop-i : goal.invariant-loop-i
invariant-loop-i l =
    every (slot_passes l.kind l.settings l.w) l.i ≡ true
