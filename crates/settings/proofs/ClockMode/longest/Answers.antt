-- No sum passes a word: a millisecond has 1 to 1,000,000 ticks.
use mathlib.Core.Path.{ap}
use Prim.Native.Nat.{ℕ}
use native.Mathlib.Omega.{arith}
use Rattle.settings.specs.Clock.{longest, mode-some, mode-few, length-few}
use Rattle.settings.proofs.ClockMode.longest.Goals as goal

pub overflow_mul-result : goal.overflow_mul-result
overflow_mul-result c =
    rw c.ticks_per_millisecond-n.ensures (omega (arith, length-few c.args.self c.args.milliseconds c.requires))

pub overflow_sub-result : goal.overflow_sub-result
overflow_sub-result c =
    rw c.ticks_per_millisecond-n.ensures (mode-some c.args.self)

pub overflow_add-result : goal.overflow_add-result
overflow_add-result c =
    rw c.ticks_per_millisecond-n.ensures
    (omega (arith, length-few c.args.self c.args.milliseconds c.requires, mode-few c.args.self))

pub returns : goal.returns
returns c =
    ap (λ (n : ℕ). longest n c.args.milliseconds) c.ticks_per_millisecond-n.ensures
