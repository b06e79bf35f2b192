-- A window has at most 33,554,432,000 milliseconds, a millisecond at most 1,000,000 ticks.
use mathlib.Core.Path.{ap}
use Prim.Native.Nat.{ℕ, ◌*◌}
use native.Mathlib.Omega.{arith}
use Rattle.settings.specs.Settings.{window_in}
use Rattle.settings.specs.Clock.{window_in_milliseconds, length-few}
use Rattle.settings.proofs.Settings.window_ticks.Goals as goal

pub overflow_mul-result-2 : goal.overflow_mul-result-2
overflow_mul-result-2 c =
    rw c.ticks_per_millisecond.ensures
    (omega (arith, length-few c.args.self.clock_mode (window_in_milliseconds (window_in c.args.self)) (omega (arith, c.requires))))

pub returns : goal.returns
returns c =
    ap (λ (n : ℕ). n * window_in_milliseconds (window_in c.args.self)) c.ticks_per_millisecond.ensures
