-- A period has at most 2^32 milliseconds, a millisecond at most 1,000,000 ticks.
use mathlib.Core.Path.{ap}
use Prim.Native.Nat.{ℕ, ◌*◌}
use native.Mathlib.Omega.{arith}
use Rattle.settings.specs.Settings.{cache_in}
use Rattle.settings.specs.Clock.{length-few}
use Rattle.settings.proofs.Settings.cache_ticks.Goals as goal

pub overflow_mul-result : goal.overflow_mul-result
overflow_mul-result c =
    rw c.ticks_per_millisecond.ensures
    (omega (arith, length-few c.args.self.clock_mode (cache_in c.args.self) (omega (arith, c.requires))))

pub returns : goal.returns
returns c =
    ap (λ (n : ℕ). n * cache_in c.args.self) c.ticks_per_millisecond.ensures
