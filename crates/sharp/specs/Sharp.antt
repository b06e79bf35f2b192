-- That demand 3 is sharp in each clause, the span and the look back in both clock modes: with a larger span, a lower limit or one call more that is let
-- pass the ceiling fails, and with a shorter look back or a higher limit the floor. Each by a history of a few calls that the checker computes
-- (`Histories.antt`). P is what is asked of the calls otherwise: the mission's wording, or anything that asks for less, as `Spares` does (`alone-spares`).
-- Assumes nothing.
use Rattle.std.specs.Prelude.{◌≡◌, ℕ, ◌-◌}
use Rattle.answers.specs.declared.HistoryUpdateMode.TheVariants.{Replace}
use Rattle.common.specs.declared.comparator.RateLimitComparator.TheVariants.{Always}
use Rattle.common.specs.declared.units.RateLimit.{RateLimit}
use Rattle.settings.specs.Settings.{window_in}
use Rattle.settings.specs.Clock.{window_in_milliseconds}
use Rattle.settings.specs.declared.ClockMode.{ClockMode}
use Rattle.settings.specs.declared.ClockMode.TheVariants.{Milliseconds, Nanoseconds}
use Rattle.steps.specs.Ops.{draws, set_rate, set, delete, cleanup, clear}
use Rattle.demand3.specs.History.{Clause}
use Rattle.sharp.specs.Histories.{key}

-- 1 in one clock mode, 0 in the other
abbrev pub one_in : ClockMode → ClockMode → ℕ
one_in Milliseconds Milliseconds = 1
one_in Milliseconds Nanoseconds = 0
one_in Nanoseconds Milliseconds = 0
one_in Nanoseconds Nanoseconds = 1

-- ---- one call more that is let pass

-- the stale time: a cleanup with window less 1
abbrev pub Cleans : Clause
Cleans s key rate w t op = op ≡ cleanup key.caller (window_in_milliseconds (window_in s) - 1)

-- a set, at the key's rate
abbrev pub Sets : Clause
Sets s key rate w t op = (n : ℕ) × (op ≡ set key rate Always n Replace)

abbrev pub Deletes : Clause
Deletes s key rate w t op = op ≡ delete key

-- a clear of the key's own party
abbrev pub Clears : Clause
Clears s key rate w t op = op ≡ clear key.caller

-- another rate: set on a known key, and of an increment that a key begins with
abbrev pub Rates : Clause
Rates s key rate w t op = (r : RateLimit) × (op ≡ set_rate key r)

abbrev pub Increments : Clause
Increments s key rate w t op = (r : RateLimit) × ((n : ℕ) × (op ≡ draws key r n 0))
