-- An increment's decision as the code works it out, on a key's opened slot x at reading t: the rules' own clauses on the slot's numbers.
-- Assumes nothing.
use Rattle.std.specs.Prelude.{Bool, true, false, List, ℕ, ◌+◌, ◌-◌, ◌≤◌}
use Rattle.std.proofs.Common.{arith}
use Rattle.suppression.specs.Factor.{admitted}
use Rattle.common.specs.Limits.{cut_word, soft_word}
use Rattle.settings.specs.Settings.{factor_in}
use Rattle.settings.specs.declared.Settings.{Settings}
use Rattle.rules.specs.declared.Asked.{Asked}
use Rattle.rules.specs.declared.Outcome.{Outcome}
use Rattle.rules.specs.declared.Reach.{Reach}
use Rattle.rules.specs.declared.Reach.TheVariants.{Hard, Soft, Over, Between}
use Rattle.rules.specs.Suppressed.{reach_of, declined_by, drawn, outcome_of}
use Rattle.opened.specs.declared.Slot.{Slot}
use Rattle.factor_opened.specs.Opened.{asked_at}

abbrev pub accepted_at : Slot → ℕ
accepted_at x = x.pass.live_total - x.pass.live_declined

-- ---- an increment: n is the forecast, c the count

abbrev pub forecast_at : Slot → ℕ → ℕ
forecast_at x c = accepted_at x + c

unfoldable pub outcome_at : Settings → List ℕ → ℕ → Slot → ℕ → ℕ → ℕ → ℕ → Outcome
outcome_at s w t x limit n c draw = outcome_of (reach_of n (soft_word (factor_in s) limit) (cut_word limit)) (asked_at s w t x limit) t c draw

-- no more is declined than counted
by-draw : (is : Bool) (c : ℕ) → declined_by is c ≤ c
by-draw true c = omega arith
by-draw false c = omega arith

by-reach : (r : Reach) (a : Asked) (t c draw : ℕ) → (outcome_of r a t c draw).declined ≤ c
unfolding drawn
by-reach Hard a t c draw = omega arith
by-reach Soft a t c draw = omega arith
by-reach Over a t c draw = omega arith
by-reach Between a t c draw = by-draw (admitted a.factor draw) c

pub outcome-declined : (s : Settings) (w : List ℕ) (t : ℕ) (x : Slot) (limit n c draw : ℕ) → (outcome_at s w t x limit n c draw).declined ≤ c
unfolding outcome_at
outcome-declined s w t x limit n c draw = by-reach (reach_of n (soft_word (factor_in s) limit) (cut_word limit)) (asked_at s w t x limit) t c draw
