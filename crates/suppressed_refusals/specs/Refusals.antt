-- An increment's own refusals 8 to 12 as the code judges them, on the key's slot x that is opened: they are the rules'
-- (`suppressed_verdicts/specs/Seen.antt`). r is the ring.
-- Assumes nothing.
use Rattle.std.specs.Prelude.{Bool, not, List, [], ◌∷◌, ℕ, ltb}
use Rattle.common.specs.Ranges.{rate_ok}
use Rattle.settings.specs.Clock.{join_ticks}
use Rattle.settings.specs.declared.Settings.{Settings}
use Rattle.common.specs.declared.units.RateLimit.{RateLimit}
use Rattle.rules.specs.Both.{passes}
use Rattle.rules.specs.Suppressed.{most_draw}
use Rattle.opened.specs.declared.Slot.{Slot}
use Rattle.plan.specs.Plan.{full_after}

abbrev pub inc_numbers : Bool → Bool → Bool → Bool → Bool → List (ℕ × Bool)
inc_numbers rate draw passes lacks crams = (8, rate) ∷ (9, draw) ∷ (10, passes) ∷ (11, lacks) ∷ (12, crams) ∷ []

abbrev pub inc_late : Settings → Slot → Bool → ℕ → ℕ → RateLimit → ℕ → ℕ → List (ℕ × Bool)
inc_late s x lacks r t rate c draw =
    inc_numbers (not (rate_ok rate.0)) (ltb most_draw draw) (passes c x.pass.live_total) lacks (full_after r (join_ticks s) t x.pass.expired x)
