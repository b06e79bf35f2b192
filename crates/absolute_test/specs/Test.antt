-- The absolute limiter's test as the code works it out, on a key's opened slot x: who is allowed, and what a rejection says.
-- n is the key's limit cut to a whole number. It is the rules' (`absolute_verdicts/specs/Seen.antt`), and no contract of a call names it.
-- Assumes nothing.
use Rattle.std.specs.Prelude.{Bool, not, ◌||◌, cond, ℕ, ◌-◌, ltb}
use Rattle.answers.specs.declared.RateLimitDecision.{RateLimitDecision}
use Rattle.answers.specs.declared.RateLimitDecision.TheVariants.{Allowed, Rejected}
use Rattle.common.specs.declared.units.WindowSize.{WindowSize}
use Rattle.settings.specs.Clock.{age_in_milliseconds, window_in_milliseconds}
use Rattle.rules.specs.Absolute.{below, pick_decision}
use Rattle.opened.specs.declared.Slot.{Slot}

-- how many buckets are gone
abbrev pub gone_if : Bool → Slot → ℕ
gone_if out x = cond out x.pass.expired 0

-- the total of those that stay
abbrev pub total_if : Bool → Slot → ℕ
total_if out x = cond out x.pass.live_total x.total

-- ---- who is allowed

unfoldable pub evicts : ℕ → Slot → Bool
evicts n x = not (below n x.total)

unfoldable pub allowed_at : ℕ → Slot → Bool
allowed_at n x = not x.series || below n (total_if (evicts n x) x)

-- k is the number of ticks in a millisecond
unfoldable pub rejected_at : ℕ → WindowSize → ℕ → Slot → RateLimitDecision
rejected_at k window t x =
    pick_decision (ltb x.pass.expired x.pass.buckets)
    (Rejected window (window_in_milliseconds window.0 - age_in_milliseconds k t x.pass.oldest.time) x.pass.oldest.count)
    (Rejected window 0 0)

unfoldable pub decided_at : ℕ → WindowSize → ℕ → Bool → Slot → RateLimitDecision
decided_at k window t may x = pick_decision may Allowed (rejected_at k window t x)
