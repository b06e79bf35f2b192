-- A key's suppression factor as the code works it out, on the key's slot x that is opened at reading t: the rules' own clauses on the
-- numbers that the slot has. They are the rules' (`suppressed_verdicts/specs/Seen.antt`), and no contract of a call names them.
-- Assumes nothing.
use Rattle.std.specs.Prelude.{◌≡◌, Bool, true, not, ◌&&◌, ◌||◌, cond, List, ℕ, ◌-◌, ◌≤◌, ◌<◌, ltb, eqb, drop, Float}
use Rattle.std.specs.Float.{binary64}
use Rattle.std.specs.Float.Ieee.{of_bits}
use Rattle.common.specs.Limits.{cut_word, soft_word}
use Rattle.settings.specs.Settings.{window_in, factor_in}
use Rattle.settings.specs.Clock.{age, ticks_in, cache_ticks}
use Rattle.settings.specs.declared.Settings.{Settings}
use Rattle.suppression.specs.declared.CachedFactor.{CachedFactor}
use Rattle.ring.specs.Ring.{len_of, buckets}
use Rattle.ring.specs.Sound.{Sound}
use Rattle.room.specs.Room.{Room, slots_of, ring_of, last_of, body_of}
use Rattle.rules.specs.Buckets.{last_second}
use Rattle.rules.specs.declared.Asked.{Asked}
use Rattle.rules.specs.declared.FactorRule.{FactorRule}
use Rattle.rules.specs.Suppressed.{clauses, freshly, as_cached}
use Rattle.opened.specs.declared.Slot.{Slot}

-- ---- once the expired buckets are out

-- how many buckets there are
abbrev pub left : Slot → ℕ
left x = x.pass.buckets - x.pass.expired

unfoldable pub stays_at : Slot → Bool
stays_at x = x.cached && eqb x.pass.expired 0

-- the cached record that the words hold
abbrev pub kept_at : Slot → CachedFactor
kept_at x = record { suppression_factor = of_bits binary64 x.factor; time = x.factor_time }

-- C is the cache period in ticks
unfoldable pub usable_at : ℕ → ℕ → Slot → Bool
usable_at C t x = stays_at x && ltb (age t x.factor_time) C

-- ---- the last second, in the room w: without a series there is none; n is the number of ticks in a millisecond

abbrev pub second_at : ℕ → List ℕ → ℕ → Slot → ℕ
second_at n w t x = cond x.series (last_second n t (drop x.pass.expired (buckets (ring_of w) (body_of w x.at)))) 0

-- what is asked of the room: a series of x lies in it, is sound, and has the buckets that go
pub record InRoom (w : List ℕ) (x : Slot) : Type 0 where
  pub room : Room w
  pub inside : x.series ≡ true → x.at < slots_of w
  pub sound : x.series ≡ true → Sound (ring_of w) (body_of w x.at) (last_of w)
  pub some : x.series ≡ true → x.pass.expired ≤ len_of (body_of w x.at)

-- ---- the factor, at this limit

unfoldable pub rule_at : ℕ → ℕ → Slot → FactorRule
rule_at S H x = clauses S H (not x.series || eqb (left x) 0) x.pass.live_total x.pass.live_declined

-- by the soft and the hard limit
abbrev pub worked_by : ℕ → ℕ → ℕ → ℕ → List ℕ → ℕ → Slot → Asked
worked_by S H W n w t x = freshly (rule_at S H x) S W t x.pass.live_total (second_at n w t x)

unfoldable pub worked_at : Float → ℕ → ℕ → List ℕ → ℕ → Slot → ℕ → Asked
worked_at F W n w t x limit = worked_by (soft_word F limit) (cut_word limit) W n w t x

abbrev pub asked_by : Settings → ℕ → ℕ → List ℕ → ℕ → Slot → Asked
asked_by s S H w t x = cond (usable_at (cache_ticks s) t x) (as_cached x.factor) (worked_by S H (window_in s) (ticks_in s) w t x)

unfoldable pub asked_at : Settings → List ℕ → ℕ → Slot → ℕ → Asked
asked_at s w t x limit = cond (usable_at (cache_ticks s) t x) (as_cached x.factor) (worked_at (factor_in s) (window_in s) (ticks_in s) w t x limit)
