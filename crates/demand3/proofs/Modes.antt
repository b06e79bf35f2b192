-- Demand 3 in each clock mode: in milliseconds in the mission's words, in nanoseconds in those of document 02, ticket 8. Both are the one ceiling and the one
-- floor of `Demand3.antt`, at 1 and at 1,000,000 ticks to the millisecond.
-- Assumes nothing.
use Rattle.std.specs.Prelude.{◌≡◌, ℕ, ◌+◌, ◌-◌, ◌*◌, ◌≤◌}
use Rattle.std.proofs.Common.{ap, arith}
use Rattle.settings.specs.Settings.{window_in, bucket_in}
use Rattle.settings.specs.Clock.{ticks_of, window_in_milliseconds, window_ticks, look_ticks, join_ticks}
use Rattle.settings.specs.declared.ClockMode.{ClockMode}
use Rattle.settings.specs.declared.ClockMode.TheVariants.{Milliseconds, Nanoseconds}
use Rattle.settings.specs.declared.Settings.{Settings}
use Rattle.room.specs.Room.{empty}
use Rattle.admissions.proofs.Log.{span-mono, aged-mono}
use Rattle.demand3.specs.History.{admitted, LeavesAlone}
use Rattle.demand3.specs.Demand3.{less_bucket, look_back}
use Rattle.demand3.proofs.MissionPromises.{mission-ceiling, mission-floor}
use Rattle.demand3.specs.Modes.{CeilingIn, FloorIn, NoLonger, Shorter, millisecond_span, millisecond_back, nanosecond_span, nanosecond_back}

-- ---- the lengths in ticks, by the mode

module _ (s : Settings) (mode : ClockMode) (e : s.clock_mode ≡ mode) where
  window-is : window_ticks s ≡ ticks_of mode * window_in_milliseconds (window_in s)
  window-is = ap (λ (c : ClockMode). ticks_of c * window_in_milliseconds (window_in s)) e

  join_is : join_ticks s ≡ ticks_of mode * bucket_in s + (ticks_of mode - 1)
  join_is = ap (λ (c : ClockMode). ticks_of c * bucket_in s + (ticks_of c - 1)) e

  look_is : look_ticks s ≡ ticks_of mode * window_in_milliseconds (window_in s) + (ticks_of mode - 1)
  look_is = ap (λ (c : ClockMode). ticks_of c * window_in_milliseconds (window_in s) + (ticks_of c - 1)) e

-- a span that is no longer, and a look back that is no shorter, than those of `Demand3.antt`
module _ (mode : ClockMode) (Asked : Settings → Type 0) (fits : (s : Settings) → s.clock_mode ≡ mode → Asked s → join_ticks s ≤ window_ticks s) where
  ceiling-in : (span : Settings → ℕ) → ((s : Settings) → s.clock_mode ≡ mode → Asked s → span s ≤ less_bucket s) → CeilingIn mode Asked span LeavesAlone
  ceiling-in span less s slots ring key rate calls e h is p from =
      let log = admitted s key (empty slots ring) calls in
      let c = mission-ceiling s slots ring key rate calls is (fits s e h) p from in
      let l = less s e h in
      omega (arith, c, span-mono from (from + span s) (from + less_bucket s) log (omega arith))

  floor-in : (back : Settings → ℕ) → ((s : Settings) → s.clock_mode ≡ mode → look_back s ≤ back s) → FloorIn mode Asked back LeavesAlone
  floor-in back more s slots ring key rate calls t asked count draw e h is p n l =
      mission-floor s slots ring key rate calls t asked count draw is (fits s e h) p n
      (omega (arith, l, aged-mono (look_back s) (back s) t (admitted s key (empty slots ring) calls) (more s e)))

-- ---- milliseconds

millisecond-fits : (s : Settings) → s.clock_mode ≡ Milliseconds → NoLonger s → join_ticks s ≤ window_ticks s
millisecond-fits s e h = omega (arith, window-is s Milliseconds e, join_is s Milliseconds e)

pub millisecond-ceiling : CeilingIn Milliseconds NoLonger millisecond_span LeavesAlone
millisecond-ceiling =
    ceiling-in Milliseconds NoLonger millisecond-fits millisecond_span
    (λ s e h. omega (arith, window-is s Milliseconds e, join_is s Milliseconds e))

pub millisecond-floor : FloorIn Milliseconds NoLonger millisecond_back LeavesAlone
millisecond-floor = floor-in Milliseconds NoLonger millisecond-fits millisecond_back (λ s e. omega (arith, look_is s Milliseconds e))

-- ---- nanoseconds

nanosecond-fits : (s : Settings) → s.clock_mode ≡ Nanoseconds → Shorter s → join_ticks s ≤ window_ticks s
nanosecond-fits s e h = omega (arith, window-is s Nanoseconds e, join_is s Nanoseconds e)

pub nanosecond-ceiling : CeilingIn Nanoseconds Shorter nanosecond_span LeavesAlone
nanosecond-ceiling =
    ceiling-in Nanoseconds Shorter nanosecond-fits nanosecond_span
    (λ s e h. omega (arith, window-is s Nanoseconds e, join_is s Nanoseconds e))

pub nanosecond-floor : FloorIn Nanoseconds Shorter nanosecond_back LeavesAlone
nanosecond-floor = floor-in Nanoseconds Shorter nanosecond-fits nanosecond_back (λ s e. omega (arith, look_is s Nanoseconds e))
