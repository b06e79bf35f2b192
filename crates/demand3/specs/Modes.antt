-- Demand 3 in each clock mode: in milliseconds in the mission's words, in nanoseconds in those of document 02, ticket 8. Both are the one ceiling and the one
-- floor of `Demand3.antt`, at 1 and at 1,000,000 ticks to the millisecond.
-- Assumes nothing.
use Rattle.std.specs.Prelude.{◌≡◌, List, ◌∷◌, ℕ, ◌+◌, ◌-◌, ◌*◌, ◌≤◌, ◌<◌}
use Rattle.settings.specs.Settings.{window_in, bucket_in}
use Rattle.settings.specs.Clock.{window_in_milliseconds}
use Rattle.settings.specs.declared.ClockMode.{ClockMode}
use Rattle.settings.specs.declared.Settings.{Settings}
use Rattle.answers.specs.declared.RateLimitDecision.TheVariants.{Allowed}
use Rattle.common.specs.declared.units.RateLimit.{RateLimit}
use Rattle.room.specs.Room.{empty}
use Rattle.parties.specs.Parties.{Sent}
use Rattle.rules.specs.declared.RoomKind.TheVariants.{Suppressed}
use Rattle.suppressed_verdicts.specs.Calls as Calls
use Rattle.admissions.specs.Log.{in_span, aged}
use Rattle.steps.specs.Ops.{draws, Call, words, answer_number}
use Rattle.demand3.specs.History.{admitted, IsKey, hard_of, soft_of, Clause, AllBy}
use Rattle.demand3.specs.Demand3.{increment}

-- ---- in one clock mode, of settings that are as asked: spans and look back as said, in ticks

abbrev pub CeilingIn : ClockMode → (Settings → Type 0) → (Settings → ℕ) → Clause → Type 0
CeilingIn mode Asked span P =
    (s : Settings) (slots ring : ℕ) (key : Sent) (rate : RateLimit) (calls : List (Call Suppressed)) → s.clock_mode ≡ mode → Asked s →
    IsKey key → AllBy P s key rate (empty slots ring) calls → (from : ℕ) → in_span from (from + span s) (admitted s key (empty slots ring) calls) ≤ hard_of s rate

abbrev pub FloorIn : ClockMode → (Settings → Type 0) → (Settings → ℕ) → Clause → Type 0
FloorIn mode Asked back P =
    (s : Settings) (slots ring : ℕ) (key : Sent) (rate : RateLimit) (calls : List (Call Suppressed)) (t : ℕ) (asked : RateLimit) (count draw : ℕ) →
    s.clock_mode ≡ mode → Asked s → IsKey key → AllBy P s key rate (empty slots ring) (increment t key asked count draw ∷ calls) →
    answer_number Suppressed s (words Suppressed s (empty slots ring) calls) t (draws key asked count draw) ≡ 0 →
    count + aged (back s) t (admitted s key (empty slots ring) calls) ≤ soft_of s rate →
    (Calls.inc s (words Suppressed s (empty slots ring) calls) t key asked count draw).answer ≡ Allowed

-- "a bucket no longer than the window"; "with the bucket shorter than the window"
abbrev pub NoLonger : Settings → Type 0
NoLonger s = bucket_in s ≤ window_in_milliseconds (window_in s)

abbrev pub Shorter : Settings → Type 0
Shorter s = bucket_in s < window_in_milliseconds (window_in s)

-- "window less bucket milliseconds", "one window"; "window less bucket less 1 ms", "one window and 1 ms", in nanoseconds
abbrev pub millisecond_span : Settings → ℕ
millisecond_span s = window_in_milliseconds (window_in s) - bucket_in s

abbrev pub millisecond_back : Settings → ℕ
millisecond_back s = window_in_milliseconds (window_in s)

abbrev pub nanosecond_span : Settings → ℕ
nanosecond_span s = 1000000 * (window_in_milliseconds (window_in s) - bucket_in s - 1)

abbrev pub nanosecond_back : Settings → ℕ
nanosecond_back s = 1000000 * (window_in_milliseconds (window_in s) + 1)
