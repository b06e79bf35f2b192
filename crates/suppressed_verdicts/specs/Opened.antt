-- The suppressed limiter's own calls as the code carries them out, on the key's slot x as it is opened. They are the calls of `Calls.antt` (`get-opened`,
-- `factor-opened`, `inc-opened` in `Seen.antt`), and no contract names them.
-- Assumes nothing.
use Rattle.std.specs.Prelude.{Bool, cond, List, [], ◌∷◌, ℕ, Float, Result, Ok}
use Rattle.answers.specs.HistoryMode.{no_snapshot}
use Rattle.common.specs.Limits.{hard_word}
use Rattle.settings.specs.Settings.{window_in, factor_in}
use Rattle.settings.specs.Clock.{join_ticks}
use Rattle.answers.specs.declared.RateLimitDecision.{RateLimitDecision}
use Rattle.answers.specs.declared.RateLimitDecision.TheVariants as decision
use Rattle.answers.specs.declared.SuppressedRateLimitSnapshot.{SuppressedRateLimitSnapshot}
use Rattle.settings.specs.declared.Settings.{Settings}
use Rattle.common.specs.declared.units.RateLimit.{RateLimit}
use Rattle.room.specs.Room.{ring_of}
use Rattle.parties.specs.Parties.{Sent, none_left}
use Rattle.rules.specs.declared.RoomKind.TheVariants as kind
use Rattle.opened.specs.declared.Slot.{Slot}
use Rattle.judge.specs.Verdict.{Verdict, verdict, call}
use Rattle.judge.specs.Judge.{slot_in, looked_in}
use Rattle.change.specs.Words.{applied}
use Rattle.rules.specs.declared.Asked.{Asked}
use Rattle.rules.specs.declared.Outcome.{Outcome}
use Rattle.factor_opened.specs.Opened.{asked_at}
use Rattle.forecast_opened.specs.Forecast.{forecast_at, outcome_at}
use Rattle.suppressed_edits.specs.Edits.{get_change, factor_change, inc_change}
use Rattle.plan.specs.Plan.{place_of, lacks_at}
use Rattle.suppressed_refusals.specs.Refusals.{inc_late}
use Rattle.common.specs.Refusals.{refuse}
use Rattle.common.specs.declared.refusal.Refusal.{Refusal}

-- the factor of the slot as it stands
abbrev pub asking_at : Settings → List ℕ → ℕ → Slot → Asked
asking_at s w t x = asked_at s w t x x.limit

-- ---- get

-- live total, live declined and the factor; zeros for an unknown key
abbrev pub snapshot_at : Slot → Float → SuppressedRateLimitSnapshot
snapshot_at x f =
    cond x.series (record { total = x.pass.live_total; total_declined = x.pass.live_declined; suppression_factor = f }) no_snapshot

abbrev pub get_does : Settings → List ℕ → ℕ → Sent → Slot → Asked → Verdict (Result SuppressedRateLimitSnapshot Refusal)
get_does s w t key x a = verdict (Ok (snapshot_at x a.factor)) (applied w x.at key (join_ticks s) t (get_change x a.caching))

unfoldable pub get_on : Settings → List ℕ → ℕ → Sent → Slot → Asked → Verdict (Result SuppressedRateLimitSnapshot Refusal)
get_on s w t key x a = call refuse kind.Suppressed s w t key [] (get_does s w t key x a)

unfoldable pub get : Settings → List ℕ → ℕ → Sent → Verdict (Result SuppressedRateLimitSnapshot Refusal)
get s w t key = get_on s w t key (slot_in s w t key) (asking_at s w t (slot_in s w t key))

-- ---- get_suppression_factor

-- 11: "a slot is needed and the party already holds its promised number"
abbrev pub factor_own : List ℕ → Sent → Slot → List (ℕ × Bool)
factor_own w key x = (11, lacks_at (none_left w key.caller) x) ∷ []

abbrev pub factor_does : Settings → List ℕ → ℕ → Sent → Slot → Asked → Verdict (Result Float Refusal)
factor_does s w t key x a = verdict (Ok a.factor) (applied w (place_of w x) key (join_ticks s) t (factor_change x a.caching t))

unfoldable pub factor_on : Settings → List ℕ → ℕ → Sent → Slot → Asked → Verdict (Result Float Refusal)
factor_on s w t key x a = call refuse kind.Suppressed s w t key (factor_own w key x) (factor_does s w t key x a)

unfoldable pub get_factor : Settings → List ℕ → ℕ → Sent → Verdict (Result Float Refusal)
get_factor s w t key = factor_on s w t key (looked_in s w t key) (asking_at s w t (looked_in s w t key))

-- ---- inc

-- "Hard = rate * F * W": a series has its own
unfoldable pub limit_at : Settings → Slot → RateLimit → ℕ
limit_at s x rate = cond x.series x.limit (hard_word rate.0 (factor_in s) (window_in s))

-- what an increment decides
abbrev pub inc_outcome : Settings → List ℕ → ℕ → RateLimit → ℕ → ℕ → Slot → Outcome
inc_outcome s w t rate c draw x = outcome_at s w t x (limit_at s x rate) (forecast_at x c) c draw

-- 8 to 12
abbrev pub inc_own : Settings → List ℕ → ℕ → Sent → RateLimit → ℕ → ℕ → Slot → List (ℕ × Bool)
inc_own s w t key rate c draw x = inc_late s x (lacks_at (none_left w key.caller) x) (ring_of w) t rate c draw

abbrev pub inc_does : Settings → List ℕ → ℕ → Sent → RateLimit → ℕ → Slot → Outcome → Verdict RateLimitDecision
inc_does s w t key rate c x o =
    verdict o.decision (applied w (place_of w x) key (join_ticks s) t (inc_change x (limit_at s x rate) c o.declined o.caching))

unfoldable pub inc_on : Settings → List ℕ → ℕ → Sent → RateLimit → ℕ → ℕ → Slot → Outcome → Verdict RateLimitDecision
inc_on s w t key rate c draw x o = call decision.Refused kind.Suppressed s w t key (inc_own s w t key rate c draw x) (inc_does s w t key rate c x o)

unfoldable pub inc : Settings → List ℕ → ℕ → Sent → RateLimit → ℕ → ℕ → Verdict RateLimitDecision
inc s w t key rate c draw = inc_on s w t key rate c draw (looked_in s w t key) (inc_outcome s w t rate c draw (looked_in s w t key))
