-- Demand 3 through a gateway: ceiling and floor of a controller's shots, with the table's words any at the beginning, and any calls, shots of any
-- controllers of either party and new seasons between.
-- Assumes nothing.
use Rattle.std.specs.Prelude.{◌≡◌, List, [], ◌∷◌, ◌≢◌, ℕ, ◌+◌, ◌≤◌, Ok}
use Rattle.answers.specs.Rows.{shot_row, number_of}
use Rattle.answers.specs.declared.RateLimitDecision.TheVariants.{Allowed}
use Rattle.common.specs.declared.units.RateLimit.{RateLimit}
use Rattle.settings.specs.Clock.{window_ticks, join_ticks}
use Rattle.settings.specs.declared.Settings.{Settings}
use Rattle.room.specs.Room.{empty}
use Rattle.parties.specs.Parties.{Sent}
use Rattle.gateway.specs.Gateway as Gateway
use Rattle.gateway.specs.Gateway.{as_shot}
use Rattle.admissions.specs.Log.{in_span, aged}
use Rattle.steps.specs.Ops.{draws}
use Rattle.demand3.specs.History.{IsKey, Clause}
use Rattle.through.specs.Events.{Event, shot, call, season, Lent, lent, left, admitted_in}
use Rattle.answers.specs.declared.ShotOutcome.TheVariants.{Held, Decided}

-- ---- what is asked of the events: a shot is an increment by 1

abbrev pub By : Clause → Settings → Sent → RateLimit → Lent → Event → Type 0
By P s key rate x (shot t k number r draw) = P s key rate x.room t (draws k r 1 draw)
By P s key rate x (call c) = P s key rate x.room c.reading c.op
By P s key rate x season = Unit {0}

abbrev pub EachBy : Clause → Settings → Sent → RateLimit → Lent → List Event → Type 0
EachBy P s key rate x [] = Unit {0}
EachBy P s key rate x (e ∷ es) = By P s key rate (left s x es) e × EachBy P s key rate x es

-- ---- the ceiling

abbrev pub CeilingThrough : (Settings → ℕ) → (Settings → RateLimit → ℕ) → Clause → Type 0
CeilingThrough span limit P =
    (s : Settings) (slots ring : ℕ) (table : List ℕ) (key : Sent) (rate : RateLimit) (events : List Event) →
    IsKey key → join_ticks s ≤ window_ticks s → EachBy P s key rate (lent table (empty slots ring)) events →
    (from : ℕ) → in_span from (from + span s) (admitted_in s key (lent table (empty slots ring)) events) ≤ limit s rate

-- ---- the floor: a shot that is not refused, not held, and that with all admitted at ages up to one window comes to at most the soft limit, is Allowed

abbrev pub FloorThrough : (Settings → ℕ) → (Settings → RateLimit → ℕ) → Clause → Type 0
FloorThrough back limit P =
    (s : Settings) (slots ring : ℕ) (table : List ℕ) (key : Sent) (rate : RateLimit) (events : List Event) (t number : ℕ) (given : RateLimit) (draw : ℕ) →
    IsKey key → join_ticks s ≤ window_ticks s →
    let x = lent table (empty slots ring) in
    let y = left s x events in
    let answer = (Gateway.shot s y.table y.room t key number given draw).answer in
    EachBy P s key rate x (shot t key number given draw ∷ events) → number_of (shot_row answer) ≡ 0 → answer ≢ Ok Held →
    1 + aged (back s) t (admitted_in s key x events) ≤ limit s rate → answer ≡ Ok (Decided Allowed)
