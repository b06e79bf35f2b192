-- Document 01's demand 3 of the suppressed limiter: the ceiling and the floor. The calls are the verdicts that the code's contracts name (`words` of the
-- steps, `admitted` of History.antt), and what is admitted is counted from the answers given. Any other calls of either party on any keys, with any
-- promises, may stand in the history, refused or not; a clause says what is asked of each (`Spares`, and the mission's own wording, `LeavesAlone`). That
-- readings never fall need not be asked: a call whose reading does is refused.
-- Assumes nothing.
use Rattle.std.specs.Prelude.{◌≡◌, List, ◌∷◌, ℕ, ◌+◌, ◌-◌, ◌≤◌}
use Rattle.settings.specs.Clock.{window_ticks, look_ticks, join_ticks}
use Rattle.answers.specs.declared.RateLimitDecision.TheVariants.{Allowed}
use Rattle.settings.specs.declared.Settings.{Settings}
use Rattle.common.specs.declared.units.RateLimit.{RateLimit}
use Rattle.room.specs.Room.{empty}
use Rattle.parties.specs.Parties.{Sent}
use Rattle.rules.specs.declared.RoomKind.TheVariants.{Suppressed}
use Rattle.suppressed_verdicts.specs.Calls as Calls
use Rattle.admissions.specs.Log.{in_span, aged}
use Rattle.steps.specs.Ops.{draws, Call, words, answer_number}
use Rattle.demand3.specs.History.{admitted, IsKey, Clause, AllBy}

-- "window less bucket milliseconds", and "one window", in ticks: where a millisecond has one, exactly these (`Modes.antt`); where it has more, the span is
-- less than a millisecond shorter, and the look back less than one longer
abbrev pub less_bucket : Settings → ℕ
less_bucket s = window_ticks s - join_ticks s

abbrev pub look_back : Settings → ℕ
look_back s = look_ticks s

-- ---- the ceiling

-- From an empty room, with settings whose bucket is at most the window (shorter, where a millisecond has more than one tick), and calls that are each by the
-- clause: in any span of this many ticks, both ends included, the counts that the key was admitted come to at most the limit
abbrev pub Ceiling : (Settings → ℕ) → (Settings → RateLimit → ℕ) → Clause → Type 0
Ceiling span limit P =
    (s : Settings) (slots ring : ℕ) (key : Sent) (rate : RateLimit) (calls : List (Call Suppressed)) →
    IsKey key → join_ticks s ≤ window_ticks s → AllBy P s key rate (empty slots ring) calls →
    (from : ℕ) → in_span from (from + span s) (admitted s key (empty slots ring) calls) ≤ limit s rate

-- ---- the floor

-- the increment that is asked about, as the newest of the calls
abbrev pub increment : ℕ → Sent → RateLimit → ℕ → ℕ → Call Suppressed
increment t key rate count draw = record { reading = t; op = draws key rate count draw }

-- An increment that is not refused and that with all admitted at ages up to this many ticks comes to at most the limit is Allowed. It is by the
-- clause too: in the mission's words at the key's rate
abbrev pub Floor : (Settings → ℕ) → (Settings → RateLimit → ℕ) → Clause → Type 0
Floor back limit P =
    (s : Settings) (slots ring : ℕ) (key : Sent) (rate : RateLimit) (calls : List (Call Suppressed)) (t : ℕ) (asked : RateLimit) (count draw : ℕ) →
    IsKey key → join_ticks s ≤ window_ticks s → AllBy P s key rate (empty slots ring) (increment t key asked count draw ∷ calls) →
    answer_number Suppressed s (words Suppressed s (empty slots ring) calls) t (draws key asked count draw) ≡ 0 →
    count + aged (back s) t (admitted s key (empty slots ring) calls) ≤ limit s rate →
    (Calls.inc s (words Suppressed s (empty slots ring) calls) t key asked count draw).answer ≡ Allowed
