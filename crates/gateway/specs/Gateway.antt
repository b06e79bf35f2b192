-- A gateway that knows a shot by its number (document 02, ticket 12): what it answers, and what it leaves in table and room, for every input. s are the
-- settings, w the table's words, r the room's, t the reading, key the controller's as a party sends it: the table knows its bytes alone.
-- Assumes nothing.
use Rattle.std.specs.Prelude.{◌≡◌, Bool, true, false, cond, not, ◌&&◌, List, [], ◌∷◌, ◌++◌, ℕ, ltb, eqb, Result, Ok, Err}
use Rattle.common.specs.Refusals.{first, refuse}
use Rattle.common.specs.declared.units.RateLimit.{RateLimit}
use Rattle.settings.specs.Settings.{faults}
use Rattle.settings.specs.declared.Settings.{Settings}
use Rattle.answers.specs.declared.RateLimitDecision.{RateLimitDecision}
use Rattle.answers.specs.declared.RateLimitDecision.TheVariants as decision
use Rattle.rules.specs.declared.RoomKind.TheVariants.{Suppressed}
use Rattle.rules.specs.Suppressed.{admits, inc_turns}
use Rattle.room.specs.Room.{ring_of}
use Rattle.parties.specs.Parties.{Sent, none_left}
use Rattle.judge.specs.Held.{held_in}
use Rattle.judge.specs.Judge.{misfits}
use Rattle.judge.specs.Verdict as Room
use Rattle.suppressed_verdicts.specs.Calls.{inc}
use Rattle.table.specs.Table.{most_controllers, known_of, numbered, is_table, empty_table, is_known, sound_for, last_number, remembered}
use Rattle.common.specs.declared.refusal.Refusal.{Refusal}
use Rattle.answers.specs.declared.ShotOutcome.{ShotOutcome}
use Rattle.answers.specs.declared.ShotOutcome.TheVariants.{Held, Decided}

-- ---- a shot's refusals, in the order of judging

-- "The same number again"
unfoldable pub is_held : List ℕ → List ℕ → ℕ → Bool
is_held w key number = sound_for w key && (is_known w key && eqb number (last_number w key))

-- 19: "number 0 or over 2^32 - 1"; 20: "a number below the last admitted"; 21: "a controller not in the table when it has 64". An unsound table has none.
unfoldable pub gate_turns : List ℕ → List ℕ → ℕ → List (ℕ × Bool)
gate_turns w key number =
    (19, not (numbered number)) ∷
    (20, sound_for w key && ltb number (last_number w key)) ∷
    (21, sound_for w key && (not (is_known w key) && eqb (known_of w) most_controllers)) ∷ []

-- then the limiter's for a count of 1, with the table's 5 beside the room's
abbrev pub limiter_turns : Settings → List ℕ → List ℕ → ℕ → Sent → RateLimit → ℕ → List (ℕ × Bool)
limiter_turns s w r t key rate draw =
    faults s ++
    ((5, not (sound_for w key.bytes)) ∷ (misfits Suppressed s r t key ++ inc_turns s (ring_of r) (none_left r key.caller) t rate 1 draw (held_in r key)))

-- which is not asked for a shot that is held
abbrev pub unless_held : Bool → List (ℕ × Bool) → List (ℕ × Bool)
unless_held true turns = []
unless_held false turns = turns

abbrev pub shot_turns : Settings → List ℕ → List ℕ → ℕ → Sent → ℕ → RateLimit → ℕ → List (ℕ × Bool)
shot_turns s w r t key number rate draw =
    gate_turns w key.bytes number ++ unless_held (is_held w key.bytes number) (limiter_turns s w r t key rate draw)

-- ---- a shot

-- the limiter's answer as a shot's
abbrev pub as_shot : RateLimitDecision → Result ShotOutcome Refusal
as_shot decision.Allowed = Ok (Decided decision.Allowed)
as_shot (decision.Rejected window wait rest) = Ok (Decided (decision.Rejected window wait rest))
as_shot (decision.Suppressed f is) = Ok (Decided (decision.Suppressed f is))
as_shot (decision.Refused n) = refuse n

-- whether an answer admits the shot
abbrev pub admits_shot : Result ShotOutcome Refusal → Bool
admits_shot (Ok Held) = false
admits_shot (Ok (Decided d)) = admits d
admits_shot (Err n) = false

-- an answer, and the words of table and room
pub record Verdict : Type 0 where
  pub answer : Result ShotOutcome Refusal
  pub table : List ℕ
  pub room : List ℕ

-- "is answered `held` and changes nothing"; "goes to the suppressed limiter and is remembered only if admitted"
abbrev pub passed : Bool → Settings → List ℕ → List ℕ → ℕ → Sent → ℕ → RateLimit → ℕ → Verdict
passed true s w r t key number rate draw = record { answer = Ok Held; table = w; room = r }
passed false s w r t key number rate draw =
    let v = inc s r t key rate 1 draw in
    record { answer = Ok (Decided v.answer); table = cond (admits v.answer) (remembered w key.bytes number) w; room = v.words }

-- refused with n, unless n is 0
unfoldable pub unless_refused : ℕ → List ℕ → List ℕ → Verdict → Verdict
unless_refused n w r v =
    record { answer = cond (eqb n 0) v.answer (refuse n); table = cond (eqb n 0) v.table w; room = cond (eqb n 0) v.room r }

unfoldable pub shot : Settings → List ℕ → List ℕ → ℕ → Sent → ℕ → RateLimit → ℕ → Verdict
shot s w r t key number rate draw =
    unless_refused (first (shot_turns s w r t key number rate draw)) w r (passed (is_held w key.bytes number) s w r t key number rate draw)

-- the answer and the words after are the verdict's
pub record Told (v : Verdict) (a : Result ShotOutcome Refusal) (w r : List ℕ) : Type 0 where
  pub answer : a ≡ v.answer
  pub table : w ≡ v.table
  pub room : r ≡ v.room

-- ---- "Only a new season empties the table"

abbrev pub season_turns : List ℕ → List (ℕ × Bool)
season_turns w = (5, not (is_table w)) ∷ []

unfoldable pub new_season : List ℕ → Room.Verdict (Result (Unit {0}) Refusal)
new_season w = Room.unless_refused refuse (first (season_turns w)) w (Room.verdict (Ok tt) empty_table)
