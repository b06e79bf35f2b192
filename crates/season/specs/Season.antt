-- A season: shots of any controllers, by callers of either party, with any settings and any words in the room before each, and any of the limiter's own calls
-- between them. What a gateway promises over it, said of any gateway; the log of what it admitted is made from the answers that it gave. A controller is known
-- by its bytes alone, whichever party sends its shots.
-- Assumes nothing.
use Rattle.std.specs.Prelude.{◌≡◌, Bool, true, false, cond, not, ◌&&◌, List, [], ◌∷◌, ℕ, ◌≤◌, ◌<◌, ltb, eqb, Result, Ok}
use Rattle.common.specs.declared.units.RateLimit.{RateLimit}
use Rattle.settings.specs.declared.Settings.{Settings}
use Rattle.answers.specs.declared.RateLimitDecision.{RateLimitDecision}
use Rattle.rules.specs.declared.RoomKind.TheVariants.{Suppressed}
use Rattle.frame.specs.Keys.{Bytes}
use Rattle.parties.specs.declared.Caller.{Caller}
use Rattle.parties.specs.Parties.{Sent, sent}
use Rattle.judge.specs.Verdict as Room
use Rattle.suppressed_verdicts.specs.Calls.{inc}
use Rattle.table.specs.Table.{most_controllers, empty_table, numbered}
use Rattle.gateway.specs.Gateway.{as_shot, admits_shot, Verdict}
use Rattle.steps.specs.Ops.{Op}
use Rattle.season.specs.Log.{Pair, times, highest, named, controllers}
use Rattle.common.specs.Refusals.{refuse}
use Rattle.common.specs.declared.refusal.Refusal.{Refusal}
use Rattle.answers.specs.declared.ShotOutcome.{ShotOutcome}
use Rattle.answers.specs.declared.ShotOutcome.TheVariants.{Held}

-- ---- what happens in a season

pub record Shot : Type 0 where
  pub settings : Settings
  pub room : List ℕ
  pub reading : ℕ
  pub caller : Caller
  pub controller : List ℕ
  pub number : ℕ
  pub rate : RateLimit
  pub draw : ℕ

-- a call of the limiter's own on any room: an increment of other keys or of these, a set, a cleanup, a clear
pub record Other : Type 0 where
  pub settings : Settings
  pub room : List ℕ
  pub reading : ℕ
  pub op : Op Suppressed

pub data Event : Type 0 where
  shoots : Shot → Event
  calls : Other → Event

-- newest first. A controller is one of bytes, of any number
abbrev pub AllBytes : List Event → Type 0
AllBytes [] = Unit {0}
AllBytes (shoots c ∷ events) = Bytes c.controller × AllBytes events
AllBytes (calls o ∷ events) = AllBytes events

-- ---- a gateway: what a shot answers and leaves, by the table's words; and what another call leaves of them

pub record Gateway : Type 0 where
  pub shot : List ℕ → Shot → Verdict
  pub between : List ℕ → Other → List ℕ

-- the controller as the limiter knows it
abbrev pub key_in : Shot → Sent
key_in c = sent c.caller c.controller

-- what the limiter makes of a shot
abbrev pub limiter : Shot → Room.Verdict RateLimitDecision
limiter c = inc c.settings c.room c.reading (key_in c) c.rate 1 c.draw

-- its table after a season's events
abbrev pub table_after : Gateway → List Event → List ℕ
table_after g [] = empty_table
table_after g (shoots c ∷ events) = (g.shot (table_after g events) c).table
table_after g (calls o ∷ events) = g.between (table_after g events) o

-- what it answers next
abbrev pub told : Gateway → List Event → Shot → Verdict
told g events c = g.shot (table_after g events) c

abbrev pub pair_of : Shot → Pair
pair_of c = record { controller = c.controller; number = c.number }

abbrev pub noted : Bool → Shot → List Pair → List Pair
noted is c log = cond is (pair_of c ∷ log) log

abbrev pub log_of : Gateway → List Event → List Pair
log_of g [] = []
log_of g (shoots c ∷ events) = noted (admits_shot (told g events c).answer) c (log_of g events)
log_of g (calls o ∷ events) = log_of g events

-- ---- the promises

-- "no pair of controller and number is admitted twice"
abbrev pub NeverTwice : Gateway → Type 0
NeverTwice g = (events : List Event) → AllBytes events → (key : List ℕ) (n : ℕ) → times key n (log_of g events) ≤ 1

-- "a shot that is `held` was admitted before"
abbrev pub HeldWasAdmitted : Gateway → Type 0
HeldWasAdmitted g =
    (events : List Event) (c : Shot) → AllBytes (shoots c ∷ events) → (told g events c).answer ≡ Ok Held → 1 ≤ times c.controller c.number (log_of g events)

-- "a controller not in the table when it has 64", by the log
abbrev pub full : ℕ → List Pair → Shot → Bool
full most log c = not (named c.controller log) && eqb (controllers log) most

-- the limiter is asked, and answers; or it is 21, and the room stays
pub record Asks (away : Bool) (c : Shot) (v : Verdict) : Type 0 where
  pub answer : v.answer ≡ cond away (refuse 21) (as_shot (limiter c).answer)
  pub room : v.room ≡ cond away c.room (limiter c).words

-- a shot for which the log is P is asked of the limiter, unless it is the first of a controller too many
abbrev pub AskedWhere : (List Pair → Shot → Type 0) → ℕ → Gateway → Type 0
AskedWhere P most g =
    (events : List Event) (c : Shot) → AllBytes (shoots c ∷ events) → numbered c.number ≡ true → P (log_of g events) c →
    Asks (full most (log_of g events) c) c (told g events c)

-- neither it nor a higher one of its controller is admitted
abbrev pub StillAhead : List Pair → Shot → Type 0
StillAhead log c = highest c.controller log < c.number

-- "a shot turned away may be sent again under its number until a later one is admitted"
abbrev pub MayBeSentAgain : Gateway → Type 0
MayBeSentAgain g = AskedWhere StillAhead most_controllers g

-- "remembered only if admitted": whatever the words
abbrev pub LeavesTable : Gateway → Type 0
LeavesTable g = (w : List ℕ) (c : Shot) → admits_shot (g.shot w c).answer ≡ false → (g.shot w c).table ≡ w

pub record Season (g : Gateway) : Type 0 where
  pub never-twice : NeverTwice g
  pub held-was-admitted : HeldWasAdmitted g
  pub may-be-sent-again : MayBeSentAgain g
  pub leaves_table : LeavesTable g

-- ---- all of it at once: which answer a shot has, and what the room has then, by the log alone

-- whether its number is none, whether it is below the last, whether the table is full for it, whether it is the same
abbrev pub judged_by : Bool → Bool → Bool → Bool → Shot → Result ShotOutcome Refusal × List ℕ
judged_by true below away same c = (refuse 19, c.room)
judged_by false true away same c = (refuse 20, c.room)
judged_by false false true same c = (refuse 21, c.room)
judged_by false false false true c = ((Ok Held), c.room)
judged_by false false false false c = (as_shot (limiter c).answer, (limiter c).words)

abbrev pub by_log : List Pair → Shot → Result ShotOutcome Refusal × List ℕ
by_log log c =
    let last = highest c.controller log in
    judged_by (not (numbered c.number)) (ltb c.number last) (full most_controllers log c) (eqb c.number last) c

pub record Judged (j : Result ShotOutcome Refusal × List ℕ) (v : Verdict) : Type 0 where
  pub answer : v.answer ≡ j.0
  pub room : v.room ≡ j.1

abbrev pub ByLog : Gateway → Type 0
ByLog g = (events : List Event) (c : Shot) → AllBytes (shoots c ∷ events) → Judged (by_log (log_of g events) c) (told g events c)
