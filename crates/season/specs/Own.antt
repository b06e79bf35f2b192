-- The gateway itself keeps the season's promises: its table tells at every moment what the log does, so that its answers are by the log.
-- Assumes nothing.
use Rattle.std.specs.Prelude.{◌≡◌, Bool, List, ℕ}
use Rattle.std.proofs.Math.Bool.{cond}
use Rattle.common.specs.Refusals.{first}
use Rattle.answers.specs.declared.RateLimitDecision.{RateLimitDecision}
use Rattle.rules.specs.declared.RoomKind.TheVariants as kind
use Rattle.rules.specs.Held.{Held}
use Rattle.rules.specs.Suppressed as Rules
use Rattle.rules.specs.Suppressed.{admits, inc_turns}
use Rattle.room.specs.Room.{ring_of}
use Rattle.frame.specs.Keys.{Bytes}
use Rattle.parties.specs.Parties.{none_left}
use Rattle.judge.specs.Held.{held_in}
use Rattle.judge.specs.Judge.{refusals}
use Rattle.table.specs.Table.{known_of, is_known, last_number, remembered}
use Rattle.gateway.specs.Gateway as Gate
use Rattle.gateway.specs.Gateway.{Verdict, is_held, gate_turns, unless_refused, as_shot, admits_shot}
use Rattle.season.specs.Log.{Pair, highest, named, controllers}
use Rattle.season.specs.Table.{Sound}
use Rattle.season.specs.Season.{Shot, Gateway, key_in}
use Rattle.season.specs.Season.{judged_by}

-- what the contract of a shot names; calls on the room have no table to write to
abbrev pub own : Gateway
own = record {
  shot = λ w c. Gate.shot c.settings w c.room c.reading (key_in c) c.number c.rate c.draw;
  between = λ w o. w;
}

-- ---- the limiter's refusals are a shot's

-- what the limiter finds for a shot, its refusal or 0, and its decision where that is 0
abbrev holding : Shot → Held
holding c = held_in c.room (key_in c)

abbrev pub turned : Shot → ℕ
turned c =
    first (refusals kind.Suppressed c.settings c.room c.reading (key_in c)
    (inc_turns c.settings (ring_of c.room) (none_left c.room c.caller) c.reading c.rate 1 c.draw (holding c)))

abbrev limit_of : Shot → ℕ
limit_of c = Rules.limit_for c.settings c.rate (holding c)

abbrev pub decision_of : Shot → RateLimitDecision
decision_of c = (Rules.outcome c.settings c.reading (limit_of c) 1 c.draw (holding c)).decision

-- ---- a shot on a sound table, by four tests of it

pub record Judges (a b f d : Bool) (w : List ℕ) (c : Shot) (v : Verdict) : Type 0 where
  pub answer : v.answer ≡ (judged_by a b f d c).0
  pub room : v.room ≡ (judged_by a b f d c).1
  pub table : v.table ≡ cond (admits_shot (judged_by a b f d c).0) (remembered w c.controller c.number) w

-- ---- the table tells what the log does

pub record Agrees (w : List ℕ) (log : List Pair) : Type 0 where
  pub sound : Sound w
  pub known : (k : List ℕ) → Bytes k → is_known w k ≡ named k log
  pub last : (k : List ℕ) → Bytes k → last_number w k ≡ highest k log
  pub count : known_of w ≡ controllers log
