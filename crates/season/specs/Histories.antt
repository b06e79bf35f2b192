-- Short seasons, of the gateway and of wrong ones, and what each answers, computed by the calls themselves: window 10 s, bucket 100 ms, factor 1
-- and 1 per second, so that H = 10, on a room of one slot, promised to party 1, and a ring of one. Newest first.
-- Assumes nothing.
use Rattle.std.specs.Prelude.{◌≡◌, false, List, [], ◌∷◌, ℕ, Ok}
use Rattle.answers.specs.declared.RateLimitDecision.TheVariants as decision
use Rattle.common.specs.Ranges as Ranges
use Rattle.settings.specs.Settings as Settings
use Rattle.common.specs.declared.units.RateLimit.{RateLimit}
use Rattle.room.specs.Room as Room
use Rattle.parties.specs.Parties.{sent}
use Rattle.parties.specs.declared.Caller.{Caller}
use Rattle.suppressed_verdicts.specs.Calls as Calls
use Rattle.gateway.specs.Gateway as Gate
use Rattle.table.specs.Table.{known_of, empty_table}
use Rattle.steps.specs.Ops.{cleanup}
use Rattle.season.specs.Log.{times, highest}
use Rattle.season.specs.Season.{Shot, Event, shoots, calls, table_after, told, log_of, limiter}
use Rattle.season.specs.Own.{own}
use Rattle.season.specs.Gateways.{eager, forgetful, at_most, lax, alone}
use Rattle.common.specs.Refusals.{refuse}
use Rattle.answers.specs.declared.ShotOutcome.TheVariants.{Held, Decided}

abbrev pub rate : RateLimit
rate = record { 0 = Ranges.one }

abbrev pub caller : Caller
caller = record { party = 1; first = 1; second = 0 }

-- nothing counted; and 10 counted for the same key
abbrev pub idle : List ℕ
idle = Room.empty 1 1

abbrev pub busy : List ℕ
busy = (Calls.inc Settings.ten_seconds idle 0 (sent caller []) rate 10 0).words

abbrev pub shot_of : List ℕ → ℕ → List ℕ → Shot
shot_of key n room =
    record { settings = Settings.ten_seconds; room = room; reading = 0; caller = caller; controller = key; number = n; rate = rate; draw = 0 }

-- shot n of one controller, as the limiter lets through, and as it turns away
abbrev pub goes : ℕ → Shot
goes n = shot_of [] n idle

abbrev pub stays : ℕ → Shot
stays n = shot_of [] n busy

-- the same controller's, sent by party 2, to which the slot is promised then
abbrev pub goes_by_other : ℕ → Shot
goes_by_other n = record {
  settings = Settings.ten_seconds;
  room = idle;
  reading = 0;
  caller = record { party = 2; first = 0; second = 1 };
  controller = [];
  number = n;
  rate = rate;
  draw = 0;
}

-- a cleanup with stale time 0
abbrev pub cleans : Event
cleans = calls (record { settings = Settings.ten_seconds; room = idle; reading = 0; op = cleanup caller 0 })

-- ---- the seasons

abbrev pub one : List Event
one = shoots (goes 1) ∷ []

abbrev pub one_away : List Event
one_away = shoots (stays 1) ∷ []

abbrev pub two : List Event
two = shoots (goes 2) ∷ []

abbrev pub one_two : List Event
one_two = shoots (goes 2) ∷ one

abbrev pub one_one : List Event
one_one = shoots (goes 1) ∷ one

abbrev pub one_cleaned_one : List Event
one_cleaned_one = shoots (goes 1) ∷ cleans ∷ one

abbrev pub two_one_two : List Event
two_one_two = shoots (goes 2) ∷ shoots (goes 1) ∷ two

-- ---- what is answered, and how often a pair is in the log

pub record Computed : Type 0 where
  -- the limiter: whatever the number, and of any controller of one byte
  pub allows : (n : ℕ) → (limiter (goes n)).answer ≡ decision.Allowed
  pub allows-any : (k n : ℕ) → (limiter (shot_of (k ∷ []) n idle)).answer ≡ decision.Allowed
  pub declines : (n : ℕ) → (limiter (stays n)).answer ≡ decision.Suppressed Ranges.one false
  -- the gateway: a number lost, one again, from the other party too, an older one again, one sent again, one in the next season, and the ends of the numbers
  pub lost : (told own two (goes 1)).answer ≡ refuse 20
  pub lost-times : times [] 1 (log_of own two) ≡ 0
  pub again : (told own one (goes 1)).answer ≡ Ok Held
  pub again-by-other : (told own one (goes_by_other 1)).answer ≡ Ok Held
  pub next-by-other : (told own one (goes_by_other 2)).answer ≡ Ok (Decided decision.Allowed)
  pub again-highest : highest [] (log_of own one) ≡ 1
  pub older : (told own one_two (goes 1)).answer ≡ refuse 20
  pub older-times : times [] 1 (log_of own one_two) ≡ 1
  pub sent-again : (told own one_away (goes 1)).answer ≡ Ok (Decided decision.Allowed)
  pub next-season : (own.shot (Gate.new_season (table_after own one)).words (goes 1)).answer ≡ Ok (Decided decision.Allowed)
  pub none-refused : (told own [] (goes 0)).answer ≡ refuse 19
  pub most-taken : (told own [] (goes 4294967295)).answer ≡ Ok (Decided decision.Allowed)
  pub over-refused : (told own [] (goes 4294967296)).answer ≡ refuse 19
  -- wrong ones
  pub eager-holds : (told eager one_away (goes 1)).answer ≡ Ok Held
  pub eager-log : log_of eager one_away ≡ []
  pub eager-declines : (eager.shot empty_table (stays 1)).answer ≡ Ok (Decided (decision.Suppressed Ranges.one false))
  pub eager-knows : known_of (eager.shot empty_table (stays 1)).table ≡ 1
  pub at-most-holds : (told at_most two (goes 1)).answer ≡ Ok Held
  pub at-most-times : times [] 1 (log_of at_most two) ≡ 0
  pub forgetful-times : times [] 1 (log_of forgetful one_cleaned_one) ≡ 2
  pub lax-times : times [] 2 (log_of lax two_one_two) ≡ 2
  pub alone-times : times [] 1 (log_of alone one_one) ≡ 2
