-- Refusal 12 through a gateway (document 02, ticket 4): with a ring that is long enough no shot is told it either, nor any call between, with the table's
-- words any at the beginning.
-- Assumes nothing.
use Rattle.std.specs.Prelude.{List, [], ◌∷◌, ℕ}
use Rattle.answers.specs.Rows.{shot_row, done_row, number_of}
use Rattle.settings.specs.declared.Settings.{Settings}
use Rattle.rules.specs.declared.RoomKind.TheVariants.{Suppressed}
use Rattle.frame.specs.Keys.{Bytes}
use Rattle.gateway.specs.Gateway.{is_held, gate_turns, limiter_turns, unless_held, shot_turns, passed, unless_refused, new_season}
use Rattle.gateway.specs.Gateway as Gateway
use Rattle.steps.specs.Ops.{Keyed, answer_number}
use Rattle.through.specs.Events.{Event, shot, call, season, Lent}

-- what an event is told: the refusal's number, or 0
abbrev pub number_in : Settings → Lent → Event → ℕ
number_in s x (shot t key number rate draw) = number_of (shot_row (Gateway.shot s x.table x.room t key number rate draw).answer)
number_in s x (call c) = answer_number Suppressed s x.room c.reading c.op
number_in s x season = number_of (done_row (new_season x.table).answer)

-- a key that may enter the room is one of bytes
abbrev pub KeyedIn : Event → Type 0
KeyedIn (shot t key number rate draw) = Bytes key.bytes
KeyedIn (call c) = Keyed c.op
KeyedIn season = Unit {0}

abbrev pub EachKeyed : List Event → Type 0
EachKeyed [] = Unit {0}
EachKeyed (e ∷ es) = KeyedIn e × EachKeyed es
