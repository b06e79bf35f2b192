-- A run of code is a season: shots that were made one after the other, each with an answer, a table and a room on exit that its contract allows on the table
-- it found, have answered what the season's shots answer. So what is promised of seasons is promised of programs; the log is made from what came back.
-- Assumes nothing.
use Rattle.std.specs.Prelude.{◌≡◌, List, [], ◌∷◌, ℕ, Result}
use Rattle.table.specs.Table.{empty_table}
use Rattle.gateway.specs.Gateway.{Told, admits_shot}
use Rattle.season.specs.Log.{Pair}
use Rattle.season.specs.Season.{Shot, Event, shoots, table_after, noted, log_of}
use Rattle.season.specs.Own.{own}
use Rattle.common.specs.declared.refusal.Refusal.{Refusal}
use Rattle.answers.specs.declared.ShotOutcome.{ShotOutcome}

-- a shot that was made, and what came back
pub record Made : Type 0 where
  pub shot : Shot
  pub answer : Result ShotOutcome Refusal
  pub table : List ℕ
  pub room : List ℕ

-- newest first
abbrev pub events_of : List Made → List Event
events_of [] = []
events_of (m ∷ ms) = shoots m.shot ∷ events_of ms

-- the log of the answers that came back
abbrev pub logged_of : List Made → List Pair
logged_of [] = []
logged_of (m ∷ ms) = noted (admits_shot m.answer) m.shot (logged_of ms)

-- the table that they have left: the last exit's, at first an empty one
abbrev pub left : List Made → List ℕ
left [] = empty_table
left (m ∷ ms) = m.table

-- each met its contract on the table that the one before it left, whatever room it was lent
abbrev pub Ran : List Made → Type 0
Ran [] = Unit {0}
Ran (m ∷ ms) = Told (own.shot (left ms) m.shot) m.answer m.table m.room × Ran ms

pub record IsSeason (made : List Made) : Type 0 where
  pub table_is : left made ≡ table_after own (events_of made)
  pub log_is : logged_of made ≡ log_of own (events_of made)
