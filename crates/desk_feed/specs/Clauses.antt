-- What the functions on bytes leave, each as one record; `promises` says that two results which meet it are equal.
-- Assumes nothing.
use Rattle.std.specs.Prelude.{◌≡◌, Bool, true, cond, ◌&&◌, List, ℕ, length, take, set, eqb, Result}
use Rattle.common.specs.declared.refusal.Refusal.{Refusal}
use Rattle.printing.specs.Printing.{Put}
use Rattle.room.specs.Room.{fits, empty, if_fits}
use Rattle.table.specs.Table.{most_controllers, table_words, empty_table}
use Rattle.desk_turn.specs.declared.Program.{Program}
use Rattle.desk_turn.specs.declared.Program.TheVariants as program
use Rattle.desk_feed.specs.declared.Desk.{Desk}
use Rattle.desk_feed.specs.declared.Fed.{Fed}
use Rattle.desk_feed.specs.declared.Progress.{Progress}
use Rattle.desk_feed.specs.Feed.{Whole, whole, After, held_more, feed, takes}

-- a byte that is kept
pub record Kept (d : Desk) (old : List ℕ) (b : ℕ) (r : Desk) (new : List ℕ) : Type 0 where
  pub desk : r ≡ record { phase = d.phase; held = held_more d old }
  pub hold : new ≡ set old d.held b

-- any byte
pub record Gone (f : After) (old : List ℕ) (at : ℕ) (r : Fed) (a b h new : List ℕ) : Type 0 where
  pub after : whole r.desk a b h ≡ f.whole
  pub put : Put old at f.prints new r.next

-- a block
pub record Feeding (w : Whole) (block old : List ℕ) (r : Progress) (a b h new : List ℕ) : Type 0 where
  pub taken : r.taken ≡ takes (length old) w 0 block
  pub after : whole r.desk a b h ≡ (feed w (take r.taken block)).whole
  pub put : Put old 0 (feed w (take r.taken block)).prints new r.put

-- ---- the memories that a program makes

-- `desk`: "One absolute and one suppressed room", of 4 keys each (document 02, ticket 5). `shots`: a table, and a room with a slot for each controller that
-- it can know.
abbrev pub slots_of : Program → ℕ
slots_of program.Desk = 4
slots_of program.Shots = most_controllers

-- the rings of all these rooms: they suffice for the ticket's window of 30 s and buckets of 100 ms
abbrev pub ring_length : ℕ
ring_length = 298

abbrev pub fits_first : Program → List ℕ → Bool
fits_first program.Desk w = fits (slots_of program.Desk) ring_length (length w)
fits_first program.Shots w = eqb (length w) table_words

abbrev pub new_first : Program → List ℕ
new_first program.Desk = empty (slots_of program.Desk) ring_length
new_first program.Shots = empty_table

abbrev pub fits_second : Program → List ℕ → Bool
fits_second g w = fits (slots_of g) ring_length (length w)

abbrev pub new_second : Program → List ℕ
new_second g = empty (slots_of g) ring_length

-- lent words that fit
pub record Fitting (g : Program) (a b : List ℕ) : Type 0 where
  pub first : fits_first g a ≡ true
  pub second : fits_second g b ≡ true

pub record FirstMade (g : Program) (w : List ℕ) (x : Result (Unit {0}) Refusal) (v : List ℕ) : Type 0 where
  pub answer : x ≡ if_fits (fits_first g w)
  pub words : v ≡ cond (fits_first g w) (new_first g) w

pub record BothMade (g : Program) (a b : List ℕ) (x : Result (Unit {0}) Refusal) (a' b' : List ℕ) : Type 0 where
  pub answer : x ≡ if_fits (fits_first g a && fits_second g b)
  pub first : a' ≡ cond (fits_first g a) (new_first g) a
  pub second : b' ≡ cond (fits_second g b) (new_second g) b
