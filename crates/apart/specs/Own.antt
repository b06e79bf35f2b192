-- A room in which one party alone calls stays that party's, whatever it calls and whatever its readings are: no slot ever becomes the other's.
-- `Alone` says so where readings never fall; here calls may be turned away with 6 in between.
-- Assumes nothing.
use Rattle.std.specs.Prelude.{List, ◌≢◌, ℕ, ◌<◌}
use Rattle.room.specs.Room.{slots_of, holder_of}

-- no slot is held with mark m
abbrev pub NoneOf : ℕ → List ℕ → Type 0
NoneOf m w = (i : ℕ) → i < slots_of w → holder_of w i ≢ m
