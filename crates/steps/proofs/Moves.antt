-- What is known of a change that a call with a key makes: where it stands, which of the slot's buckets it starts from, and that what it stores is right.
-- x is the key's slot, opened at the reading.
-- Assumes nothing.
use Rattle.std.specs.Prelude.{List, ℕ}
use Rattle.keys.specs.declared.Key.{Key}
use Rattle.change.specs.declared.Change.{Change}
use Rattle.change.specs.declared.Change.TheVariants.{Keep, Free, Update, Take}
use Rattle.opened.specs.declared.Slot.{Slot}
use Rattle.places.specs.Placed.{Placed}
use Rattle.steps.specs.Moves.{Moves}

-- so other keys' slots stand, and keys stay distinct (`Placed-same`, `placed-distinct`)
pub moves-placed : (x : Slot) (w : List ℕ) (k : Key) (at : ℕ) (change : Change) → Moves x w k at change → Placed w at k change
moves-placed x w k at Keep m = tt
moves-placed x w k at Free m = m
moves-placed x w k at (Update e) m = m.owns
moves-placed x w k at (Take e) m = m.lacks
