-- The words that a change leaves, and what it asks. r is the ring, s the bucket size, t the reading.
-- Assumes nothing.
use Rattle.std.specs.Prelude.{List, ℕ, ◌<◌}
use Rattle.room.specs.Room.{Room, slots_of, ring_of, body_of, with_body, with_use, released, with_reading, entered}
use Rattle.parties.specs.Parties.{Sent, key_for}
use Rattle.edit.specs.declared.Edit.{Edit}
use Rattle.change.specs.declared.Change.{Change}
use Rattle.change.specs.declared.Change.TheVariants.{Keep, Free, Update, Take}
use Rattle.edit.specs.Bodies.{Edits, edited}

-- ---- a room

unfoldable pub with_edit : List ℕ → ℕ → ℕ → ℕ → Edit → List ℕ
with_edit w at s t e = with_body w at (edited (ring_of w) s t (body_of w at) e)

unfoldable pub updated : List ℕ → ℕ → ℕ → ℕ → Edit → List ℕ
updated w at s t e = with_use (with_edit w at s t e) at e.used

unfoldable pub taken : List ℕ → ℕ → Sent → ℕ → ℕ → Edit → List ℕ
taken w at key s t e = entered (with_edit w at s t e) at e.used (key_for key)

unfoldable pub carried : List ℕ → ℕ → Sent → ℕ → ℕ → Change → List ℕ
carried w at key s t Keep = w
carried w at key s t Free = released w at
carried w at key s t (Update e) = updated w at s t e
carried w at key s t (Take e) = taken w at key s t e

-- a call that is not refused stores its reading
unfoldable pub applied : List ℕ → ℕ → Sent → ℕ → ℕ → Change → List ℕ
applied w at key s t change = with_reading (carried w at key s t change) t

pub record EditsAt (w : List ℕ) (at s t : ℕ) (e : Edit) : Type 0 where
  pub room : Room w
  pub inside : at < slots_of w
  pub edits : Edits (ring_of w) s t (body_of w at) e

pub record FreesAt (w : List ℕ) (at : ℕ) : Type 0 where
  pub room : Room w
  pub inside : at < slots_of w

abbrev pub Applies : List ℕ → ℕ → ℕ → ℕ → Change → Type 0
Applies w at s t Keep = Room w
Applies w at s t Free = FreesAt w at
Applies w at s t (Update e) = EditsAt w at s t e
Applies w at s t (Take e) = EditsAt w at s t e
