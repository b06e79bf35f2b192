-- What the limiters plan on a key's slot x, as it is opened: where it stands, whether an increment fits, and the edits.
-- Assumes nothing.
use Rattle.std.specs.Prelude.{Bool, true, false, not, ◌&&◌, cond, List, ℕ, ◌-◌, leb, ltb}
use Rattle.room.specs.Room.{vacant}
use Rattle.opened.specs.Slot.{has_slot}
use Rattle.edit.specs.declared.Edit.{Edit}
use Rattle.edit.specs.declared.Then.{Then}
use Rattle.opened.specs.declared.Slot.{Slot}

-- ---- where

-- "One without a slot takes the lowest free one": the slot, or the number of slots where none is free
unfoldable pub place_of : List ℕ → Slot → ℕ
place_of w x = cond (has_slot x) x.at (vacant w)

-- "a slot is needed and the party already holds its promised number", which none says
unfoldable pub lacks_at : Bool → Slot → Bool
lacks_at none x = not (has_slot x) && none

-- ---- an increment, once the oldest k buckets are out; b is the bucket size, r the ring

unfoldable pub joins_after : ℕ → ℕ → ℕ → Slot → Bool
joins_after b t k x = ltb k x.pass.buckets && leb (t - x.pass.newest_time) b

unfoldable pub full_after : ℕ → ℕ → ℕ → ℕ → Slot → Bool
full_after r b t k x = not (joins_after b t k x) && leb r (x.pass.buckets - k)

-- ---- edits

-- the slot with its buckets, and then
abbrev pub keeping : Slot → Then → Edit
keeping x then = record {
  begins = false;
  gone = 0;
  total = x.total;
  declined = x.declined;
  then = then;
  limit = x.limit;
  factor = x.factor;
  factor_time = x.factor_time;
  used = x.used;
}

-- without its expired buckets, and then
abbrev pub evicting : Slot → Then → Edit
evicting x then = record {
  begins = false;
  gone = x.pass.expired;
  total = x.pass.live_total;
  declined = x.pass.live_declined;
  then = then;
  limit = x.limit;
  factor = x.factor;
  factor_time = x.factor_time;
  used = x.used;
}

-- a series that begins
abbrev pub opening : ℕ → Then → ℕ → ℕ → ℕ → Edit
opening limit then factor time used = record {
  begins = true;
  gone = 0;
  total = 0;
  declined = 0;
  then = then;
  limit = limit;
  factor = factor;
  factor_time = time;
  used = used;
}

-- another limit, cached factor and use
abbrev pub restored : Edit → ℕ → ℕ → ℕ → ℕ → Edit
restored e limit factor time used = record {
  begins = e.begins;
  gone = e.gone;
  total = e.total;
  declined = e.declined;
  then = e.then;
  limit = limit;
  factor = factor;
  factor_time = time;
  used = used;
}

-- an edit with another limit and use
abbrev pub relimited : Edit → ℕ → ℕ → Edit
relimited e limit used = restored e limit e.factor e.factor_time used
