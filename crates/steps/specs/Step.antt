-- One law for every call: it leaves the words as they were, or changes its key's slot, or cleans the room, or frees its party's slots.
-- Assumes nothing.
use Rattle.std.specs.Prelude.{◌≡◌, List, ℕ, ◌≤◌}
use Rattle.settings.specs.Clock.{ticks_in, join_ticks}
use Rattle.settings.specs.declared.Settings.{Settings}
use Rattle.room.specs.Room as Room
use Rattle.parties.specs.declared.Caller.{Caller}
use Rattle.parties.specs.Parties.{Sent}
use Rattle.change.specs.declared.Change.{Change}
use Rattle.change.specs.Words.{applied}
use Rattle.rules.specs.declared.RoomKind.{RoomKind}
use Rattle.stale.specs.Uses as Uses
use Rattle.cleanup.specs.Laws.{Passed}
use Rattle.steps.specs.Moves.{Does}
use Rattle.steps.specs.Ops.{Op, slot_of, stale_by, whole, touches}

-- from the words w to v, by the call op at reading t
pub data Step (kind : RoomKind) (s : Settings) (w : List ℕ) (t : ℕ) (op : Op kind) (v : List ℕ) : Type 0 where
  refused : v ≡ w → Step kind s w t op v
  changed : (key : Sent) → touches op ≡ slot_of key → (at : ℕ) (change : Change) → Does kind s w t key at change →
      v ≡ applied w at key (join_ticks s) t change → Step kind s w t op v
  cleaned : (stale : ℕ) (who : Caller) → touches op ≡ stale_by stale → Passed kind s w t who → v ≡ Uses.cleaned w t (ticks_in s) stale → Step kind s w t op v
  cleared : (m : ℕ) → touches op ≡ whole m → Room.Room w → Room.last_of w ≤ t → v ≡ Room.with_reading (Room.cleared w m) t → Step kind s w t op v
