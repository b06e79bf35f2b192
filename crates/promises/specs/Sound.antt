-- A sound room stays sound: its lengths are right and every slot in use is a party's and sound (`SoundRoom`) after any call, refused or not, if they were
-- before it (`StaysSound`). A call on a sound room is not answered 5, whatever it is (`sound-unmet`), and an empty room is sound. So no call is ever
-- answered 5 where only these calls, with these settings, have written (`NeverFive`).
-- Assumes nothing.
use Rattle.std.specs.Prelude.{◌≡◌, true, List, ◌≢◌, ℕ}
use Rattle.answers.specs.Rows.{done_row, read_out_row, number_of}
use Rattle.settings.specs.declared.Settings.{Settings}
use Rattle.ring.specs.declared.Bucket.{Bucket}
use Rattle.room.specs.Room.{fits, empty}
use Rattle.parties.specs.declared.Caller.{Caller}
use Rattle.parties.specs.Parties.{Sent}
use Rattle.rules.specs.declared.RoomKind.{RoomKind}
use Rattle.rules.specs.declared.RoomKind.TheVariants.{Absolute, Suppressed}
use Rattle.provider.specs.Provider as Provider
use Rattle.readout.specs.ReadOut as ReadOut
use Rattle.places.specs.SoundRoom.{SoundRoom}
use Rattle.steps.specs.Ops as Ops
use Rattle.steps.specs.Ops.{Op, Call, Keyed, AllKeyed, after, answer_number, words}

-- every call of either limiter, and the provider's cleanup. A key that may enter the room is to be of bytes (`Keyed`)
abbrev pub StaysSound : Type 0
StaysSound =
    (kind : RoomKind) (s : Settings) (w : List ℕ) (t : ℕ) (op : Op kind) → Keyed op →
    SoundRoom kind s w → SoundRoom kind s (after kind s w t op)

-- ---- a call on a sound room is not answered 5

-- the provider's cleanup judges the room of the other kind too
abbrev pub other_kind : RoomKind → RoomKind
other_kind Absolute = Suppressed
other_kind Suppressed = Absolute

abbrev pub OtherSound : (kind : RoomKind) → Settings → Op kind → Type 0
OtherSound kind s op =
    (who : Caller) (other : List ℕ) (whose : Caller) (stale : ℕ) → op ≡ Ops.cleanup_both who other whose stale → SoundRoom (other_kind kind) s other

-- ---- over whole histories

-- No call is ever answered 5: after any history from an empty room, with the same settings, whatever the call, its key, its reading and its other arguments.
-- `calls` asks of the provider's cleanup that the room beside it is sound too; `provider-cleanup` speaks of two rooms with a history each
pub record NeverFive : Type 0 where
  pub calls : (kind : RoomKind) (s : Settings) (slots ring l : ℕ) → fits slots ring l ≡ true → (made : List (Call kind)) → AllKeyed made →
      (t : ℕ) (op : Op kind) → OtherSound kind s op → answer_number kind s (words kind s (empty slots ring) made) t op ≢ 5
  pub provider-cleanup : (s : Settings)
      (slots ring l : ℕ) → fits slots ring l ≡ true → (made : List (Call Absolute)) → AllKeyed made →
      (slots' ring' l' : ℕ) → fits slots' ring' l' ≡ true → (made' : List (Call Suppressed)) → AllKeyed made' →
      (t : ℕ) (c d : Caller) (stale : ℕ) →
      number_of (done_row
      (Provider.cleanup s (words Absolute s (empty slots ring) made) (words Suppressed s (empty slots' ring') made') t c d stale).answer) ≢ 5
  pub read_out : (kind : RoomKind) (s : Settings) (slots ring l : ℕ) → fits slots ring l ≡ true → (made : List (Call kind)) → AllKeyed made →
      (key : Sent) (cells : List Bucket) →
      number_of (read_out_row (ReadOut.read_out kind s (words kind s (empty slots ring) made) key cells).answer) ≢ 5
