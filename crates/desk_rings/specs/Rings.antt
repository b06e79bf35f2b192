-- `desk` and `shots` print no code 12 where their rings suffice (document 02, ticket 4): so at a window of 30 s and buckets of 100 ms (ticket 5), whatever
-- lines come. Of `desk`'s rooms each has a history of calls, the room of `shots` one of shots through a gateway: what is promised of these is promised of it.
-- Assumes nothing.
use Rattle.std.specs.Prelude.{◌≡◌, refl, true, List, [], ◌∷◌, ◌≢◌, ℕ, ◌≤◌, length, Option, Some, Result, Ok, Err}
use Rattle.std.proofs.Common.{sym, ap, subst}
use Rattle.common.specs.declared.refusal.Refusal.{Refusal}
use Rattle.settings.specs.declared.Settings.{Settings}
use Rattle.ring_length.specs.RingLength.{sufficient_ring}
use Rattle.rules.specs.declared.RoomKind.{RoomKind}
use Rattle.rules.specs.declared.RoomKind.TheVariants.{Absolute, Suppressed}
use Rattle.room.specs.Room.{length_of, fits, empty}
use Rattle.frame.specs.Keys.{Bytes}
use Rattle.lines.specs.declared.Op as line_op
use Rattle.lines.specs.declared.Op.TheVariants.{AbsoluteInc, AbsoluteGet, SuppressedInc, SuppressedGet}
use Rattle.lines.specs.Reading.{settings_line}
use Rattle.lines.specs.declared.SettingsLine.{SettingsLine}
use Rattle.desk_step.specs.Desk as Calls
use Rattle.desk_step.specs.Desk.{open_with, opening_in, opening_of}
use Rattle.desk_turn.specs.declared.Program.{Program}
use Rattle.desk_turn.specs.declared.Program.TheVariants as program
use Rattle.desk_turn.specs.declared.Phase.TheVariants.{Waiting, Open, Ended}
use Rattle.desk_feed.specs.Clauses.{slots_of, ring_length, new_first, new_second}
use Rattle.desk_laws.specs.Whole.{input_lines, printed}
use Rattle.desk_laws.specs.Lines.{Without, Stand}
use Rattle.desk_laws.specs.Asks.{kind_of, room_of, op_of}
use Rattle.steps.specs.Ops.{Op, Call, Keyed, AllKeyed, after, answer_number, words}
use Rattle.rings.proofs.Roomy.{roomy-untold}
use Rattle.rings.proofs.Rings.{always-roomy}
use Rattle.through.specs.Events.{Event, lent, left}
use Rattle.through.specs.Rings.{EachKeyed}

-- ---- the statement

-- the programs' rings suffice for the settings that a first line opens them with
abbrev pub Enough : Result Settings Refusal → Type 0
Enough (Ok s) = sufficient_ring s ≤ ring_length
Enough (Err e) = Unit {0}

abbrev pub first_of : List (List ℕ) → List ℕ
first_of [] = []
first_of (line ∷ more) = line

-- no line that a program prints has code 12, for any input with such a first line
abbrev pub NeverFull : Program → Type 0
NeverFull g = (h xs : List ℕ) → length h ≡ 200 → Enough (opening_of (first_of (input_lines [] xs))) → Without 12 (printed g h xs)

-- ---- a room that a history of calls has left

pub record Left (kind : RoomKind) (s : Settings) (slots : ℕ) (w : List ℕ) : Type 0 where
  pub calls : List (Call kind)
  pub keyed : AllKeyed calls
  pub words_are : w ≡ words kind s (empty slots ring_length) calls

module _ (kind : RoomKind) (s : Settings) (slots : ℕ) where
  pub new-left : Left kind s slots (empty slots ring_length)
  new-left = record { calls = []; keyed = tt; words_are = refl }

  next-left : (w : List ℕ) (t : ℕ) (op : Op kind) → Keyed op → Left kind s slots w → Left kind s slots (after kind s w t op)
  next-left w t op k l = record {
    calls = record { reading = t; op = op } ∷ l.calls;
    keyed = (k, l.keyed);
    words_are = ap (λ (v : List ℕ). after kind s v t op) l.words_are;
  }

  left-untold : fits slots ring_length (length_of slots ring_length) ≡ true → sufficient_ring s ≤ ring_length → (w : List ℕ) (t : ℕ) (op : Op kind) →
      Left kind s slots w → answer_number kind s w t op ≢ 12
  left-untold e enough w t op l =
      subst (λ (v : List ℕ). answer_number kind s v t op ≢ 12) (sym l.words_are)
      (roomy-untold kind s (words kind s (empty slots ring_length) l.calls) t
      (always-roomy kind s slots ring_length (length_of slots ring_length) e enough l.calls l.keyed) op)

-- each program's rooms can be made
pub program-fits : (g : Program) → fits (slots_of g) ring_length (length_of (slots_of g) ring_length) ≡ true
unfolding fits
program-fits program.Desk = refl
program-fits program.Shots = refl

-- ---- `desk`

pub record DeskStands (s : Settings) (a b : List ℕ) : Type 0 where
  pub absolute : Left Absolute s (slots_of program.Desk) a
  pub suppressed : Left Suppressed s (slots_of program.Desk) b

module _ (s : Settings) (a b : List ℕ) (t : ℕ) (key : List ℕ) (rate n draw : ℕ) (h : DeskStands s a b) where
  held : (op : line_op.Op) → Left (kind_of op) s (slots_of program.Desk) (room_of op a b)
  held AbsoluteInc = h.absolute
  held AbsoluteGet = h.absolute
  held SuppressedInc = h.suppressed
  held SuppressedGet = h.suppressed

  pub asks-untold : sufficient_ring s ≤ ring_length → (op : line_op.Op) →
      answer_number (kind_of op) s (room_of op a b) t (op_of op (room_of op a b) key rate n draw) ≢ 12
  asks-untold enough op =
      left-untold (kind_of op) s (slots_of program.Desk) (program-fits program.Desk) enough (room_of op a b) t (op_of op (room_of op a b) key rate n draw) (held op)

  pub keyed : Bytes key → (op : line_op.Op) → Keyed (op_of op (room_of op a b) key rate n draw)
  keyed k AbsoluteInc = k
  keyed k AbsoluteGet = tt
  keyed k SuppressedInc = k
  keyed k SuppressedGet = tt

  asks-left : Bytes key → (op : line_op.Op) →
      Left (kind_of op) s (slots_of program.Desk) (after (kind_of op) s (room_of op a b) t (op_of op (room_of op a b) key rate n draw))
  asks-left k op = next-left (kind_of op) s (slots_of program.Desk) (room_of op a b) t (op_of op (room_of op a b) key rate n draw) (keyed k op) (held op)

  pub call-stands : Bytes key → (op : line_op.Op) → let v = Calls.call_of s a b t op key rate n draw in DeskStands s v.first v.second
  unfolding Calls.call_of Calls.absolute_inc Calls.absolute_get Calls.suppressed_inc Calls.suppressed_get
  call-stands k AbsoluteInc = record { absolute = asks-left k AbsoluteInc; suppressed = h.suppressed }
  call-stands k AbsoluteGet = record { absolute = asks-left k AbsoluteGet; suppressed = h.suppressed }
  call-stands k SuppressedInc = record { absolute = h.absolute; suppressed = asks-left k SuppressedInc }
  call-stands k SuppressedGet = record { absolute = h.absolute; suppressed = asks-left k SuppressedGet }

-- ---- `shots`

pub record ShotsStands (s : Settings) (w r : List ℕ) : Type 0 where
  pub events : List Event
  pub keyed : EachKeyed events
  pub lent_is : lent w r ≡ left s (lent (new_first program.Shots) (new_second program.Shots)) events

-- ---- all lines

abbrev pub StandsBy : Program → Settings → List ℕ → List ℕ → Type 0
StandsBy program.Desk s a b = DeskStands s a b
StandsBy program.Shots s a b = ShotsStands s a b

-- where a program stands behind its first line
abbrev pub Opened : Stand
Opened (Waiting g) a b = ⊥
Opened (Open g s) a b = (sufficient_ring s ≤ ring_length) × StandsBy g s a b
Opened Ended a b = Unit {0}

-- ---- at a window of 30 s and buckets of 100 ms, whatever factor and cache period are

abbrev pub default_line : ℕ → ℕ → Option SettingsLine
default_line factor cache = Some (settings_line 30 100 factor cache)
