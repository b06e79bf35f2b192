-- Refusals 1 to 7, 15 and 16, which every call with a key has, in the order of judging; and what a call that passes them knows.
-- Assumes nothing.
use Rattle.std.specs.Prelude.{◌≡◌, Bool, true, false, not, ◌&&◌, cond, List, ◌∷◌, ◌++◌, ℕ, ◌≤◌, length, ltb, eqb, Result}
use Rattle.common.specs.Refusals.{first, unless}
use Rattle.common.specs.declared.refusal.Refusal.{Refusal}
use Rattle.settings.specs.Settings.{faults, Proper}
use Rattle.settings.specs.Clock.{window_ticks, look_ticks}
use Rattle.settings.specs.declared.Settings.{Settings}
use Rattle.layout.specs.Layout.{longest_key}
use Rattle.room.specs.Room.{Room, sized, last_of}
use Rattle.rules.specs.declared.RoomKind.{RoomKind}
use Rattle.parties.specs.Parties.{Sent, is_party, ours, overdrawn, none_left, turns}
use Rattle.judge.specs.declared.Judged.{Judged}
use Rattle.opened.specs.declared.Slot.{Slot}
use Rattle.opened.specs.Sound.{addressed, sound_at}
use Rattle.opened.specs.Slot.{slot_of, first_look}

-- 5: "the room's lengths are wrong, or the slot addressed is unsound", and "where a slot in use is neither party's"; 6: "the reading is below the last of a
-- call not refused"; 7: "key over 32 bytes"
unfoldable pub misfits : RoomKind → Settings → List ℕ → ℕ → Sent → List (ℕ × Bool)
misfits kind s w t key =
    (5, not (sized w && (ours w && sound_at kind s w (addressed w key)))) ∷
    (6, ltb t (last_of w)) ∷
    (7, ltb longest_key (length key.bytes)) ∷ turns w key.caller

-- a call's refusals: the shared ones, and its own
abbrev pub refusals : RoomKind → Settings → List ℕ → ℕ → Sent → List (ℕ × Bool) → List (ℕ × Bool)
refusals kind s w t key own = faults s ++ (misfits kind s w t key ++ own)

abbrev pub early : RoomKind → Settings → List ℕ → ℕ → Sent → ℕ
early kind s w t key = first (faults s ++ misfits kind s w t key)

-- the first of 1 to 5 that the settings and the lengths meet, or 0
unfoldable pub fault_of : Settings → List ℕ → ℕ
fault_of s w = cond (eqb (first (faults s)) 0) (cond (sized w) 0 5) (first (faults s))

-- the key's slot, opened at the reading
abbrev pub slot_in : Settings → List ℕ → ℕ → Sent → Slot
slot_in s w t key = slot_of (window_ticks s) w t (addressed w key)

-- and as a first look leaves it
abbrev pub looked_in : Settings → List ℕ → ℕ → Sent → Slot
looked_in s w t key = first_look (look_ticks s) t (slot_in s w t key)

-- how old the oldest bucket may be that stays, with what is expired
abbrev pub look_by : Bool → Settings → ℕ
look_by true s = look_ticks s
look_by false s = window_ticks s

-- by whether a first look is taken
abbrev pub slot_by : Bool → Settings → List ℕ → ℕ → Sent → Slot
slot_by true s w t key = looked_in s w t key
slot_by false s w t key = slot_in s w t key

-- the first of 1 to 7, 15 and 16; where there is none, the key's slot by whether a first look is taken, and whether the party has no slot left
unfoldable pub judged_by : Bool → RoomKind → Settings → List ℕ → ℕ → Sent → Result Judged Refusal
judged_by first kind s w t key = unless (early kind s w t key) (record { slot = slot_by first s w t key; none = none_left w key.caller })

abbrev pub judged : RoomKind → Settings → List ℕ → ℕ → Sent → Result Judged Refusal
judged = judged_by false

abbrev pub judged_first : RoomKind → Settings → List ℕ → ℕ → Sent → Result Judged Refusal
judged_first = judged_by true

-- what holds of a call that passes
pub record Passed (kind : RoomKind) (s : Settings) (w : List ℕ) (t : ℕ) (key : Sent) : Type 0 where
  pub settings : Proper s
  pub room : Room w
  pub sound : sound_at kind s w (addressed w key) ≡ true
  pub later : last_of w ≤ t
  pub short : length key.bytes ≤ longest_key
  pub theirs : ours w ≡ true
  pub party : is_party key.caller.party ≡ true
  pub within : overdrawn w key.caller ≡ false
