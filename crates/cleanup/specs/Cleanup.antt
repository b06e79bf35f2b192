-- Cleanup: its refusals, and with the words that `stale` says its verdict. t is the reading, stale the stale time.
-- Assumes nothing.
use Rattle.std.specs.Prelude.{Bool, not, ◌&&◌, ◌||◌, List, ◌∷◌, ◌++◌, ℕ, ltb, Result, Ok}
use Rattle.common.specs.Refusals.{first, refuse}
use Rattle.settings.specs.Settings.{faults}
use Rattle.settings.specs.Clock.{ticks_in}
use Rattle.settings.specs.declared.Settings.{Settings}
use Rattle.room.specs.Room.{slots_of, last_of, free, sized}
use Rattle.parties.specs.declared.Caller.{Caller}
use Rattle.parties.specs.Parties.{ours, turns}
use Rattle.rules.specs.declared.RoomKind.{RoomKind}
use Rattle.opened.specs.Sound.{sound_slot}
use Rattle.judge.specs.Verdict.{Verdict, verdict, unless_refused}
use Rattle.base.specs.Every.{every}
use Rattle.stale.specs.Uses.{cleaned}
use Rattle.common.specs.declared.refusal.Refusal.{Refusal}

-- ---- refusals: 1 to 4 of the settings, then 5, 6, 15 and 16

-- "Cleanup judges every slot in use"
unfoldable pub slot_passes : RoomKind → Settings → List ℕ → ℕ → Bool
slot_passes kind s w i = free w i || sound_slot kind s w i

abbrev pub all_pass : RoomKind → Settings → List ℕ → Bool
all_pass kind s w = every (slot_passes kind s w) (slots_of w)

-- 5: "the room's lengths are wrong, or the slot addressed is unsound", and "where a slot in use is neither party's"; 6: "the reading is below the last of a
-- call not refused"
unfoldable pub misfits : RoomKind → Settings → List ℕ → ℕ → Caller → List (ℕ × Bool)
misfits kind s w t c = (5, not (sized w && (ours w && all_pass kind s w))) ∷ (6, ltb t (last_of w)) ∷ turns w c

-- the first that applies, or 0
abbrev pub refusal : RoomKind → Settings → List ℕ → ℕ → Caller → ℕ
refusal kind s w t c = first (faults s ++ misfits kind s w t c)

unfoldable pub cleanup : RoomKind → Settings → List ℕ → ℕ → Caller → ℕ → Verdict (Result (Unit {0}) Refusal)
cleanup kind s w t c stale = unless_refused refuse (refusal kind s w t c) w (verdict (Ok tt) (cleaned w t (ticks_in s) stale))
