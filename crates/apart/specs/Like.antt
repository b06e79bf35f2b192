-- Two rooms that one party cannot tell apart: its keys hold the same in both. Its own calls, and cleanups, are answered the same in both and leave two such
-- rooms (`same_row`, `like-after`); a call of the other party leaves such a room (`like-beside`).
-- Assumes nothing.
use Rattle.std.specs.Prelude.{◌≡◌, Bool, List, ℕ, ◌≤◌, eqb}
use Rattle.std.proofs.Math.Bool.{true}
use Rattle.settings.specs.declared.Settings.{Settings}
use Rattle.keys.specs.declared.Key.{Key}
use Rattle.rules.specs.declared.RoomKind.{RoomKind}
use Rattle.room.specs.Room.{slots_of, ring_of, last_of}
use Rattle.parties.specs.Parties.{mark_of, is_party}
use Rattle.steps.specs.Ops.{Op, inc, is_allowed, get, draws, snapshot, get_factor, set_rate, set, delete, cleanup, cleanup_both, clear}
use Rattle.steps.specs.History.{Sane}
use Rattle.apart.specs.Holds.{held_for}
use Rattle.apart.specs.Promised.{Kept}

-- the keys with mark m hold the same
pub record Like (m : ℕ) (w v : List ℕ) : Type 0 where
  pub slots : slots_of w ≡ slots_of v
  pub ring : ring_of w ≡ ring_of v
  pub held : (j : Key) → j.holder ≡ m → held_for w j ≡ held_for v j

-- a room that the calls have made, with promises that were kept, and readings up to t
pub record Fine (k : RoomKind) (s : Settings) (t a b : ℕ) (w : List ℕ) : Type 0 where
  pub sane : Sane k s w
  pub last : last_of w ≤ t
  pub kept : Kept w a b

-- such rooms, that party p cannot tell apart
pub record Alike (k : RoomKind) (s : Settings) (t p a b : ℕ) (w v : List ℕ) : Type 0 where
  pub party : is_party p ≡ true
  pub one : Fine k s t a b w
  pub other : Fine k s t a b v
  pub like : Like (mark_of p) w v

-- ---- whose a call is

-- a call of party p, or a cleanup, whoever asks for it
abbrev pub mine : {kind : RoomKind} → ℕ → Op kind → Bool
mine p (inc key rate c) = eqb key.caller.party p
mine p (is_allowed key) = eqb key.caller.party p
mine p (get key) = eqb key.caller.party p
mine p (draws key rate c draw) = eqb key.caller.party p
mine p (snapshot key) = eqb key.caller.party p
mine p (get_factor key) = eqb key.caller.party p
mine p (set_rate key rate) = eqb key.caller.party p
mine p (set key rate comparator count mode) = eqb key.caller.party p
mine p (delete key) = eqb key.caller.party p
mine p (cleanup who stale) = true
mine p (cleanup_both who other whose stale) = true
mine p (clear who) = eqb who.party p
