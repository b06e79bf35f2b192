-- One party that is promised every slot, in a room whose slots in use are all its own: each answer is what it was before there were parties
-- (`alone-answer`). The tables below are those of document 01: 5 judges lengths and the slot addressed alone, there are no 15 and 16, and 11 is given where
-- no slot is free.
-- Assumes nothing.
use Rattle.std.specs.Prelude.{◌≡◌, Bool, true, false, not, ◌&&◌, ◌||◌, List, [], ◌∷◌, ◌++◌, ℕ, ltb, leb, length}
use Rattle.settings.specs.Settings.{faults}
use Rattle.settings.specs.declared.Settings.{Settings}
use Rattle.layout.specs.Layout.{longest_key, first_mark, second_mark}
use Rattle.rules.specs.Absolute as absolute
use Rattle.rules.specs.Suppressed as suppressed
use Rattle.rules.specs.Sets as sets
use Rattle.rules.specs.declared.RoomKind.{RoomKind}
use Rattle.rules.specs.declared.RoomKind.TheVariants as kind
use Rattle.room.specs.Room.{slots_of, ring_of, last_of, sized, vacant}
use Rattle.parties.specs.declared.Caller.{Caller}
use Rattle.parties.specs.Parties.{Sent, is_party, ours, slots_held, overdrawn, none_left}
use Rattle.judge.specs.Held.{held_in}
use Rattle.opened.specs.Sound.{addressed, sound_at}
use Rattle.cleanup.specs.Cleanup as Cleanup
use Rattle.steps.specs.Ops.{Op, inc, is_allowed, get, draws, snapshot, get_factor, set_rate, set, delete, cleanup, cleanup_both, clear}

-- ---- the tables of one party

-- 11: "no free slot"
abbrev pub none_free : List ℕ → Bool
none_free w = leb (slots_of w) (vacant w)

-- 5: "the room's lengths are wrong, or the slot addressed is unsound"; 6: "the reading is below the last of a call not refused"; 7: "key over 32 bytes"
abbrev pub sole_misfits : RoomKind → Settings → List ℕ → ℕ → Sent → List (ℕ × Bool)
sole_misfits k s w t key =
    (5, not (sized w && sound_at k s w (addressed w key))) ∷ (6, ltb t (last_of w)) ∷ (7, ltb longest_key (length key.bytes)) ∷ []

abbrev pub sole : RoomKind → Settings → List ℕ → ℕ → Sent → List (ℕ × Bool) → List (ℕ × Bool)
sole k s w t key own = faults s ++ (sole_misfits k s w t key ++ own)

abbrev pub sole_both : RoomKind → Settings → List ℕ → ℕ → List ℕ → List (ℕ × Bool)
sole_both kind.Absolute s w t other =
    (5, not (sized w && Cleanup.all_pass kind.Absolute s w) || not (sized other && Cleanup.all_pass kind.Suppressed s other)) ∷
    (6, ltb t (last_of w) || ltb t (last_of other)) ∷ []
sole_both kind.Suppressed s w t other =
    (5, not (sized other && Cleanup.all_pass kind.Absolute s other) || not (sized w && Cleanup.all_pass kind.Suppressed s w)) ∷
    (6, ltb t (last_of other) || ltb t (last_of w)) ∷ []

abbrev pub sole_table : (k : RoomKind) → Settings → List ℕ → ℕ → Op k → List (ℕ × Bool)
sole_table k s w t (inc key rate c) = sole kind.Absolute s w t key (absolute.inc_turns s (ring_of w) (none_free w) t rate c (held_in w key))
sole_table k s w t (is_allowed key) = sole kind.Absolute s w t key []
sole_table k s w t (get key) = sole kind.Absolute s w t key []
sole_table k s w t (draws key rate c draw) = sole kind.Suppressed s w t key (suppressed.inc_turns s (ring_of w) (none_free w) t rate c draw (held_in w key))
sole_table k s w t (snapshot key) = sole kind.Suppressed s w t key []
sole_table k s w t (get_factor key) = sole kind.Suppressed s w t key (suppressed.factor_turns (none_free w) (held_in w key))
sole_table k s w t (set_rate key rate) = sole k s w t key (sets.rate_turns rate)
sole_table k s w t (set key rate comparator count mode) = sole k s w t key (sets.set_turns k s (none_free w) t rate comparator count mode (held_in w key))
sole_table k s w t (delete key) = sole k s w t key []
sole_table k s w t (cleanup who stale) = faults s ++ ((5, not (sized w && Cleanup.all_pass k s w)) ∷ (6, ltb t (last_of w)) ∷ [])
sole_table k s w t (cleanup_both who other whose stale) = faults s ++ sole_both k s w t other
sole_table k s w t (clear who) = faults s ++ ((5, not (sized w)) ∷ (6, ltb t (last_of w)) ∷ [])

-- ---- alone

-- every slot is promised to the caller, and every slot in use is its own
pub data Alone (w : List ℕ) (c : Caller) : Type 0 where
  as_first : ours w ≡ true → c.party ≡ 1 → c.first ≡ slots_of w → c.second ≡ 0 → slots_held w second_mark ≡ 0 → Alone w c
  as-second : ours w ≡ true → c.party ≡ 2 → c.first ≡ 0 → c.second ≡ slots_of w → slots_held w first_mark ≡ 0 → Alone w c

-- of the other room too, where a cleanup is of both
abbrev pub Others : {k : RoomKind} → Op k → Type 0
Others (inc key rate c) = Unit {0}
Others (is_allowed key) = Unit {0}
Others (get key) = Unit {0}
Others (draws key rate c draw) = Unit {0}
Others (snapshot key) = Unit {0}
Others (get_factor key) = Unit {0}
Others (set_rate key rate) = Unit {0}
Others (set key rate comparator count mode) = Unit {0}
Others (delete key) = Unit {0}
Others (cleanup who stale) = Unit {0}
Others (cleanup_both who other whose stale) = Alone other whose
Others (clear who) = Unit {0}

-- ---- what that comes to

pub record Sole (w : List ℕ) (c : Caller) : Type 0 where
  pub theirs : ours w ≡ true
  pub party : is_party c.party ≡ true
  pub within : overdrawn w c ≡ false
  pub free : none_left w c ≡ none_free w
