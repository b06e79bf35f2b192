-- Every call's table of refusals, and that it answers by it (demand 1), said once for all calls (`turned`): a number that is given is the first, in the
-- order of judging, whose condition holds, exactly then, and the words are then as they were.
-- Assumes nothing.
use Rattle.std.specs.Prelude.{Bool, List, [], ◌++◌, ℕ}
use Rattle.settings.specs.Settings.{faults}
use Rattle.common.specs.declared.comparator.RateLimitComparator.{RateLimitComparator}
use Rattle.answers.specs.declared.HistoryUpdateMode.{HistoryUpdateMode}
use Rattle.settings.specs.declared.Settings.{Settings}
use Rattle.common.specs.declared.units.RateLimit.{RateLimit}
use Rattle.rules.specs.declared.RoomKind.{RoomKind}
use Rattle.rules.specs.declared.RoomKind.TheVariants as kind
use Rattle.clearing.specs.Clear as Clear
use Rattle.cleanup.specs.Cleanup as Cleanup
use Rattle.rules.specs.Absolute as absolute
use Rattle.rules.specs.Absolute.{pick_decision}
use Rattle.rules.specs.Suppressed as suppressed
use Rattle.rules.specs.Sets as shared
use Rattle.room.specs.Room.{ring_of}
use Rattle.parties.specs.declared.Caller.{Caller}
use Rattle.parties.specs.Parties.{Sent, none_left}
use Rattle.judge.specs.Held.{held_in}
use Rattle.judge.specs.Judge.{refusals}
use Rattle.provider.specs.Laws.{either_misfits}
use Rattle.steps.specs.Ops as Ops
use Rattle.steps.specs.Ops.{Op, cleaned_both, after, answer_row, answer_number}

-- ---- each call's table: 1 to 4 judge the settings (`faults`), 5 to 7, 15 and 16 the room, the reading, the key and the caller (`misfits`),
-- and then come the call's own

-- 8, 10, 11, 12: an absolute rejection goes before 10 to 12
abbrev pub absolute_inc : Settings → List ℕ → ℕ → Sent → RateLimit → ℕ → List (ℕ × Bool)
absolute_inc s w t key rate count = refusals kind.Absolute s w t key (absolute.inc_turns s (ring_of w) (none_left w key.caller) t rate count (held_in w key))

-- no other
abbrev pub plain : RoomKind → Settings → List ℕ → ℕ → Sent → List (ℕ × Bool)
plain kind s w t key = refusals kind s w t key []

-- 8 to 12
abbrev pub suppressed_inc : Settings → List ℕ → ℕ → Sent → RateLimit → ℕ → ℕ → List (ℕ × Bool)
suppressed_inc s w t key rate count draw =
    refusals kind.Suppressed s w t key (suppressed.inc_turns s (ring_of w) (none_left w key.caller) t rate count draw (held_in w key))

-- 11
abbrev pub suppressed_factor : Settings → List ℕ → ℕ → Sent → List (ℕ × Bool)
suppressed_factor s w t key = refusals kind.Suppressed s w t key (suppressed.factor_turns (none_left w key.caller) (held_in w key))

-- 8
abbrev pub set_rate : RoomKind → Settings → List ℕ → ℕ → Sent → RateLimit → List (ℕ × Bool)
set_rate kind s w t key rate = refusals kind s w t key (shared.rate_turns rate)

-- 8, 10, 11
abbrev pub sets : RoomKind → Settings → List ℕ → ℕ → Sent → RateLimit → RateLimitComparator → ℕ → HistoryUpdateMode → List (ℕ × Bool)
sets kind s w t key rate comparator count mode =
    refusals kind s w t key (shared.set_turns kind s (none_left w key.caller) t rate comparator count mode (held_in w key))

-- 1 to 4, then 5 of the lengths and whose the slots are alone, 6, 15 and 16
abbrev pub clears : Settings → List ℕ → ℕ → Caller → List (ℕ × Bool)
clears s w t who = faults s ++ Clear.unclear w t who

-- 1 to 4, then 5 of the lengths and every slot in use, 6, 15 and 16; of one room, and of both
abbrev pub cleans : RoomKind → Settings → List ℕ → ℕ → Caller → List (ℕ × Bool)
cleans kind s w t who = faults s ++ Cleanup.misfits kind s w t who

abbrev pub cleans_both : Settings → List ℕ → List ℕ → ℕ → Caller → Caller → List (ℕ × Bool)
cleans_both s a b t c d = faults s ++ either_misfits s a b t c d

-- ---- every call

abbrev pub both_table : RoomKind → Settings → List ℕ → Caller → List ℕ → Caller → ℕ → List (ℕ × Bool)
both_table kind.Absolute s w who other whose t = cleans_both s w other t who whose
both_table kind.Suppressed s w who other whose t = cleans_both s other w t whose who

abbrev pub table_of : (k : RoomKind) → Settings → List ℕ → ℕ → Op k → List (ℕ × Bool)
table_of k s w t (Ops.inc key rate count) = absolute_inc s w t key rate count
table_of k s w t (Ops.is_allowed key) = plain kind.Absolute s w t key
table_of k s w t (Ops.get key) = plain kind.Absolute s w t key
table_of k s w t (Ops.draws key rate count draw) = suppressed_inc s w t key rate count draw
table_of k s w t (Ops.snapshot key) = plain kind.Suppressed s w t key
table_of k s w t (Ops.get_factor key) = suppressed_factor s w t key
table_of k s w t (Ops.set_rate key rate) = set_rate k s w t key rate
table_of k s w t (Ops.set key rate comparator count mode) = sets k s w t key rate comparator count mode
table_of k s w t (Ops.delete key) = plain k s w t key
table_of k s w t (Ops.cleanup who stale) = cleans k s w t who
table_of k s w t (Ops.cleanup_both who other whose stale) = both_table k s w who other whose t
table_of k s w t (Ops.clear who) = clears s w t who
