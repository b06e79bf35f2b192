-- What each call that is not turned away answers, in document 01's numbers and values: a line for each call, by the rules on what the key holds.
-- Assumes nothing.
use Rattle.std.specs.Prelude.{true, List, ℕ, Ok}
use Rattle.answers.specs.Rows.{row, bits, decision_row, old_rate_row, delete_row, set_row}
use Rattle.settings.specs.declared.Settings.{Settings}
use Rattle.ring.specs.Ring.{counts}
use Rattle.rules.specs.declared.RoomKind.{RoomKind}
use Rattle.rules.specs.Both.{live_of, overdue_in}
use Rattle.rules.specs.Absolute as absolute
use Rattle.rules.specs.Suppressed as suppressed
use Rattle.rules.specs.Sets as rules
use Rattle.judge.specs.Held.{held_in}
use Rattle.steps.specs.Ops.{Op, inc, is_allowed, get, draws, snapshot, get_factor, set_rate, set, delete, cleanup, cleanup_both, clear}

abbrev pub rule_row : (kind : RoomKind) → Settings → List ℕ → ℕ → Op kind → List ℕ
rule_row kind s w t (inc key rate count) = decision_row (absolute.decided s t (held_in w key))
rule_row kind s w t (is_allowed key) = decision_row (absolute.decided s t (held_in w key))
rule_row kind s w t (get key) = row 0 1 (counts (live_of s t (held_in w key))) 0 0
rule_row kind s w t (draws key rate count draw) =
    decision_row (suppressed.outcome s t (suppressed.limit_for s rate (held_in w key)) count draw (held_in w key)).decision
rule_row kind s w t (snapshot key) =
    let x = suppressed.snapshot_of s t (held_in w key) (suppressed.asking s t true (held_in w key)).factor in
    row 0 1 x.total x.total_declined (bits x.suppression_factor)
rule_row kind s w t (get_factor key) = row 0 1 (bits (suppressed.asking s t (overdue_in s t (held_in w key)) (held_in w key)).factor) 0 0
rule_row kind s w t (set_rate key rate) = old_rate_row (Ok (rules.old_rate kind s (held_in w key)))
rule_row kind s w t (set key rate comparator count mode) =
    set_row (Ok (rules.outcome s t (rules.still_for kind s t rate comparator count mode (held_in w key)) comparator count (held_in w key)))
rule_row kind s w t (delete key) = delete_row (Ok (rules.deleted s t (held_in w key)))
rule_row kind s w t (cleanup who stale) = row 0 1 0 0 0
rule_row kind s w t (cleanup_both who other whose stale) = row 0 1 0 0 0
rule_row kind s w t (clear who) = row 0 1 0 0 0
