-- Each call's row of answers, of the number that its table gives and of what its key holds alone (`told-row`); and that a call that is turned away leaves every
-- word (`turned-words`).
-- Assumes nothing.
use Rattle.std.specs.Prelude.{true, List, ℕ, Ok}
use Rattle.answers.specs.Rows.{decision_row, total_row, snapshot_row, factor_row, old_rate_row, delete_row, set_row, done_row}
use Rattle.settings.specs.declared.Settings.{Settings}
use Rattle.ring.specs.Ring.{counts}
use Rattle.rules.specs.Held.{Held}
use Rattle.rules.specs.Both.{live_of, overdue_in}
use Rattle.rules.specs.Absolute as absolute
use Rattle.rules.specs.Suppressed as suppressed
use Rattle.rules.specs.Sets as sets
use Rattle.rules.specs.declared.RoomKind.{RoomKind}
use Rattle.steps.specs.Ops.{Op, inc, is_allowed, get, draws, snapshot, get_factor, set_rate, set, delete, cleanup, cleanup_both, clear}

-- what a call that is not turned away is answered, of what its key holds
abbrev pub row_for : (kind : RoomKind) → Settings → ℕ → Op kind → Held → List ℕ
row_for k s t (inc key rate c) h = decision_row (absolute.decided s t h)
row_for k s t (is_allowed key) h = decision_row (absolute.decided s t h)
row_for k s t (get key) h = total_row (Ok (counts (live_of s t h)))
row_for k s t (draws key rate c draw) h = decision_row (suppressed.outcome s t (suppressed.limit_for s rate h) c draw h).decision
row_for k s t (snapshot key) h = snapshot_row (Ok (suppressed.snapshot_of s t h (suppressed.asking s t true h).factor))
row_for k s t (get_factor key) h = factor_row (Ok (suppressed.asking s t (overdue_in s t h) h).factor)
row_for k s t (set_rate key rate) h = old_rate_row (Ok (sets.old_rate k s h))
row_for k s t (set key rate comparator count mode) h =
    set_row (Ok (sets.outcome s t (sets.still_for k s t rate comparator count mode h) comparator count h))
row_for k s t (delete key) h = delete_row (Ok (sets.deleted s t h))
row_for k s t (cleanup who stale) h = done_row (Ok tt)
row_for k s t (cleanup_both who other whose stale) h = done_row (Ok tt)
row_for k s t (clear who) h = done_row (Ok tt)
