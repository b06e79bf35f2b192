-- What each call that is not turned away answers, in document 01's numbers and values: a line for each call, by the rules on what the key holds.
-- Assumes nothing.
use Rattle.std.specs.Prelude.{◌≡◌, Bool, cond, List, ℕ}
use Rattle.std.proofs.Common.{ap, ◌∙◌, eq-eqb}
use Rattle.answers.specs.Rows.{row, decision_row, total_row, snapshot_row, factor_row, old_rate_row, delete_row, set_row, done_row}
use Rattle.answers.specs.declared.RateLimitDecision.TheVariants as decision
use Rattle.common.specs.Refusals.{first, refuse}
use Rattle.settings.specs.declared.Settings.{Settings}
use Rattle.parties.specs.declared.Caller.{Caller}
use Rattle.rules.specs.declared.RoomKind.{RoomKind}
use Rattle.rules.specs.declared.RoomKind.TheVariants.{Absolute, Suppressed}
use Rattle.judge.specs.Verdict.{Verdict, unless_refused}
use Rattle.calls.specs.Delete as Delete
use Rattle.calls.specs.Rate as Rate
use Rattle.calls.specs.Set as Set
use Rattle.cleanup.specs.Cleanup as Cleanup
use Rattle.absolute_verdicts.specs.Calls as OnAbsolute
use Rattle.suppressed_verdicts.specs.Calls as OnSuppressed
use Rattle.provider.specs.Provider as Provider
use Rattle.provider.specs.Laws.{both-by-table}
use Rattle.steps.specs.Ops.{Op, inc, is_allowed, get, draws, snapshot, get_factor, set_rate, set, delete, cleanup, cleanup_both, clear, cleaned_both, answer_row}
use Rattle.steps.specs.Table.{table_of, both_table}
use Rattle.promises.specs.Answers.{rule_row}

-- ---- and that they do

row_done : {A : Type 0} (row_of : A → List ℕ) (turned : ℕ → A) (n : ℕ) (w : List ℕ) (v : Verdict A) → n ≡ 0 →
    row_of (unless_refused turned n w v).answer ≡ row_of v.answer
unfolding unless_refused
row_done row_of turned n w v e = ap (λ (b : Bool). row_of (cond b v.answer (turned n))) (eq-eqb n 0 e)

both-done : (kind : RoomKind) (s : Settings) (w : List ℕ) (t : ℕ) (who : Caller) (other : List ℕ) (whose : Caller) (stale : ℕ) →
    first (both_table kind s w who other whose t) ≡ 0 → done_row (cleaned_both kind s w who other whose t stale).answer ≡ row 0 1 0 0 0
unfolding Provider.decided done_row
both-done Absolute s w t who other whose stale e = rw (both-by-table s w other t who whose ∙ e)
both-done Suppressed s w t who other whose stale e = rw (both-by-table s other w t whose who ∙ e)

pub answered : (kind : RoomKind) (s : Settings) (w : List ℕ) (t : ℕ) (op : Op kind) → first (table_of kind s w t op) ≡ 0 →
    answer_row kind s w t op ≡ rule_row kind s w t op
unfolding OnAbsolute.inc OnAbsolute.is_allowed OnAbsolute.get OnSuppressed.inc OnSuppressed.get OnSuppressed.get_factor Rate.set_rate_limit Set.set Delete.delete
    Cleanup.cleanup total_row snapshot_row factor_row done_row
answered kind s w t (inc key rate count) e = row_done decision_row decision.Refused _ w _ e
answered kind s w t (is_allowed key) e = row_done decision_row decision.Refused _ w _ e
answered kind s w t (get key) e = row_done total_row refuse _ w _ e
answered kind s w t (draws key rate count draw) e = row_done decision_row decision.Refused _ w _ e
answered kind s w t (snapshot key) e = row_done snapshot_row refuse _ w _ e
answered kind s w t (get_factor key) e = row_done factor_row refuse _ w _ e
answered kind s w t (set_rate key rate) e = row_done old_rate_row refuse _ w _ e
answered kind s w t (set key rate comparator count mode) e = row_done set_row refuse _ w _ e
answered kind s w t (delete key) e = row_done delete_row refuse _ w _ e
answered kind s w t (cleanup who stale) e = row_done done_row refuse _ w _ e
answered kind s w t (cleanup_both who other whose stale) e = both-done kind s w t who other whose stale e
answered kind s w t (clear who) e = row_done done_row refuse _ w _ e
