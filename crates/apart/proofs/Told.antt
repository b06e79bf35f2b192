-- Each call's row of answers, of the number that its table gives and of what its key holds alone (`told-row`); and that a call that is turned away leaves every
-- word (`turned-words`).
-- Assumes nothing.
use Rattle.std.specs.Prelude.{◌≡◌, refl, Bool, true, false, cond, List, ◌≢◌, ℕ, eqb, Ok}
use Rattle.std.proofs.Common.{sym, ap, ◌∙◌, ne_eqb}
use Rattle.answers.specs.Rows.{decision_row, total_row, snapshot_row, factor_row, old_rate_row, delete_row, set_row, done_row, refused_row}
use Rattle.answers.specs.declared.RateLimitDecision.TheVariants as decision
use Rattle.common.specs.Refusals.{first, refuse}
use Rattle.settings.specs.declared.Settings.{Settings}
use Rattle.ring.specs.Ring.{counts}
use Rattle.rules.specs.Both.{live_of, overdue_in}
use Rattle.rules.specs.Absolute as absolute
use Rattle.rules.specs.Suppressed as suppressed
use Rattle.rules.specs.Sets as sets
use Rattle.rules.specs.declared.RoomKind.{RoomKind}
use Rattle.rules.specs.declared.RoomKind.TheVariants as kind
use Rattle.parties.specs.declared.Caller.{Caller}
use Rattle.judge.specs.Held.{held_in}
use Rattle.judge.specs.Verdict.{unless_refused}
use Rattle.calls.specs.Delete as Delete
use Rattle.calls.specs.Rate as Rate
use Rattle.calls.specs.Set as Set
use Rattle.cleanup.specs.Cleanup as Cleanup
use Rattle.absolute_verdicts.specs.Calls as OnAbsolute
use Rattle.suppressed_verdicts.specs.Calls as OnSuppressed
use Rattle.provider.specs.Provider as Provider
use Rattle.provider.specs.Laws.{both-by-table}
use Rattle.steps.specs.Ops.{Op, inc, is_allowed, get, draws, snapshot, get_factor, set_rate, set, delete, cleanup, cleanup_both, clear, after, answer_row}
use Rattle.steps.specs.Table.{table_of}
use Rattle.apart.specs.One.{key_in}
use Rattle.apart.specs.Told.{row_for}

by_number : {A : Type 0} (row : A → List ℕ) (turned : ℕ → A) (n : ℕ) (x : A) → row (turned n) ≡ refused_row n →
    row (cond (eqb n 0) x (turned n)) ≡ cond (eqb n 0) (row x) (refused_row n)
by_number row turned n x e = go (eqb n 0)
  where
    go : (b : Bool) → row (cond b x (turned n)) ≡ cond b (row x) (refused_row n)
    go true = refl
    go false = e

both-row : (n m : ℕ) → n ≡ m → done_row (cond (eqb n 0) (Ok tt) (refuse n)) ≡ cond (eqb m 0) (done_row (Ok tt)) (refused_row m)
unfolding done_row
both-row n m e = by_number done_row refuse n (Ok tt) refl ∙ ap (λ (j : ℕ). cond (eqb j 0) (done_row (Ok tt)) (refused_row j)) e

each_row : (k : RoomKind) (s : Settings) (w : List ℕ) (t : ℕ) (who : Caller) (other : List ℕ) (whose : Caller) (stale : ℕ) →
    answer_row k s w t (cleanup_both who other whose stale) ≡
    cond (eqb (first (table_of k s w t (cleanup_both who other whose stale))) 0) (done_row (Ok tt))
    (refused_row (first (table_of k s w t (cleanup_both who other whose stale))))
unfolding Provider.decided
each_row kind.Absolute s w t who other whose stale = both-row _ _ (both-by-table s w other t who whose)
each_row kind.Suppressed s w t who other whose stale = both-row _ _ (both-by-table s other w t whose who)

pub told-row : (k : RoomKind) (s : Settings) (w : List ℕ) (t : ℕ) (op : Op k) →
    answer_row k s w t op ≡ cond (eqb (first (table_of k s w t op)) 0) (row_for k s t op (held_in w (key_in op))) (refused_row (first (table_of k s w t op)))
unfolding unless_refused Cleanup.cleanup OnAbsolute.inc OnAbsolute.is_allowed OnAbsolute.get OnSuppressed.inc OnSuppressed.get OnSuppressed.get_factor
    Rate.set_rate_limit Set.set Delete.delete decision_row total_row snapshot_row factor_row old_rate_row delete_row set_row done_row
told-row k s w t (inc key rate c) =
    by_number decision_row decision.Refused (first (table_of k s w t (inc key rate c)))
    (absolute.decided s t (held_in w key)) refl
told-row k s w t (is_allowed key) =
    by_number decision_row decision.Refused (first (table_of k s w t (is_allowed key)))
    (absolute.decided s t (held_in w key)) refl
told-row k s w t (get key) =
    by_number total_row refuse (first (table_of k s w t (get key)))
    (Ok (counts (live_of s t (held_in w key)))) refl
told-row k s w t (draws key rate c draw) =
    by_number decision_row decision.Refused (first (table_of k s w t (draws key rate c draw)))
    (suppressed.outcome s t (suppressed.limit_for s rate (held_in w key)) c draw (held_in w key)).decision refl
told-row k s w t (snapshot key) =
    by_number snapshot_row refuse (first (table_of k s w t (snapshot key)))
    (Ok (suppressed.snapshot_of s t (held_in w key) (suppressed.asking s t true (held_in w key)).factor)) refl
told-row k s w t (get_factor key) =
    by_number factor_row refuse (first (table_of k s w t (get_factor key)))
    (Ok (suppressed.asking s t (overdue_in s t (held_in w key)) (held_in w key)).factor) refl
told-row k s w t (set_rate key rate) =
    by_number old_rate_row refuse (first (table_of k s w t (set_rate key rate)))
    (Ok (sets.old_rate k s (held_in w key))) refl
told-row k s w t (set key rate comparator count mode) =
    by_number set_row refuse (first (table_of k s w t (set key rate comparator count mode)))
    (Ok (sets.outcome s t (sets.still_for k s t rate comparator count mode (held_in w key)) comparator count (held_in w key))) refl
told-row k s w t (delete key) =
    by_number delete_row refuse (first (table_of k s w t (delete key)))
    (Ok (sets.deleted s t (held_in w key))) refl
told-row k s w t (cleanup who stale) =
    by_number done_row refuse (first (table_of k s w t (cleanup who stale)))
    (Ok tt) refl
told-row k s w t (cleanup_both who other whose stale) = each_row k s w t who other whose stale
told-row k s w t (clear who) =
    by_number done_row refuse (first (table_of k s w t (clear who)))
    (Ok tt) refl

each-words : (k : RoomKind) (s : Settings) (w : List ℕ) (t : ℕ) (who : Caller) (other : List ℕ) (whose : Caller) (stale : ℕ) →
    first (table_of k s w t (cleanup_both who other whose stale)) ≢ 0 → after k s w t (cleanup_both who other whose stale) ≡ w
unfolding Provider.decided
each-words kind.Absolute s w t who other whose stale z = rw (ne_eqb _ 0 (λ e. z (sym (both-by-table s w other t who whose) ∙ e)))
each-words kind.Suppressed s w t who other whose stale z = rw (ne_eqb _ 0 (λ e. z (sym (both-by-table s other w t whose who) ∙ e)))

pub turned-words : (k : RoomKind) (s : Settings) (w : List ℕ) (t : ℕ) (op : Op k) → first (table_of k s w t op) ≢ 0 → after k s w t op ≡ w
unfolding unless_refused Cleanup.cleanup OnAbsolute.inc OnAbsolute.is_allowed OnAbsolute.get OnSuppressed.inc OnSuppressed.get OnSuppressed.get_factor
    Rate.set_rate_limit Set.set Delete.delete
turned-words k s w t (inc key rate c) z = rw (ne_eqb _ 0 z)
turned-words k s w t (is_allowed key) z = rw (ne_eqb _ 0 z)
turned-words k s w t (get key) z = rw (ne_eqb _ 0 z)
turned-words k s w t (draws key rate c draw) z = rw (ne_eqb _ 0 z)
turned-words k s w t (snapshot key) z = rw (ne_eqb _ 0 z)
turned-words k s w t (get_factor key) z = rw (ne_eqb _ 0 z)
turned-words k s w t (set_rate key rate) z = rw (ne_eqb _ 0 z)
turned-words k s w t (set key rate comparator count mode) z = rw (ne_eqb _ 0 z)
turned-words k s w t (delete key) z = rw (ne_eqb _ 0 z)
turned-words k s w t (cleanup who stale) z = rw (ne_eqb _ 0 z)
turned-words k s w t (cleanup_both who other whose stale) z = each-words k s w t who other whose stale z
turned-words k s w t (clear who) z = rw (ne_eqb _ 0 z)
