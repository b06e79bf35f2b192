-- Every call's table of refusals, and that it answers by it (demand 1), said once for all calls (`turned`): a number that is given is the first, in the
-- order of judging, whose condition holds, exactly then, and the words are then as they were.
-- Assumes nothing.
use Rattle.std.specs.Prelude.{◌≡◌, refl, Bool, true, false, cond, List, [], ◌∷◌, ◌≢◌, ℕ, Ok, Option}
use Rattle.std.proofs.Common.{ap, arith, eq-eqb, ne_eqb}
use Rattle.answers.specs.Rows.{decision_row, total_row, snapshot_row, factor_row, old_rate_row, delete_row, set_row, done_row, number_of}
use Rattle.common.specs.Refusals.{first, refuse}
use Rattle.common.specs.Limits.{cut_word, soft_word}
use Rattle.settings.specs.Settings.{factor_in, faults}
use Rattle.settings.specs.Clock.{ticks_in}
use Rattle.answers.specs.declared.RateLimitDecision.{RateLimitDecision}
use Rattle.answers.specs.declared.RateLimitDecision.TheVariants as decision
use Rattle.settings.specs.declared.Settings.{Settings}
use Rattle.common.specs.declared.units.RateLimit.{RateLimit}
use Rattle.common.specs.declared.units.WindowSize.{WindowSize}
use Rattle.rules.specs.declared.RoomKind.{RoomKind}
use Rattle.rules.specs.declared.RoomKind.TheVariants as kind
use Rattle.clearing.specs.Clear as Clear
use Rattle.calls.specs.Delete as Delete
use Rattle.calls.specs.Rate as Rate
use Rattle.calls.specs.Set as Set
use Rattle.cleanup.specs.Cleanup as Cleanup
use Rattle.absolute_verdicts.specs.Calls as Absolute
use Rattle.ring.specs.declared.Bucket.{Bucket}
use Rattle.rules.specs.Held.{Held}
use Rattle.rules.specs.Both.{overdue_in, looked_of}
use Rattle.rules.specs.Absolute as absolute
use Rattle.rules.specs.Absolute.{pick_decision}
use Rattle.rules.specs.Suppressed as suppressed
use Rattle.rules.specs.Sets as shared
use Rattle.parties.specs.declared.Caller.{Caller}
use Rattle.parties.specs.Parties.{Sent, turns}
use Rattle.judge.specs.Held.{held_in}
use Rattle.judge.specs.Judge.{misfits}
use Rattle.suppressed_verdicts.specs.Calls as Suppressed
use Rattle.rules.specs.declared.Asked.{Asked}
use Rattle.rules.specs.declared.Reach.{Reach}
use Rattle.rules.specs.declared.Reach.TheVariants.{Hard, Soft, Over, Between}
use Rattle.provider.specs.Provider as Provider
use Rattle.provider.specs.Laws.{both-by-table}
use Rattle.steps.specs.Order.{met, TurnedBy, InOrder}
use Rattle.steps.proofs.Order.{turned_by, judge-turned, not-given}
use Rattle.steps.specs.Ops as Ops
use Rattle.steps.specs.Ops.{Op, cleaned_both, after, answer_row, answer_number}
use Rattle.steps.specs.Table.{absolute_inc, plain, suppressed_inc, suppressed_factor, set_rate, sets, clears, cleans, cleans_both, both_table, table_of}

-- ---- answers that are no refusal have number 0

either-0 : {A : Type 0} (row_of : A → List ℕ) (b : Bool) (x y : A) → number_of (row_of x) ≡ 0 → number_of (row_of y) ≡ 0 → number_of (row_of (cond b x y)) ≡ 0
either-0 row_of true x y p q = p
either-0 row_of false x y p q = q

picked-0 : (b : Bool) (x y : RateLimitDecision) → number_of (decision_row x) ≡ 0 → number_of (decision_row y) ≡ 0 → number_of (decision_row (pick_decision b x y)) ≡ 0
picked-0 true x y p q = p
picked-0 false x y p q = q

rejection-0 : (k : ℕ) (window : WindowSize) (t : ℕ) (xs : List Bucket) → number_of (decision_row (absolute.rejection k window t xs)) ≡ 0
unfolding decision_row
rejection-0 k window t [] = refl
rejection-0 k window t (x ∷ xs) = refl

decided-0 : (s : Settings) (t : ℕ) (h : Held) → number_of (decision_row (absolute.decided s t h)) ≡ 0
unfolding absolute.decided decision_row
decided-0 s t h = picked-0 (absolute.allowed s t h) _ _ refl (rejection-0 (ticks_in s) s.window_size t (looked_of s t h))

reached-0 : (r : Reach) (a : Asked) (t count draw : ℕ) → number_of (decision_row (suppressed.outcome_of r a t count draw).decision) ≡ 0
unfolding decision_row suppressed.drawn
reached-0 Hard a t count draw = refl
reached-0 Soft a t count draw = refl
reached-0 Over a t count draw = refl
reached-0 Between a t count draw = refl

outcome-0 : (s : Settings) (t limit count draw : ℕ) (h : Held) → number_of (decision_row (suppressed.outcome s t limit count draw h).decision) ≡ 0
unfolding suppressed.outcome
outcome-0 s t limit count draw h =
    reached-0 (suppressed.reach_of (suppressed.forecast (looked_of s t h) count) (soft_word (factor_in s) limit) (cut_word limit))
    (suppressed.asked s t (overdue_in s t h) limit h) t count draw

old-0 : (k : RoomKind) (s : Settings) (h : Held) → number_of (old_rate_row (Ok (shared.old_rate k s h))) ≡ 0
unfolding shared.old_rate old_rate_row
old-0 k s h = either-0 (λ (y : Option RateLimit). old_rate_row (Ok y)) h.known _ _ refl refl

deleted-0 : (s : Settings) (t : ℕ) (h : Held) → number_of (delete_row (Ok (shared.deleted s t h))) ≡ 0
unfolding shared.deleted delete_row
deleted-0 s t h = either-0 (λ (y : Option ℕ). delete_row (Ok y)) h.known _ _ refl (either-0 (λ (y : Option ℕ). delete_row (Ok y)) h.cached _ _ refl refl)

-- ---- both rooms

pub both-turned : (s : Settings) (a b : List ℕ) (t : ℕ) (c d : Caller) (stale : ℕ) →
    TurnedBy {B = List ℕ × List ℕ} (cleans_both s a b t c d) (done_row (Provider.cleanup s a b t c d stale).answer) (a, b)
    ((Provider.cleanup s a b t c d stale).absolute, (Provider.cleanup s a b t c d stale).suppressed)
unfolding Provider.decided done_row faults
both-turned s a b t c d stale =
    let e : Provider.refusal_of_both s a b t c d ≡ first (cleans_both s a b t c d) = both-by-table s a b t c d in
    turned_by (cleans_both s a b t c d) _ _ _ (omega arith)
    (λ z. rw (e, ne_eqb (first (cleans_both s a b t c d)) 0 z))
    (λ z. rw (e, eq-eqb (first (cleans_both s a b t c d)) 0 z))
    (λ z. rw (e, ne_eqb (first (cleans_both s a b t c d)) 0 z))

-- ---- the proof

-- the numbers of a table stand in the order of judging
pub in-order : (s : Settings) (w : List ℕ) (t : ℕ) (key : Sent) (rate : RateLimit) (count draw : ℕ) → InOrder 0 (suppressed_inc s w t key rate count draw)
unfolding faults misfits turns
in-order s w t key rate count draw = omega arith

-- ---- every call

each-turned : (k : RoomKind) (s : Settings) (w : List ℕ) (t : ℕ) (who : Caller) (other : List ℕ) (whose : Caller) (stale : ℕ) →
    TurnedBy (both_table k s w who other whose t) (done_row (cleaned_both k s w who other whose t stale).answer) w
    (cleaned_both k s w who other whose t stale).words
each-turned kind.Absolute s w t who other whose stale =
    let d = both-turned s w other t who whose stale in
    record { given = d.given; only = d.only; numbered = d.numbered; stays = λ z. ap (λ (p : List ℕ × List ℕ). p.0) (d.stays z) }
each-turned kind.Suppressed s w t who other whose stale =
    let d = both-turned s other w t whose who stale in
    record { given = d.given; only = d.only; numbered = d.numbered; stays = λ z. ap (λ (p : List ℕ × List ℕ). p.1) (d.stays z) }

pub turned : (k : RoomKind) (s : Settings) (w : List ℕ) (t : ℕ) (op : Op k) → TurnedBy (table_of k s w t op) (answer_row k s w t op) w (after k s w t op)
unfolding faults misfits turns Clear.unclear Cleanup.misfits Cleanup.cleanup shared.rate_turns Absolute.inc Absolute.is_allowed Absolute.get Suppressed.inc
    Suppressed.get Suppressed.get_factor Rate.set_rate_limit Set.set Delete.delete decision_row total_row snapshot_row factor_row old_rate_row delete_row set_row
    done_row
turned k s w t (Ops.inc key rate count) =
    judge-turned decision_row decision.Refused (absolute_inc s w t key rate count) _ w _ refl (λ n. refl) (omega arith)
    (decided-0 s t (held_in w key))
turned k s w t (Ops.is_allowed key) =
    judge-turned decision_row decision.Refused (plain kind.Absolute s w t key) _ w _ refl (λ n. refl) (omega arith)
    (decided-0 s t (held_in w key))
turned k s w t (Ops.get key) = judge-turned total_row refuse (plain kind.Absolute s w t key) _ w _ refl (λ n. refl) (omega arith) refl
turned k s w t (Ops.draws key rate count draw) =
    judge-turned decision_row decision.Refused (suppressed_inc s w t key rate count draw) _ w _ refl (λ n. refl) (in-order s w t key rate count draw)
    (outcome-0 s t (suppressed.limit_for s rate (held_in w key)) count draw (held_in w key))
turned k s w t (Ops.snapshot key) = judge-turned snapshot_row refuse (plain kind.Suppressed s w t key) _ w _ refl (λ n. refl) (omega arith) refl
turned k s w t (Ops.get_factor key) = judge-turned factor_row refuse (suppressed_factor s w t key) _ w _ refl (λ n. refl) (omega arith) refl
turned k s w t (Ops.set_rate key rate) =
    judge-turned old_rate_row refuse (set_rate k s w t key rate) _ w _ refl (λ n. refl) (omega arith) (old-0 k s (held_in w key))
turned k s w t (Ops.set key rate comparator count mode) =
    judge-turned set_row refuse (sets k s w t key rate comparator count mode) _ w _ refl (λ n. refl) (omega arith) refl
turned k s w t (Ops.delete key) =
    judge-turned delete_row refuse (plain k s w t key) _ w _ refl (λ n. refl) (omega arith) (deleted-0 s t (held_in w key))
turned k s w t (Ops.cleanup who stale) = judge-turned done_row refuse (cleans k s w t who) _ w _ refl (λ n. refl) (omega arith) refl
turned k s w t (Ops.cleanup_both who other whose stale) = each-turned k s w t who other whose stale
turned k s w t (Ops.clear who) = judge-turned done_row refuse (clears s w t who) _ w _ refl (λ n. refl) (omega arith) refl

pub unmet : (k : RoomKind) (s : Settings) (w : List ℕ) (t : ℕ) (op : Op k) (n : ℕ) → n ≢ 0 → met (table_of k s w t op) n ≡ false → answer_number k s w t op ≢ n
unmet k s w t op = not-given (table_of k s w t op) (answer_row k s w t op) w (after k s w t op) (turned k s w t op)
