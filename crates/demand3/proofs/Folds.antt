-- From an empty room, what holds of a key and its log (`Kept`) holds after every history that leaves the key to the limiter.
-- Assumes nothing.
use Rattle.std.specs.Prelude.{◌≡◌, refl, Bool, true, false, ◌&&◌, List, [], ◌∷◌, ℕ, ◌+◌, ◌-◌, ◌≤◌}
use Rattle.std.proofs.Common.{sym, ap, subst, ◌∙◌, true≢false, inl, inr}
use Rattle.base.specs.Decides.{not_so}
use Rattle.common.specs.Limits.{cut_word}
use Rattle.common.specs.Ranges.{and_no}
use Rattle.settings.specs.Clock.{window_ticks, join_ticks}
use Rattle.settings.specs.declared.Settings.{Settings}
use Rattle.common.specs.declared.units.RateLimit.{RateLimit}
use Rattle.keys.specs.declared.Key.{Key}
use Rattle.room.specs.Room.{last_of, empty}
use Rattle.frame.specs.Keys.{Bytes}
use Rattle.frame.specs.Whole.{empty-free, empty-distinct}
use Rattle.parties.specs.Parties.{Sent, key_for}
use Rattle.rules.specs.declared.RoomKind.TheVariants as kind
use Rattle.rules.specs.Held.{Held}
use Rattle.rules.specs.Sets.{still_for}
use Rattle.judge.specs.Held.{held_in}
use Rattle.suppressed_verdicts.specs.Calls as Calls
use Rattle.admissions.proofs.Good.{good_none}
use Rattle.admissions.specs.Log.{Entry, noted, in_span}
use Rattle.places.specs.Has.{free-has, has-or}
use Rattle.steps.proofs.Each.{step}
use Rattle.steps.specs.Leaves.{sent-holder}
use Rattle.steps.specs.Ops.{Op, draws, snapshot, get_factor, set_rate, set, delete, cleanup, cleanup_both, clear, Call, after, words, Keyed, touches}
use Rattle.steps.proofs.Table.{turned}
use Rattle.demand3.specs.History.{row_admits, admits_count, Same, Other, same_key, logged, admitted, IsKey, limit_word, hard_of}
use Rattle.demand3.proofs.History.{key-same, same-key}
use Rattle.demand3.specs.History.{Refused, Begins, Harmless, Spares, AllSpare}
use Rattle.demand3.proofs.Keys.{mark-same, same-for, same-is, same-held}
use Rattle.demand3.specs.Kept.{Kept}
use Rattle.demand3.specs.Steps.{Beside}
use Rattle.demand3.proofs.Steps.{beside-kept}
use Rattle.demand3.proofs.Owned.{get-own, factor-own, rate-own, set_own, delete-own}
use Rattle.demand3.proofs.Increments.{inc-own}

module _ (s : Settings) (le : join_ticks s ≤ window_ticks s) (key : Sent) (is : IsKey key) (rate : RateLimit) where
  abbrev Keeps : List ℕ → List Entry → Type 0
  Keeps w log = Kept s (key_for key) (limit_word s rate) w log

  pub empty-kept : (slots ring : ℕ) → Keeps (empty slots ring) []
  empty-kept slots ring = record {
    distinct = empty-distinct slots ring;
    limits = λ i h. absurd (free-has (empty-free slots ring i) h);
    good = λ i h. absurd (free-has (empty-free slots ring i) h);
    bare = λ f. good_none (window_ticks s) (join_ticks s) (cut_word (limit_word s rate)) le (last_of (empty slots ring));
  }

  module _ (w : List ℕ) (t : ℕ) (log : List Entry) (a : Keeps w log) where
    -- a call of the key itself, with whatever promises, or of another
    by_key : (v : List ℕ) (after : List Entry) (j : Sent) →
        (Same j key → IsKey j → Kept s (key_for j) (limit_word s rate) w log → Kept s (key_for j) (limit_word s rate) v after) → (Other j key → Keeps v after) →
        Keeps v after
    by_key v after j f g = go (same_key j key) refl
      where
        go : (z : Bool) → same_key j key ≡ z → Keeps v after
        go true e =
            let q = key-same j key e in
            subst (λ (k : Key). Kept s k (limit_word s rate) v after) (same-for j key q)
            (f q (same-is j key q is) (subst (λ (k : Key). Kept s k (limit_word s rate) w log) (sym (same-for j key q)) a))
        go false e = g (λ q. true≢false (sym (same-key j key q) ∙ e))

    known_same : (j : Sent) → Same j key → (held_in w key).known ≡ (held_in w j).known
    known_same j q = ap (λ (h : Held). h.known) (sym (same-held j key q w))

    -- a call that leaves the key alone
    beside : (op : Op kind.Suppressed) → Keyed op → Beside s key (touches op) → Keeps (after kind.Suppressed s w t op) log
    beside op by b = beside-kept s le (limit_word s rate) key is w t log a op _ b (step kind.Suppressed s w t op by)

    -- one that is turned away
    unlogged : (op : Op kind.Suppressed) → Refused s key rate w t op → logged s key w t op log ≡ log
    unlogged (draws j r c draw) n =
        let d = turned kind.Suppressed s w t (draws j r c draw) in
        let e : admits_count (Calls.inc s w t j r c draw).answer ≡ false = ap row_admits (d.given _ (d.only n)) in
        ap (λ (y : Bool). noted (same_key j key && y) t c log) e ∙ ap (λ (y : Bool). noted y t c log) (and_no (same_key j key))
    unlogged (snapshot j) n = refl
    unlogged (get_factor j) n = refl
    unlogged (set_rate j r) n = refl
    unlogged (set j r comparator count mode) n = refl
    unlogged (delete j) n = refl
    unlogged (cleanup who stale) n = refl
    unlogged (cleanup_both who absolute whose stale) n = refl
    unlogged (clear who) n = refl

    refused-kept : (op : Op kind.Suppressed) → Refused s key rate w t op → Keeps (after kind.Suppressed s w t op) (logged s key w t op log)
    refused-kept op n =
        subst (λ (v : List ℕ). Keeps v (logged s key w t op log)) (sym ((turned kind.Suppressed s w t op).stays n)) (subst (Keeps w) (sym (unlogged op n)) a)

    -- what is counted is noted of the key itself alone
    inc-noted : (j : Sent) (c : ℕ) (admits : Bool) → Same j key → noted admits t c log ≡ noted (same_key j key && admits) t c log
    inc-noted j c admits q = ap (λ (z : Bool). noted (z && admits) t c log) (sym (same-key j key q))

    inc-passed : (j : Sent) (c : ℕ) (admits : Bool) → Other j key → log ≡ noted (same_key j key && admits) t c log
    inc-passed j c admits n = ap (λ (z : Bool). noted (z && admits) t c log) (sym (not_so (same_key j key) (λ e. n (key-same j key e))))

    inc-kept : (j : Sent) (r : RateLimit) (c draw : ℕ) → Bytes j.bytes → (Same j key → Begins s key rate w r) →
        Keeps (Calls.inc s w t j r c draw).words (noted (same_key j key && admits_count (Calls.inc s w t j r c draw).answer) t c log)
    inc-kept j r c draw y p =
        let v = Calls.inc s w t j r c draw in
        by_key v.words (noted (same_key j key && admits_count v.answer) t c log) j
        (λ q i k.
        subst (λ (l : List Entry). Kept s (key_for j) (limit_word s rate) v.words l) (inc-noted j c (admits_count v.answer) q)
        (inc-own s le (limit_word s rate) j i w t log k r (λ e. p q (known_same j q ∙ e)) c draw))
        (λ n. subst (Keeps v.words) (inc-passed j c (admits_count v.answer) n) (beside (draws j r c draw) y (y, n)))

    harmless-kept : (op : Op kind.Suppressed) → Harmless s key rate w t op → Keeps (after kind.Suppressed s w t op) (logged s key w t op log)
    harmless-kept (draws j r c draw) p = inc-kept j r c draw p.0 p.1
    harmless-kept (snapshot j) p =
        by_key _ log j (λ q i k. get-own s le (limit_word s rate) j i w t log k) (λ n. beside (snapshot j) tt (p, n))
    harmless-kept (get_factor j) p =
        by_key _ log j (λ q i k. factor-own s le (limit_word s rate) j i w t log k) (λ n. beside (get_factor j) p (p, n))
    harmless-kept (set_rate j r) p =
        by_key _ log j (λ q i k. rate-own s le (limit_word s rate) j i w t log k r (λ e. p.1 q (known_same j q ∙ e)))
        (λ n. beside (set_rate j r) tt (p.0, n))
    harmless-kept (set j r comparator count mode) p =
        by_key _ log j
        (λ q i k.
        set_own s le (limit_word s rate) j i w t log k r comparator count mode
        (subst (λ (h : Held). still_for kind.Suppressed s t r comparator count mode h ≡ true) (sym (same-held j key q w)) (p.1 q)))
        (λ n. beside (set j r comparator count mode) p.0 (p.0, n))
    harmless-kept (delete j) p =
        by_key _ log j (λ q i k. delete-own s le (limit_word s rate) j i w t log k (sym (known_same j q) ∙ p.1 q)) (λ n. beside (delete j) tt (p.0, n))
    harmless-kept (cleanup who stale) p = beside (cleanup who stale) tt p
    harmless-kept (cleanup_both who absolute whose stale) p = beside (cleanup_both who absolute whose stale) tt p
    harmless-kept (clear who) p =
        beside (clear who) tt (λ e. p (sym (mark-same key.caller.party who.party is.party (sym (sent-holder key) ∙ e))))

    pub step_kept : (op : Op kind.Suppressed) → Spares s key rate w t op → Keeps (after kind.Suppressed s w t op) (logged s key w t op log)
    step_kept op (inl n) = refused-kept op n
    step_kept op (inr p) = harmless-kept op p

  pub all-kept : (w : List ℕ) → Keeps w [] → (calls : List (Call kind.Suppressed)) → AllSpare s key rate w calls →
      Keeps (words kind.Suppressed s w calls) (admitted s key w calls)
  all-kept w a [] p = a
  all-kept w a (c ∷ cs) p = step_kept (words kind.Suppressed s w cs) c.reading (admitted s key w cs) (all-kept w a cs p.1) c.op p.0

  pub kept-ceiling : (w : List ℕ) (log : List Entry) → Keeps w log → (from : ℕ) →
      in_span from (from + (window_ticks s - join_ticks s)) log ≤ hard_of s rate
  kept-ceiling w log a from = has-or w (key_for key) a.distinct (λ i h. (a.good i h).ceiling from) (λ f. (a.bare f).ceiling from)
