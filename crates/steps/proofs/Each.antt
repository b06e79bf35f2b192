-- Every call of either limiter is a step (`step`).
-- Assumes nothing.
use Rattle.std.specs.Prelude.{◌≡◌, Bool, not, ◌&&◌, cond, ℕ, ◌<◌}
use Rattle.std.proofs.Math.Path.{refl}
use Rattle.std.proofs.Common.{sym, ap, subst, ◌∙◌, arith, eqb-true, ltb-false}
use Rattle.std.proofs.Math.Bool.{true, false}
use mathlib.Core.List.{List, []}
use Rattle.std.proofs.Math.Decide.{ℕ_discrete}
use Rattle.std.proofs.Math.Dec.{eqb}
use Rattle.std.proofs.lemmas.Bool.{not-false}
use Rattle.common.specs.Ranges.{rate_ok}
use Rattle.common.specs.Refusals.{first, all-false, refuse}
use Rattle.settings.specs.Clock.{ticks_in, window_ticks}
use Rattle.common.specs.declared.comparator.RateLimitComparator.{RateLimitComparator}
use Rattle.answers.specs.declared.HistoryUpdateMode.{HistoryUpdateMode}
use Rattle.settings.specs.declared.Settings.{Settings}
use Rattle.common.specs.declared.units.RateLimit.{RateLimit}
use Rattle.answers.specs.declared.RateLimitDecision.TheVariants as decisions
use Rattle.layout.specs.Layout.{most_total}
use Rattle.room.specs.Room.{slots_of, ring_of, with_reading, cleared as cleared_words}
use Rattle.frame.specs.Keys.{Bytes}
use Rattle.parties.specs.declared.Caller.{Caller}
use Rattle.parties.specs.Parties.{Sent, mark_of, none_left}
use Rattle.change.specs.declared.Change.{Change}
use Rattle.rules.specs.declared.RoomKind.{RoomKind}
use Rattle.rules.specs.declared.RoomKind.TheVariants as kind
use Rattle.opened.specs.declared.Slot.{Slot}
use Rattle.judge.proofs.Laws.{passed, free-there}
use Rattle.judge.specs.Verdict.{Verdict, call, unless_refused}
use Rattle.judge.proofs.Verdict.{call-either}
use Rattle.clearing.specs.Clear as Clear
use Rattle.calls.specs.Delete as Delete
use Rattle.calls.specs.Rate as Rate
use Rattle.calls.specs.Set as Set
use Rattle.cleanup.specs.Cleanup as Cleanup
use Rattle.stale.specs.Uses as Uses
use Rattle.cleanup.specs.Laws as Cleans
use Rattle.absolute_verdicts.specs.Calls as OnAbsolute
use Rattle.rules.specs.declared.Asked.{Asked}
use Rattle.rules.specs.declared.Outcome.{Outcome}
use Rattle.suppressed_edits.specs.Edits.{get_change, factor_change, inc_change}
use Rattle.suppressed_refusals.specs.Refusals.{inc_late}
use Rattle.rules.specs.Held.{Held, lacks_slot}
use Rattle.rules.specs.Both.{limit_in, overdue_in}
use Rattle.rules.specs.Absolute as absolute
use Rattle.rules.specs.Sets as sets
use Rattle.rules.specs.Suppressed as rules
use Rattle.judge.specs.Held.{held_in}
use Rattle.judge.specs.Judge.{early, Passed, slot_in, looked_in}
use Rattle.plan.specs.Plan.{place_of, lacks_at}
use Rattle.plan.specs.Seen as slots
use Rattle.plan.specs.Seen.{Seen, lacks-is}
use Rattle.absolute_opened.specs.Opened as edits
use Rattle.shared_opened.specs.Opened.{deleting, limiting}
use Rattle.sets_opened.specs.Sets.{setting}
use Rattle.calls.specs.Applies.{delete-applies, rate-applies, set-applies}
use Rattle.calls.specs.Seen.{idle-is}
use Rattle.absolute_verdicts.specs.Laws.{get-applies, ask-applies, inc-applies, may-unknown}
use Rattle.absolute_verdicts.specs.Opened.{may_in, out_in}
use Rattle.absolute_verdicts.specs.Seen.{own_is, makes-is}
use Rattle.forecast_opened.specs.Forecast.{forecast_at}
use Rattle.suppressed_verdicts.specs.Opened.{limit_at, inc_outcome}
use Rattle.suppressed_verdicts.specs.Seen as seen
use Rattle.suppressed_verdicts.specs.Seen.{second_is, second-looked, asking-is, limit_is, decides, late_is}
use Rattle.suppressed_verdicts.specs.Standing.{stood-looked, place_inside}
use Rattle.suppressed_verdicts.specs.Calls as OnSuppressed
use Rattle.suppressed_verdicts.specs.Laws as suppressed
use Rattle.provider.specs.Provider as Provider
use Rattle.provider.specs.Laws.{both-passed}
use Rattle.leaves.proofs.Cleanup.{done-words, refused-words}
use Rattle.leaves.specs.Leaves.{found_ok, looked-ok, decision-ok}
use Rattle.leaves.specs.Unit.{CachingOk}
use Rattle.steps.specs.Ops.{Op, inc, is_allowed, get, draws, snapshot, get_factor, set_rate, set, delete, cleanup, cleanup_both, clear, cleaned_both}
use Rattle.steps.specs.Ops.{after, Keyed}
use Rattle.steps.proofs.Rights.{delete-stores, rate-stores, set-stores, get-stores, ask-stores, inc-stores, snapshot-stores, factor-stores, draws-stores}
use Rattle.steps.specs.Places.{delete-moves, rate-moves, set-moves, get-moves, ask-moves, inc-moves, snapshot-moves, factor-moves, draws-moves}
use Rattle.steps.specs.Moves.{Does}
use Rattle.steps.specs.Step.{Step, refused, changed, cleaned, cleared}

-- a call with a key: refused, or what it does
call_step : {A : Type 0} (turned : ℕ → A) (k : RoomKind) (s : Settings) (w : List ℕ) (t : ℕ) (op : Op k) (key : Sent) (own : List (ℕ × Bool))
    (v : Verdict A) → (early k s w t key ≡ 0 → first own ≡ 0 → Step k s w t op v.words) → Step k s w t op (call turned k s w t key own v).words
call_step turned k s w t op key own v f = call-either turned k s w t key own v (λ y. Step k s w t op y.words) (λ n z. refused refl) f

-- `..-does`: what a call does that passes refusals 1 to 7, 15 and 16 and its own; `..-step`: so it is a step

module _ (s : Settings) (w : List ℕ) (t : ℕ) (key : Sent) where
  abbrev x : Slot
  x = slot_in s w t key

  abbrev h : Held
  h = held_in w key

  -- ---- absolute

  module _ (rate : RateLimit) (c : ℕ) where
    abbrev counts : Change
    counts = edits.inc_change (limit_in kind.Absolute s rate) c (absolute.allowed s t (held_in w key)) (absolute.out_for s (ring_of w) t c (held_in w key))
        (slot_in s w t key) (looked_in s w t key)

    abbrev own_inc : List (ℕ × Bool)
    own_inc = absolute.inc_turns s (ring_of w) (none_left w key.caller) t rate c (held_in w key)

    pub inc-does : Bytes key.bytes → early kind.Absolute s w t key ≡ 0 → first own_inc ≡ 0 → Does kind.Absolute s w t key (place_of w x) counts
    inc-does by e f =
        let p = passed kind.Absolute s w t key e in
        let l = limit_in kind.Absolute s rate in
        let may = may_in s t x in
        let out = out_in s w t c x in
        let a = inc-applies s w t key p l c (rate_ok rate.0) may out (may-unknown s w t key p) (ap first (own_is s w t key p rate c) ∙ f) in
        subst (λ (u : Change). Does kind.Absolute s w t key (place_of w x) u) (makes-is s w t key p rate c)
        (record {
          passed = p;
          applies = a;
          moves = inc-moves s w t key p by l c may out a;
          stores = inc-stores s w t key p rate c may out (not-false _ (all-false own_inc (omega arith) f).0);
        })

    inc-step : Bytes key.bytes → Step kind.Absolute s w t (inc key rate c) (OnAbsolute.inc s w t key rate c).words
    unfolding OnAbsolute.inc
    inc-step by =
        call_step decisions.Refused kind.Absolute s w t (inc key rate c) key own_inc _ (λ e f. changed key refl (place_of w x) counts (inc-does by e f) refl)

  abbrev asks_again : Bool
  asks_again = absolute.tests_again (absolute.whole_limit (held_in w key)) (held_in w key).buckets

  pub ask-does : early kind.Absolute s w t key ≡ 0 → (again : Bool) → Does kind.Absolute s w t key x.at (edits.ask_change again (looked_in s w t key))
  ask-does e again =
      let p = passed kind.Absolute s w t key e in
      record { passed = p; applies = ask-applies s w t key p again; moves = ask-moves s w t key p again; stores = ask-stores s w t key p again }

  ask-step : Step kind.Absolute s w t (is_allowed key) (OnAbsolute.is_allowed s w t key).words
  unfolding OnAbsolute.is_allowed
  ask-step =
      call_step decisions.Refused kind.Absolute s w t (is_allowed key) key [] _
      (λ e f. changed key refl x.at (edits.ask_change asks_again (looked_in s w t key)) (ask-does e asks_again) refl)

  pub get-does : early kind.Absolute s w t key ≡ 0 → Does kind.Absolute s w t key x.at (edits.get_change x)
  get-does e =
      let p = passed kind.Absolute s w t key e in
      record { passed = p; applies = get-applies s w t key p; moves = get-moves s w t key p; stores = get-stores s w t key p }

  get-step : Step kind.Absolute s w t (get key) (OnAbsolute.get s w t key).words
  unfolding OnAbsolute.get
  get-step = call_step refuse kind.Absolute s w t (get key) key [] _ (λ e f. changed key refl x.at (edits.get_change x) (get-does e) refl)

  -- ---- suppressed

  -- as a first look leaves it
  abbrev z : Slot
  z = looked_in s w t key

  abbrev out : Bool
  out = overdue_in s t (held_in w key)

  abbrev asks : Asked
  asks = rules.asking s t true (held_in w key)

  abbrev looks : Asked
  looks = rules.asking s t (overdue_in s t (held_in w key)) (held_in w key)

  -- of a call that passes refusals 1 to 7, 15 and 16: the slot is seen as what the key holds
  module _ (e : early kind.Suppressed s w t key ≡ 0) where
    passing : Passed kind.Suppressed s w t key
    passing = passed kind.Suppressed s w t key e

    sees : Seen (window_ticks s) t (overdue_in s t (held_in w key)) (held_in w key) (looked_in s w t key)
    sees = seen.looks s w t key passing

    caching : CachingOk t asks.caching
    caching =
        (found_ok s w t key e asks (sym (asking-is s t true h x (seen.sees s w t key passing) w (second_is s w t key passing)))).caching

    look-caching : CachingOk t looks.caching
    look-caching = (looked-ok s w t key e looks (sym (asking-is s t out h z sees w (second-looked s w t key passing)))).caching

    -- a slot that is not lacking is there
    not-lacking : lacks_slot (none_left w key.caller) (held_in w key) ≡ false → lacks_at (none_left w key.caller) (looked_in s w t key) ≡ false
    not-lacking g = lacks-is (window_ticks s) t out h z sees (none_left w key.caller) ∙ g

    inside : lacks_slot (none_left w key.caller) (held_in w key) ≡ false → place_of w (looked_in s w t key) < slots_of w
    inside g =
        place_inside s w t out z (stood-looked s w t key passing z refl) (none_left w key.caller) (free-there kind.Suppressed s w t key passing)
        (not-lacking g)

  pub snapshot-does : early kind.Suppressed s w t key ≡ 0 → Does kind.Suppressed s w t key x.at (get_change x asks.caching)
  snapshot-does e =
      let p = passed kind.Suppressed s w t key e in
      let k = asks.caching in
      record {
        passed = p;
        applies = suppressed.get-applies s w t key e x refl k (get_change x k) refl;
        moves = snapshot-moves s w t key p k;
        stores = snapshot-stores s w t key p k (caching e);
      }

  snapshot-step : Step kind.Suppressed s w t (snapshot key) (OnSuppressed.get s w t key).words
  unfolding OnSuppressed.get
  snapshot-step =
      call_step refuse kind.Suppressed s w t (snapshot key) key [] _
      (λ e f. changed key refl x.at (get_change x asks.caching) (snapshot-does e) refl)

  abbrev lacking : Bool
  lacking = lacks_at (none_left w key.caller) (looked_in s w t key)

  pub factor-does : Bytes key.bytes → early kind.Suppressed s w t key ≡ 0 → first (rules.factor_turns (none_left w key.caller) h) ≡ 0 →
      Does kind.Suppressed s w t key (place_of w z) (factor_change z looks.caching t)
  factor-does by e f =
      let p = passed kind.Suppressed s w t key e in
      let k = looks.caching in
      let g = all-false (rules.factor_turns (none_left w key.caller) h) (omega arith) f in
      record {
        passed = p;
        applies = suppressed.factor-applies s w t key e z refl (place_of w z) refl (none_left w key.caller) refl lacking refl (not-lacking e g.0) k
            (factor_change z k t) refl;
        moves = factor-moves s w t key p by k (inside e g.0);
        stores = factor-stores s w t key p k (look-caching e);
      }

  factor-step : Bytes key.bytes → Step kind.Suppressed s w t (get_factor key) (OnSuppressed.get_factor s w t key).words
  unfolding OnSuppressed.get_factor
  factor-step by =
      call_step refuse kind.Suppressed s w t (get_factor key) key (rules.factor_turns (none_left w key.caller) h) _
      (λ e f. changed key refl (place_of w z) (factor_change z looks.caching t) (factor-does by e f) refl)

  module _ (rate : RateLimit) (c draw : ℕ) where
    abbrev limit : ℕ
    limit = rules.limit_for s rate (held_in w key)

    abbrev outcome : Outcome
    outcome = rules.outcome s t (rules.limit_for s rate (held_in w key)) c draw (held_in w key)

    abbrev own : List (ℕ × Bool)
    own = rules.inc_turns s (ring_of w) (none_left w key.caller) t rate c draw (held_in w key)

    abbrev lates : List (ℕ × Bool)
    lates = inc_late s (looked_in s w t key) lacking (ring_of w) t rate c draw

    abbrev adds : Change
    adds = inc_change z limit c outcome.declined outcome.caching

    late : early kind.Suppressed s w t key ≡ 0 → first own ≡ 0 → first lates ≡ 0
    late e f = ap first (late_is s w t key rate c draw (passed kind.Suppressed s w t key e)) ∙ f

    -- what the code works out is what the rules decide
    worked : (e : early kind.Suppressed s w t key ≡ 0) → outcome ≡ inc_outcome s w t rate c draw z
    worked e = sym (decides s w t key rate c draw (passed kind.Suppressed s w t key e))

    pub draws-does : Bytes key.bytes → early kind.Suppressed s w t key ≡ 0 → first own ≡ 0 → Does kind.Suppressed s w t key (place_of w z) adds
    draws-does by e f =
        let p = passed kind.Suppressed s w t key e in
        let l = limit_at s z rate in
        let g = all-false own (omega arith) f in
        let o = outcome in
        let u = inc_change z l c o.declined o.caching in
        subst (λ (n : ℕ). Does kind.Suppressed s w t key (place_of w z) (inc_change z n c o.declined o.caching)) (limit_is s t out h z (sees e) rate)
        (record {
          passed = p;
          applies = suppressed.inc-applies s w t key e z refl (place_of w z) refl (none_left w key.caller) refl lacking refl rate c draw (ring_of w)
              (first lates) refl refl (late e f) o l
              (forecast_at z c) refl refl (worked e) u refl;
          moves = draws-moves s w t key p by l c o.declined o.caching (inside e g.1.1.1.0);
          stores = draws-stores s w t key p rate c o.declined o.caching
              (decision-ok s w t key e rate c draw (late e f) o (worked e)).1 (not-false _ g.0);
        })

    draws-step : Bytes key.bytes → Step kind.Suppressed s w t (draws key rate c draw) (OnSuppressed.inc s w t key rate c draw).words
    unfolding OnSuppressed.inc
    draws-step by =
        call_step decisions.Refused kind.Suppressed s w t (draws key rate c draw) key own _
        (λ e f. changed key refl (place_of w z) adds (draws-does by e f) refl)

-- ---- both

module _ (k : RoomKind) (s : Settings) (w : List ℕ) (t : ℕ) where
  module _ (key : Sent) where
    abbrev slot : Slot
    slot = slot_in s w t key

    pub rate-does : (rate : RateLimit) → early k s w t key ≡ 0 → first (sets.rate_turns rate) ≡ 0 →
        Does k s w t key slot.at (limiting slot (limit_in k s rate))
    unfolding sets.rate_turns
    rate-does rate e f =
        let p = passed k s w t key e in
        let l = limit_in k s rate in
        record {
          passed = p;
          applies = rate-applies k s w t key l p;
          moves = rate-moves k s w t key p l;
          stores = rate-stores k s w t key p rate (not-false _ (all-false (sets.rate_turns rate) (omega arith) f).0);
        }

    rate-step : (rate : RateLimit) → Step k s w t (set_rate key rate) (Rate.set_rate_limit k s w t key rate).words
    unfolding Rate.set_rate_limit
    rate-step rate =
        call_step refuse k s w t (set_rate key rate) key (sets.rate_turns rate) _
        (λ e f. changed key refl slot.at (limiting slot (limit_in k s rate)) (rate-does rate e f) refl)

    pub delete-does : early k s w t key ≡ 0 → Does k s w t key slot.at (deleting slot)
    delete-does e =
        let p = passed k s w t key e in
        record { passed = p; applies = delete-applies k s w t key p; moves = delete-moves k s w t key p; stores = delete-stores k s w t key p }

    delete-step : Step k s w t (delete key) (Delete.delete k s w t key).words
    unfolding Delete.delete
    delete-step =
        call_step refuse k s w t (delete key) key [] _ (λ e f. changed key refl slot.at (deleting slot) (delete-does e) refl)

    module _ (rate : RateLimit) (comparator : RateLimitComparator) (count : ℕ) (mode : HistoryUpdateMode) where
      abbrev still : Bool
      still = sets.still_for k s t rate comparator count mode (held_in w key)

      abbrev own_set : List (ℕ × Bool)
      own_set = sets.set_turns k s (none_left w key.caller) t rate comparator count mode (held_in w key)

      pub set_does : Bytes key.bytes → early k s w t key ≡ 0 → first own_set ≡ 0 →
          Does k s w t key (place_of w slot) (setting slot still (limit_in k s rate) count mode)
      set_does by e f =
          let p = passed k s w t key e in
          let o = slots.seen k s w t key p in
          let l = limit_in k s rate in
          let g = all-false own_set (omega arith) f in
          let i = idle-is s t (held_in w key) slot o l count mode comparator in
          let none : not still && lacks_at (none_left w key.caller) slot ≡ false =
          ap (λ (z : Bool). not still && z) (lacks-is (window_ticks s) t true (held_in w key) slot o (none_left w key.caller)) ∙ g.1.1.0 in
          let a = set-applies k s w t key p still l count comparator mode (sym i) (ltb-false most_total count g.1.0) none in
          record {
            passed = p;
            applies = a;
            moves = set-moves k s w t key p by still l count comparator mode (sym i) a;
            stores = set-stores k s w t key p still rate count mode (not-false _ g.0);
          }

      set-step : Bytes key.bytes → Step k s w t (set key rate comparator count mode) (Set.set k s w t key rate comparator count mode).words
      unfolding Set.set
      set-step by =
          call_step refuse k s w t (set key rate comparator count mode) key own_set _
          (λ e f. changed key refl (place_of w slot) (setting slot still (limit_in k s rate) count mode) (set_does by e f) refl)

  clean_step : (who : Caller) (stale : ℕ) → Step k s w t (cleanup who stale) (Cleanup.cleanup k s w t who stale).words
  clean_step who stale = go (ℕ_discrete (Cleanup.refusal k s w t who) 0)
    where
      go : Dec (Cleanup.refusal k s w t who ≡ 0) → Step k s w t (cleanup who stale) (Cleanup.cleanup k s w t who stale).words
      go (yes e) = cleaned stale who refl (Cleans.passed k s w t who e) (done-words k s w t who stale e)
      go (no n) = refused (refused-words k s w t who stale n)

  clear_step : (who : Caller) → Step k s w t (clear who) (Clear.clear s w t who).words
  unfolding unless_refused
  clear_step who = go (eqb (Clear.clear_refusal s w t who) 0) refl
    where
      go : (b : Bool) → eqb (Clear.clear_refusal s w t who) 0 ≡ b →
          Step k s w t (clear who) (cond b (with_reading (cleared_words w (mark_of who.party)) t) w)
      go true h = let p = Clear.clear-passed s w t who (eqb-true _ 0 h) in cleared (mark_of who.party) refl p.room p.later refl
      go false h = refused refl

both-step : (k : RoomKind) (s : Settings) (w : List ℕ) (t : ℕ) (who : Caller) (other : List ℕ) (whose : Caller) (stale : ℕ) →
    Step k s w t (cleanup_both who other whose stale) (cleaned_both k s w who other whose t stale).words
unfolding Provider.decided
both-step kind.Absolute s w t who other whose stale = go (eqb (Provider.refusal_of_both s w other t who whose) 0) refl
  where
    go : (z : Bool) → eqb (Provider.refusal_of_both s w other t who whose) 0 ≡ z →
        Step kind.Absolute s w t (cleanup_both who other whose stale) (cond z (Uses.cleaned w t (ticks_in s) stale) w)
    go true e = cleaned stale who refl (both-passed s w other t who whose (eqb-true _ 0 e)).0 refl
    go false e = refused refl
both-step kind.Suppressed s w t who other whose stale = go (eqb (Provider.refusal_of_both s other w t whose who) 0) refl
  where
    go : (z : Bool) → eqb (Provider.refusal_of_both s other w t whose who) 0 ≡ z →
        Step kind.Suppressed s w t (cleanup_both who other whose stale) (cond z (Uses.cleaned w t (ticks_in s) stale) w)
    go true e = cleaned stale who refl (both-passed s other w t whose who (eqb-true _ 0 e)).1 refl
    go false e = refused refl

-- ---- every call

pub step : (k : RoomKind) (s : Settings) (w : List ℕ) (t : ℕ) (op : Op k) → Keyed op → Step k s w t op (after k s w t op)
step k s w t (inc key rate count) by = inc-step s w t key rate count by
step k s w t (is_allowed key) by = ask-step s w t key
step k s w t (get key) by = get-step s w t key
step k s w t (draws key rate count draw) by = draws-step s w t key rate count draw by
step k s w t (snapshot key) by = snapshot-step s w t key
step k s w t (get_factor key) by = factor-step s w t key by
step k s w t (set_rate key rate) by = rate-step k s w t key rate
step k s w t (set key rate comparator count mode) by = set-step k s w t key rate comparator count mode by
step k s w t (delete key) by = delete-step k s w t key
step k s w t (cleanup who stale) by = clean_step k s w t who stale
step k s w t (cleanup_both who other whose stale) by = both-step k s w t who other whose stale
step k s w t (clear who) by = clear_step k s w t who
