-- The suppressed limiter's own calls, whole: for every input the call is refused and every word is as it was, or answer and room are what the rules make
-- of what the key holds. What an increment admits does not pass the hard limit, and what stays within the soft one is allowed. x is the key's slot,
-- whose words are told.
-- Assumes nothing.
use Rattle.std.specs.Prelude.{◌≡◌, refl, Bool, true, false, cond, ℕ, ◌≤◌, ◌<◌, Result, Ok, Float}
use Rattle.std.proofs.Common.{sym, ap, ap₂, subst, ◌∙◌, arith}
use Rattle.std.proofs.lemmas.Bool.{false≢true}
use mathlib.Core.List.{List, []}
use Rattle.std.proofs.Math.Decide.{ℕ_discrete}
use Rattle.answers.specs.HistoryMode.{no_snapshot}
use Rattle.common_laws.specs.LimitLaws.{soft-le-hard}
use Rattle.common.specs.Limits.{cut_word, soft_word}
use Rattle.common.specs.Ranges.{one}
use Rattle.common.specs.Refusals.{first, all-false, refuse}
use Rattle.settings.specs.Settings.{factor_in}
use Rattle.settings.specs.Clock.{window_ticks, join_ticks, cache_ticks}
use Rattle.answers.specs.declared.RateLimitDecision.{RateLimitDecision}
use Rattle.answers.specs.declared.RateLimitDecision.TheVariants as decision
use Rattle.answers.specs.declared.SuppressedRateLimitSnapshot.{SuppressedRateLimitSnapshot}
use Rattle.settings.specs.declared.Settings.{Settings}
use Rattle.common.specs.declared.units.RateLimit.{RateLimit}
use Rattle.rules.specs.Buckets.{joined}
use Rattle.ring.specs.Ring.{counts}
use Rattle.rules.specs.declared.Asked.{Asked}
use Rattle.rules.specs.declared.Outcome.{Outcome}
use Rattle.rules.specs.declared.RoomKind.TheVariants as kind
use Rattle.rules.specs.Held.{Held}
use Rattle.rules.specs.Both.{overdue_in, looked_of}
use Rattle.rules.specs.Suppressed.{limit_for, usable, asked, asking, forecast, reach_of, declined_by, outcome_of, outcome, admits, inc_turns, factor_turns}
use Rattle.rules.proofs.Laws.{empty-admits, reach-admits, reach-soft, reach-hard, reach-over, declined-all}
use Rattle.room.specs.Room.{ring_of}
use Rattle.frame.specs.Keys.{Bytes}
use Rattle.parties.specs.Parties.{Sent, key_for, none_left}
use Rattle.opened.specs.declared.Slot.{Slot}
use Rattle.judge.specs.Held.{held_in}
use Rattle.judge.specs.Judge.{early, Passed, slot_in, looked_in}
use Rattle.judge.proofs.Laws.{passed}
use Rattle.judge.specs.Verdict.{Verdict}
use Rattle.change.specs.Words.{applied}
use Rattle.plan.specs.Plan.{place_of, lacks_at}
use Rattle.plan.specs.Seen.{Seen, lacks-is}
use Rattle.factor_opened.specs.Opened.{usable_at, asked_at}
use Rattle.forecast_opened.specs.Forecast.{forecast_at}
use Rattle.suppressed_edits.specs.Edits.{factor_after, time_after, use_after, get_change, factor_change, inc_change}
use Rattle.suppressed_refusals.specs.Refusals.{inc_late}
use Rattle.suppressed_verdicts.specs.Calls.{get, get_factor, inc}
use Rattle.suppressed_verdicts.specs.Opened.{snapshot_at, limit_at, inc_outcome}
use Rattle.suppressed_verdicts.specs.Laws.{get-done, factor-done, inc-done}
use Rattle.suppressed_verdicts.specs.Seen.{sees, looks, usable-is, second_is, second-looked, asking-is, limit_is, decides, late_is}
use Rattle.leaves.specs.Calls.{Stands}
use Rattle.leaves.specs.Follows.{Follows, call-follows}
use Rattle.leaves.specs.Unit.{SnapshotOk, FactorOk}
use Rattle.leaves.proofs.Unit.{snapshot-ok}
use Rattle.leaves.specs.Leaves.{asked-anew, found_ok, looked-ok, get-stands, get_keeps, factor-stands, factor-keeps, factor-lone-stands}
use Rattle.leaves.specs.Leaves.{decision-ok, inc-stands}
use Rattle.leaves.specs.SuppressedFollows.{get_number, factor_number, inc_number, Gets, GivesFactor, Counts}
use Rattle.common.specs.declared.refusal.Refusal.{Refusal}

-- ---- the calls

module _ (s : Settings) (w : List ℕ) (t : ℕ) (key : Sent) where
  -- what stands of the key's slot where the call is not refused early
  module _ (e : early kind.Suppressed s w t key ≡ 0) where
    abbrev x : Slot
    x = slot_in s w t key

    abbrev z : Slot
    z = looked_in s w t key

    abbrev h : Held
    h = held_in w key

    q : Passed kind.Suppressed s w t key
    q = passed kind.Suppressed s w t key e

    o : Seen (window_ticks s) t true (held_in w key) (slot_in s w t key)
    o = sees s w t key q

    l : Seen (window_ticks s) t (overdue_in s t (held_in w key)) (held_in w key) (looked_in s w t key)
    l = looks s w t key q

    asked_is : asking s t true (held_in w key) ≡ asked_at s w t (slot_in s w t key) (slot_in s w t key).limit
    asked_is = sym (asking-is s t true h x o w (second_is s w t key q))

    looked-is : asking s t (overdue_in s t (held_in w key)) (held_in w key) ≡ asked_at s w t (looked_in s w t key) (looked_in s w t key).limit
    looked-is = sym (asking-is s t (overdue_in s t h) h z l w (second-looked s w t key q))

    series-as : (b : Bool) → (held_in w key).known ≡ b → (slot_in s w t key).series ≡ b
    series-as b f = o.series-is ∙ f

    looked-as : (b : Bool) → (held_in w key).known ≡ b → (looked_in s w t key).series ≡ b
    looked-as b f = l.series-is ∙ f

    -- ---- get
    gets : Bytes key.bytes → Gets s w t key (get s w t key)
    gets y =
        let a = asking s t true h in
        let r = (get-done s w t key e x refl a asked_is (snapshot_at x a.factor) (get_change x a.caching)
        (applied w x.at key (join_ticks s) t (get_change x a.caching)) refl refl refl).answer in
        let full : ℕ → ℕ → SuppressedRateLimitSnapshot = λ (m n : ℕ). record { total = m; total_declined = n; suppression_factor = a.factor } in
        let by : Bool → Result SuppressedRateLimitSnapshot Refusal = λ (b : Bool). Ok (cond b (full x.pass.live_total x.pass.live_declined) no_snapshot) in
        record {
          known-answer = λ g. sym r ∙ ap by (series-as true g) ∙ ap₂ (λ (m n : ℕ). Ok (full m n)) o.live-is o.declined-is;
          known = λ g. get-stands s w t key e a asked_is y (series-as true g);
          unknown-answer = λ g. sym r ∙ ap by (series-as false g);
          unit = subst (λ (b : Result SuppressedRateLimitSnapshot Refusal). SnapshotOk b) r
              (snapshot-ok x.series (full x.pass.live_total x.pass.live_declined) (found_ok s w t key e a asked_is).within);
          unknown = λ g. get_keeps s w t key e a asked_is (series-as false g);
        }

    -- ---- get_suppression_factor
    usable-as : usable_at (cache_ticks s) t (looked_in s w t key) ≡ usable s t (overdue_in s t (held_in w key)) (held_in w key)
    usable-as = usable-is s t (overdue_in s t h) h z l

    factors : Bytes key.bytes → first (factor_turns (none_left w key.caller) (held_in w key)) ≡ 0 → GivesFactor s w t key (get_factor s w t key)
    factors y f =
        let a = asking s t (overdue_in s t h) h in
        let n = all-false (factor_turns (none_left w key.caller) h) (omega arith) f in
        let k : lacks_at (none_left w key.caller) z ≡ false = lacks-is (window_ticks s) t (overdue_in s t h) h z l (none_left w key.caller) ∙ n.0 in
        let ch = factor_change z a.caching t in
        let r = (factor-done s w t key e z refl (place_of w z) refl (none_left w key.caller) refl (lacks_at (none_left w key.caller) z) refl k a looked-is ch
        (applied w (place_of w z) key (join_ticks s) t ch) refl refl).answer in
        record {
          answer = sym r;
          unit = subst (λ (b : Result Float Refusal). FactorOk b) r (looked-ok s w t key e a looked-is).within;
          known = λ g. factor-stands s w t key e a looked-is k y (looked-as true g);
          kept = λ g u. factor-keeps s w t key e a looked-is k (looked-as false g) (usable-as ∙ u);
          anew = λ g u. factor-lone-stands s w t key e a looked-is k y (looked-as false g) (usable-as ∙ u);
          anew-zero = λ g u. ap (λ (j : Asked). j.factor)
              (looked-is ∙ asked-anew s w t z z.limit (looked-as false g) (usable-as ∙ u));
        }

    -- ---- inc
    module _ (rate : RateLimit) (c draw : ℕ) where
      abbrev limit : ℕ
      limit = limit_for s rate (held_in w key)

      decided : Outcome
      decided = outcome s t (limit_for s rate (held_in w key)) c draw (held_in w key)

      outcome-told : outcome s t (limit_for s rate (held_in w key)) c draw (held_in w key) ≡
          inc_outcome s w t rate c draw (looked_in s w t key)
      outcome-told = sym (decides s w t key rate c draw q)

      declined-is : (outcome s t (limit_for s rate (held_in w key)) c draw (held_in w key)).declined ≡
          declined_by (admits (outcome s t (limit_for s rate (held_in w key)) c draw (held_in w key)).decision) c
      unfolding outcome
      declined-is = declined-all (reach_of (forecast (looked_of s t h) c) (soft_word (factor_in s) limit) (cut_word limit))
          (asked s t (overdue_in s t h) limit h) t c draw

      counted : Bytes key.bytes → first (inc_turns s (ring_of w) (none_left w key.caller) t rate c draw (held_in w key)) ≡ 0 →
          Counts s w t key (limit_for s rate (held_in w key)) c (looked_in s w t key) (outcome s t (limit_for s rate (held_in w key)) c draw (held_in w key))
          (inc s w t key rate c draw)
      counted y f =
          let at = place_of w z in
          let o = outcome s t limit c draw h in
          let late = inc_late s z (lacks_at (none_left w key.caller) z) (ring_of w) t rate c draw in
          let k : first late ≡ 0 = ap first (late_is s w t key rate c draw q) ∙ f in
          let m = limit_is s t (overdue_in s t h) h z l rate in
          let ch = inc_change z (limit_at s z rate) c o.declined o.caching in
          let r : (inc s w t key rate c draw).answer ≡ o.decision =
          sym (inc-done s w t key e z refl at refl (none_left w key.caller) refl (lacks_at (none_left w key.caller) z) refl rate c draw (ring_of w)
          (first late) refl refl k o (limit_at s z rate)
          (forecast_at z c) refl refl outcome-told ch (applied w at key (join_ticks s) t ch) refl refl).answer in
          record {
            settings = q.settings;
            answer = r;
            unit = (decision-ok s w t key e rate c draw k o outcome-told).0;
            stands =
                subst (λ (n : ℕ). Stands kind.Suppressed s w (inc s w t key rate c draw).words at t (key_for key) n (factor_after o.caching z.factor)
                (time_after o.caching z.factor_time) (use_after o.caching z)
                (joined (join_ticks s) t c (declined_by (admits (inc s w t key rate c draw).answer) c) (looked_of s t h))) m
                (subst (λ (d : ℕ). Stands kind.Suppressed s w (inc s w t key rate c draw).words at t (key_for key) (limit_at s z rate)
                (factor_after o.caching z.factor) (time_after o.caching z.factor_time) (use_after o.caching z)
                (joined (join_ticks s) t c d (looked_of s t h)))
                (declined-is ∙ ap (λ (b : RateLimitDecision). declined_by (admits b) c) (sym r))
                (inc-stands s w t key e rate c draw k o outcome-told y));
          }

  -- ---- for every input

  pub get-follows : Bytes key.bytes → Follows refuse w (get_number s w t key) (get s w t key) (Gets s w t key (get s w t key))
  unfolding get
  get-follows y = call-follows kind.Suppressed s w t key [] refuse _ (Gets s w t key (get s w t key)) (λ e f. gets e y)

  pub factor-follows : Bytes key.bytes → Follows refuse w (factor_number s w t key) (get_factor s w t key)
      (GivesFactor s w t key (get_factor s w t key))
  unfolding get_factor
  factor-follows y = call-follows kind.Suppressed s w t key (factor_turns (none_left w key.caller) (held_in w key)) refuse _
      (GivesFactor s w t key (get_factor s w t key)) (λ e f. factors e y f)

  -- what the rules decide of an increment
  abbrev Counted : RateLimit → ℕ → ℕ → Type 0
  Counted rate c draw =
      Counts s w t key (limit_for s rate (held_in w key)) c (looked_in s w t key) (outcome s t (limit_for s rate (held_in w key)) c draw (held_in w key))
      (inc s w t key rate c draw)

  pub inc-follows : (rate : RateLimit) (c draw : ℕ) → Bytes key.bytes →
      Follows decision.Refused w (inc_number s w t key rate c draw) (inc s w t key rate c draw) (Counted rate c draw)
  unfolding inc
  inc-follows rate c draw y =
      call-follows kind.Suppressed s w t key (inc_turns s (ring_of w) (none_left w key.caller) t rate c draw (held_in w key)) decision.Refused _
      (Counted rate c draw)
      (λ e f. counted e rate c draw y f)

-- ---- an increment that is not refused, by its forecast: "Forecast = total - declined + count" of the buckets that its first look leaves

module _ (s : Settings) (w : List ℕ) (t : ℕ) (key : Sent) (rate : RateLimit) (c draw : ℕ) (x : Slot) (v : Verdict RateLimitDecision)
    (k : Counts s w t key (limit_for s rate (held_in w key)) c x (outcome s t (limit_for s rate (held_in w key)) c draw (held_in w key)) v) where
  abbrev hard : ℕ
  hard = cut_word (limit_for s rate (held_in w key))

  abbrev soft : ℕ
  soft = soft_word (factor_in s) (limit_for s rate (held_in w key))

  abbrev ahead : ℕ
  ahead = forecast (looked_of s t (held_in w key)) c

  abbrev factor_asked : Asked
  factor_asked = asked s t (overdue_in s t (held_in w key)) (limit_for s rate (held_in w key)) (held_in w key)

  soft-below : soft_word (factor_in s) (limit_for s rate (held_in w key)) ≤ cut_word (limit_for s rate (held_in w key))
  soft-below = soft-le-hard (factor_in s) (limit_for s rate (held_in w key)) k.settings.factor

  decided-is : v.answer ≡ (outcome_of
      (reach_of (forecast (looked_of s t (held_in w key)) c) (soft_word (factor_in s) (limit_for s rate (held_in w key))) (cut_word (limit_for s rate (held_in w key))))
      (asked s t (overdue_in s t (held_in w key)) (limit_for s rate (held_in w key)) (held_in w key)) t c draw).decision
  unfolding outcome
  decided-is = k.answer

  -- what is admitted does not pass the hard limit
  pub admitted-below : admits v.answer ≡ true → forecast (looked_of s t (held_in w key)) c ≤ cut_word (limit_for s rate (held_in w key))
  admitted-below h = reach-admits ahead soft hard factor_asked t c draw soft-below (sym (ap (λ (z : RateLimitDecision). admits z) decided-is) ∙ h)

  -- "At most S, or equal to H: Allowed"
  pub soft-allowed : forecast (looked_of s t (held_in w key)) c ≤ soft_word (factor_in s) (limit_for s rate (held_in w key)) → v.answer ≡ decision.Allowed
  soft-allowed h = decided-is ∙ reach-soft ahead soft hard factor_asked t c draw h

  pub hard-allowed : forecast (looked_of s t (held_in w key)) c ≡ cut_word (limit_for s rate (held_in w key)) → v.answer ≡ decision.Allowed
  hard-allowed h = decided-is ∙ reach-hard ahead soft hard factor_asked t c draw h

  -- "Over H: .. not admitted"
  pub over-declined : cut_word (limit_for s rate (held_in w key)) < forecast (looked_of s t (held_in w key)) c → v.answer ≡ decision.Suppressed one false
  over-declined h = decided-is ∙ reach-over ahead soft hard factor_asked t c draw soft-below h

  -- document 02, ticket 2: a key whose buckets, by its first look, counted nothing, with no cached factor to use, is admitted up to its hard limit,
  -- whatever the draw
  pub empty-admitted : counts (looked_of s t (held_in w key)) ≡ 0 → usable s t (overdue_in s t (held_in w key)) (held_in w key) ≡ false →
      c ≤ cut_word (limit_for s rate (held_in w key)) → admits v.answer ≡ true
  empty-admitted n u l =
      ap (λ (z : RateLimitDecision). admits z) k.answer ∙
      empty-admits s t (limit_for s rate (held_in w key)) (held_in w key) k.settings.window-low k.settings.window-high n u c draw l

-- ---- so for every input

module _ (s : Settings) (w : List ℕ) (t : ℕ) (key : Sent) (rate : RateLimit) (c draw : ℕ) (y : Bytes key.bytes) where
  pub inc-admitted : admits (inc s w t key rate c draw).answer ≡ true → forecast (looked_of s t (held_in w key)) c ≤ cut_word (limit_for s rate (held_in w key))
  inc-admitted h = go (ℕ_discrete (inc_number s w t key rate c draw) 0)
    where
      go : Dec (inc_number s w t key rate c draw ≡ 0) → forecast (looked_of s t (held_in w key)) c ≤ cut_word (limit_for s rate (held_in w key))
      go (yes e) = admitted-below s w t key rate c draw (looked_in s w t key) (inc s w t key rate c draw) ((inc-follows s w t key rate c draw y).done e) h
      go (no z) = absurd (false≢true (ap (λ (d : RateLimitDecision). admits d) ((inc-follows s w t key rate c draw y).refused z).answer ∙ h))
