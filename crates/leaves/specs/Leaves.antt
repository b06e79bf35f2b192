-- What a call of the suppressed limiter that is not refused leaves, in the rules' own terms (`Stands`): x is the key's slot, a the factor that is asked
-- for, o what an increment decides. The cached factor's words and the use are those of `factor_after`, `time_after` and `use_after`.
-- Assumes nothing.
use Rattle.std.specs.Prelude.{◌≡◌, Bool, not, ◌&&◌, ◌||◌, ℕ, ◌<◌, leb, ltb, length, drop, Option, Some, None}
use Rattle.std.proofs.Math.Path.{refl, sym, ap, subst}
use Rattle.std.proofs.Common.{ap₂, ◌∙◌, arith}
use Rattle.std.proofs.Math.Bool.{true, false, cond}
use mathlib.Core.List.{List, []}
use Rattle.std.proofs.Math.Dec.{eqb}
use Rattle.std.specs.Float.{binary64}
use Rattle.std.specs.Float.Ieee.{of_bits}
use Rattle.std.proofs.lemmas.Bool.{not-false}
use Rattle.common.specs.Limits.{cut_word, soft_word, hard_word}
use Rattle.common.specs.Ranges.{nil, rate_ok}
use Rattle.common.specs.Refusals.{first, all-false}
use Rattle.settings.specs.Settings.{window_in, factor_in}
use Rattle.settings.specs.Clock.{ticks_in, window_ticks, join_ticks, cache_ticks}
use Rattle.settings.specs.declared.Settings.{Settings}
use Rattle.common.specs.declared.units.RateLimit.{RateLimit}
use Rattle.rules.specs.Buckets.{ahead, gone_if, out_if, joined}
use Rattle.sweep.specs.declared.tally.Pass.{Pass}
use Rattle.ring.specs.declared.Bucket.{Bucket}
use Rattle.ring.specs.Ring.{buckets}
use Rattle.keys.specs.declared.Key.{Key}
use Rattle.room.specs.Room.{slots_of, ring_of, body_of, key_at, find, with_reading}
use Rattle.frame.specs.Distinct.{find-key}
use Rattle.frame.specs.Frame.{Changed}
use Rattle.frame.specs.Keys.{Bytes, key-fits}
use Rattle.parties.specs.Parties.{Sent, key_for, mark_of, none_left}
use Rattle.rules.specs.declared.RoomKind.TheVariants as kind
use Rattle.opened.specs.declared.Slot.{Slot}
use Rattle.judge.specs.Judge.{early, Passed, slot_in, looked_in}
use Rattle.opened.specs.Slot.{has_slot}
use Rattle.judge.proofs.Laws.{passed}
use Rattle.opened.specs.Right.{slot-addressed}
use Rattle.opened.specs.Sound.{addressed}
use Rattle.change.specs.declared.Change.TheVariants.{Keep, Update, Take}
use Rattle.edit.specs.declared.Edit.{Edit}
use Rattle.edit.specs.declared.Then.TheVariants.{Nothing, Increment}
use Rattle.change.specs.Words.{EditsAt, Applies, applied}
use Rattle.edit.specs.Bodies.{edited, started_view, acted_view, edited_view}
use Rattle.plan.specs.Plan.{evicting, opening, place_of, lacks_at}
use Rattle.rules.specs.declared.Asked.{Asked}
use Rattle.rules.specs.declared.FactorRule.{FactorRule}
use Rattle.rules.specs.declared.FactorRule.TheVariants.{Nil, One, Worked}
use Rattle.rules.specs.declared.Outcome.{Outcome}
use Rattle.factor_opened.specs.Opened.{left, stays_at, usable_at, rule_at, second_at, worked_at, asked_at}
use Rattle.forecast_opened.specs.Forecast.{accepted_at, forecast_at}
use Rattle.rules.specs.Suppressed.{cached_at, fresh_by}
use Rattle.suppressed_edits.specs.Edits.{factor_after, time_after, use_after, recached, get_change, get-series, lone_edit, lone_by, lone_change, factor_change}
use Rattle.suppressed_edits.specs.Edits.{factor-series, factor-lone, inc_edit, inc_change}
use Rattle.suppressed_refusals.specs.Refusals.{inc_late}
use Rattle.suppressed_verdicts.specs.Opened.{snapshot_at, limit_at, inc_outcome}
use Rattle.suppressed_verdicts.specs.Calls.{get, get_factor, inc}
use Rattle.suppressed_verdicts.specs.Laws.{get-edits, get-done, factor-done, factor-applies, place-used, with-series, inc-done, inc-applies}
use Rattle.suppressed_verdicts.specs.Standing.{sums}
use Rattle.leaves.specs.Calls.{Stands, keep-words, update-changed, take-changed}
use Rattle.leaves.specs.Unit.{AskedOk, DecisionOk, CachingOk, asked-ok, outcome-ok}
use Rattle.leaves.specs.Suppressed.{stood, Opens, opens-slot, opens-looked, evicted-right, inc-right, lone-right}
use Rattle.rules.specs.Both.{live_of, overdue_in, looked_of}
use Rattle.judge.specs.Held.{held_in}
use Rattle.plan.specs.Seen.{seen, held-there}
use Rattle.suppression.specs.declared.CachedFactor.{CachedFactor}

-- ---- the slot that a key addresses has the key

addressed-has : (w : List ℕ) (key : Sent) → addressed w key < slots_of w → key_at w (addressed w key) ≡ key_for key
unfolding addressed
addressed-has w key h = go (ltb 32 (length key.bytes)) h
  where
    go : (z : Bool) → cond z (slots_of w) (find w (key_for key)) < slots_of w → key_at w (cond z (slots_of w) (find w (key_for key))) ≡ key_for key
    go true l = absurd (omega arith)
    go false l = find-key w (key_for key) l

-- ---- a lone cached factor, or none

and_yes : (a b : Bool) → b ≡ true → a && b ≡ a
and_yes true b e = e
and_yes false b e = refl

-- the fresh factor without a series is 0
rule-lone : (S H : ℕ) (x : Slot) → x.series ≡ false → rule_at S H x ≡ Nil
unfolding rule_at
rule-lone S H x e =
    ap (λ (z : Bool). cond (not z || eqb (left x) 0) Nil
    (cond (leb H x.pass.live_total) One (cond (ltb (accepted_at x) S) Nil (cond (eqb (accepted_at x) S && eqb S H) One Worked)))) e

abbrev anew : ℕ → Asked
anew t = record { factor = nil; caching = Some (cached_at nil t) }

abbrev again : Slot → Asked
again x = record { factor = of_bits binary64 x.factor; caching = None }

module _ (s : Settings) (w : List ℕ) (t : ℕ) (x : Slot) (limit : ℕ) where
  pub asked-again : usable_at (cache_ticks s) t x ≡ true → asked_at s w t x limit ≡ again x
  unfolding asked_at
  asked-again u = ap (λ (y : Bool). cond y (again x) (worked_at (factor_in s) (window_in s) (ticks_in s) w t x limit)) u

  pub asked-anew : x.series ≡ false → usable_at (cache_ticks s) t x ≡ false → asked_at s w t x limit ≡ anew t
  unfolding asked_at worked_at
  asked-anew e u =
      let S = soft_word (factor_in s) limit in
      ap (λ (y : Bool). cond y (again x) (worked_at (factor_in s) (window_in s) (ticks_in s) w t x limit)) u ∙
      ap (λ (r : FactorRule). record {
        factor = fresh_by r S x.pass.live_total (window_in s) (second_at (ticks_in s) w t x);
        caching = Some (cached_at (fresh_by r S x.pass.live_total (window_in s) (second_at (ticks_in s) w t x)) t);
      }) (rule-lone S (cut_word limit) x e)

-- ---- the calls

-- of the key's slot x, with the expired buckets out or not
module _ (s : Settings) (w : List ℕ) (t : ℕ) (key : Sent) (q : Passed kind.Suppressed s w t key) (out : Bool) (x : Slot) (u : Opens s w t key out x) where
  -- the factor that `get` and `get_suppression_factor` answer with
  pub factor-ok : AskedOk t (asked_at s w t x x.limit)
  factor-ok = asked-ok s q.settings w t x (sums s w t out x u.stood (ticks_in s)) (λ c. (u.cached-there c).word) x.limit

  pub given-ok : (a : Asked) → a ≡ asked_at s w t x x.limit → AskedOk t a
  given-ok a i = subst (λ (y : Asked). AskedOk t y) (sym i) factor-ok

  -- its slot has the key
  key_has : has_slot x ≡ true → key_at w x.at ≡ key_for key
  key_has h =
      let a : x.at ≡ addressed w key = u.at-is ∙ slot-addressed (window_ticks s) t w key in
      ap (key_at w) a ∙ addressed-has w key (omega (arith, u.stood.used-in h))

  pub stays-lone : x.series ≡ false → stays_at x ≡ x.cached
  unfolding stays_at
  stays-lone h = and_yes x.cached (eqb x.pass.expired 0) (ap (λ (y : Pass). eqb y.expired 0) (u.stood.unknown h))

  either : (d : Edit) (z : Bool) → Applies w (place_of w x) (join_ticks s) t (cond z (Update d) (Take d)) → EditsAt w (place_of w x) (join_ticks s) t d
  either d true o = o
  either d false o = o

  -- a change of the key's slot, which has a series or a lone cached factor, or is the one that is taken
  changed-by : (d : Edit) (z : Bool) → has_slot x ≡ z → EditsAt w (place_of w x) (join_ticks s) t d →
      Changed w (applied w (place_of w x) key (join_ticks s) t (cond z (Update d) (Take d))) (place_of w x) d.used (key_for key)
      (edited (ring_of w) (join_ticks s) t (body_of w (place_of w x)) d) t
  changed-by d true h o =
      let at = place_of w x in
      subst (λ (k : Key). Changed w (applied w at key (join_ticks s) t (Update d)) at d.used k (edited (ring_of w) (join_ticks s) t (body_of w at) d) t)
      (ap (key_at w) (place-used w x h) ∙ key_has h) (update-changed w at key (join_ticks s) t d o)
  changed-by d false h o = take-changed w (place_of w x) key (join_ticks s) t d o

  -- ---- the buckets that are left of a known key, at its place
  left-known : x.series ≡ true → drop x.pass.expired (buckets (ring_of w) (body_of w x.at)) ≡ out_if out (window_ticks s) t (held_in w key).buckets
  left-known h =
      ap₂ (λ (n i : ℕ). drop n (buckets (ring_of w) (body_of w i))) u.seen.gone-is u.at-is ∙
      ap (drop (gone_if out (window_ticks s) t (held_in w key).buckets))
      (held-there kind.Suppressed s w t key q ((seen kind.Suppressed s w t key q).series-is ∙ sym u.seen.series-is ∙ h))

  left-unknown : x.series ≡ false → [] ≡ out_if out (window_ticks s) t (held_in w key).buckets
  unfolding ahead
  left-unknown h =
      sym (ap (λ (ys : List Bucket). out_if out (window_ticks s) t ys) (u.seen.absent (sym u.seen.series-is ∙ h)) ∙ none out)
    where
      none : (z : Bool) → out_if z (window_ticks s) t [] ≡ []
      none true = refl
      none false = refl

  evicted-stands : (k : Option CachedFactor) → Bytes key.bytes → x.series ≡ true → CachingOk t k →
      Stands kind.Suppressed s w (applied w x.at key (join_ticks s) t (Update (recached x k (evicting x Nothing)))) x.at t (key_for key)
      x.limit (factor_after k x.factor) (time_after k x.factor_time) (use_after k x) (out_if out (window_ticks s) t (held_in w key).buckets)
  unfolding recached edited_view acted_view started_view
  evicted-stands k y h o =
      let at = x.at in
      let d : Edit = recached x k (evicting x Nothing) in
      let g : EditsAt w at (join_ticks s) t d = get-edits s w t at out x q.room (u.stood.known h) k in
      stood s w (applied w at key (join_ticks s) t (Update d)) at t (key_for key) d (out_if out (window_ticks s) t (held_in w key).buckets) g
      (subst (λ (j : Key). Changed w (applied w at key (join_ticks s) t (Update d)) at d.used j (edited (ring_of w) (join_ticks s) t (body_of w at) d) t)
      (key_has (with-series w x h)) (update-changed w at key (join_ticks s) t d g))
      (key-fits (mark_of key.caller.party) key.bytes y q.short) (evicted-right s w t key q out x u k o h) (left-known h)

-- ---- get

module _ (s : Settings) (w : List ℕ) (t : ℕ) (key : Sent) (e : early kind.Suppressed s w t key ≡ 0) where
  passes : Passed kind.Suppressed s w t key
  passes = passed kind.Suppressed s w t key e

  abbrev found : Slot
  found = slot_in s w t key

  pub found_ok : (a : Asked) → a ≡ asked_at s w t (slot_in s w t key) (slot_in s w t key).limit → AskedOk t a
  found_ok a i = given-ok s w t key passes true found (opens-slot s w t key passes) a i

  module _ (a : Asked) (i : a ≡ asked_at s w t (slot_in s w t key) (slot_in s w t key).limit) where
    get-words : applied w (slot_in s w t key).at key (join_ticks s) t (get_change (slot_in s w t key) a.caching) ≡ (get s w t key).words
    get-words = (get-done s w t key e found refl a i (snapshot_at found a.factor) (get_change found a.caching)
        (applied w found.at key (join_ticks s) t (get_change found a.caching)) refl refl refl).words

    -- a known key is rid of its expired buckets
    pub get-stands : Bytes key.bytes → (slot_in s w t key).series ≡ true →
        let x = slot_in s w t key in
        Stands kind.Suppressed s w (get s w t key).words x.at t (key_for key) x.limit (factor_after a.caching x.factor)
        (time_after a.caching x.factor_time) (use_after a.caching x) (live_of s t (held_in w key))
    get-stands y h =
        let x = slot_in s w t key in
        subst (λ (v : List ℕ). Stands kind.Suppressed s w v x.at t (key_for key) x.limit (factor_after a.caching x.factor)
        (time_after a.caching x.factor_time) (use_after a.caching x) (live_of s t (held_in w key)))
        (ap (applied w x.at key (join_ticks s) t) (get-series x a.caching h) ∙ get-words)
        (evicted-stands s w t key passes true x (opens-slot s w t key passes) a.caching y h (found_ok a i).caching)

    -- "`get` on an unknown key .. takes no slot": the reading alone is stored
    pub get_keeps : (slot_in s w t key).series ≡ false → (get s w t key).words ≡ with_reading w t
    unfolding get_change
    get_keeps h =
        sym get-words ∙
        ap (λ (z : Bool). applied w found.at key (join_ticks s) t (cond z (Update (recached found a.caching (evicting found Nothing))) Keep)) h ∙
        keep-words w found.at key (join_ticks s) t

-- ---- get_suppression_factor and inc, by a first look

module _ (s : Settings) (w : List ℕ) (t : ℕ) (key : Sent) (e : early kind.Suppressed s w t key ≡ 0) where
  q : Passed kind.Suppressed s w t key
  q = passed kind.Suppressed s w t key e

  abbrev x : Slot
  x = looked_in s w t key

  abbrev out : Bool
  out = overdue_in s t (held_in w key)

  opens : Opens s w t key (overdue_in s t (held_in w key)) (looked_in s w t key)
  opens = opens-looked s w t key q

  pub looked-ok : (a : Asked) → a ≡ asked_at s w t (looked_in s w t key) (looked_in s w t key).limit → AskedOk t a
  looked-ok a i = given-ok s w t key q out x opens a i

  module _ (a : Asked) (i : a ≡ asked_at s w t (looked_in s w t key) (looked_in s w t key).limit) where
    module _ (f : lacks_at (none_left w key.caller) x ≡ false) where
      factor-words : applied w (place_of w x) key (join_ticks s) t (factor_change x a.caching t) ≡ (get_factor s w t key).words
      factor-words =
          (factor-done s w t key e x refl (place_of w x) refl (none_left w key.caller) refl (lacks_at (none_left w key.caller) x) refl f a i
          (factor_change x a.caching t)
          (applied w (place_of w x) key (join_ticks s) t (factor_change x a.caching t)) refl refl).words

      pub factor-stands : Bytes key.bytes → x.series ≡ true →
          Stands kind.Suppressed s w (get_factor s w t key).words x.at t (key_for key) x.limit (factor_after a.caching x.factor)
          (time_after a.caching x.factor_time) (use_after a.caching x) (looked_of s t (held_in w key))
      factor-stands y h =
          let n = place-used w x (with-series w x h) in
          subst (λ (v : List ℕ). Stands kind.Suppressed s w v x.at t (key_for key) x.limit (factor_after a.caching x.factor)
          (time_after a.caching x.factor_time) (use_after a.caching x) (looked_of s t (held_in w key)))
          (ap (λ (j : ℕ). applied w j key (join_ticks s) t (Update (recached x a.caching (evicting x Nothing)))) (sym n) ∙
          ap (applied w (place_of w x) key (join_ticks s) t) (get-series x a.caching h ∙ factor-series x a.caching t h) ∙ factor-words)
          (evicted-stands s w t key q out x opens a.caching y h (looked-ok a i).caching)

      -- "but gives a lone cached factor at age below C": the reading alone is stored
      pub factor-keeps : x.series ≡ false → usable_at (cache_ticks s) t x ≡ true → (get_factor s w t key).words ≡ with_reading w t
      factor-keeps h u =
          let k : a.caching ≡ None = ap (λ (y : Asked). y.caching) (i ∙ asked-again s w t x x.limit u) in
          sym factor-words ∙
          ap (applied w (place_of w x) key (join_ticks s) t) (sym (factor-lone x a.caching t h) ∙ ap (λ (j : Option CachedFactor). lone_change x.cached j t) k) ∙
          keep-words w (place_of w x) key (join_ticks s) t

      -- "does take one and caches 0": a lone cached factor 0, in the slot of the one that is too old, or in the lowest free one
      pub factor-lone-stands : Bytes key.bytes → x.series ≡ false → usable_at (cache_ticks s) t x ≡ false →
          Stands kind.Suppressed s w (get_factor s w t key).words (place_of w x) t (key_for key) 0 0 t 2 []
      unfolding edited_view acted_view started_view
      factor-lone-stands y h u =
          let at = place_of w x in
          let k : a.caching ≡ Some (cached_at nil t) = ap (λ (j : Asked). j.caching)
          (i ∙ asked-anew s w t x x.limit h u) in
          let c : lone_by x.cached t ≡ factor_change x a.caching t =
          sym (ap (λ (j : Option CachedFactor). lone_change x.cached j t) k) ∙ factor-lone x a.caching t h in
          let g : EditsAt w at (join_ticks s) t (lone_edit t) = either s w t key q out x opens (lone_edit t) x.cached
          (factor-applies s w t key e x refl at refl (none_left w key.caller) refl (lacks_at (none_left w key.caller) x) refl f a.caching
          (lone_by x.cached t) c) in
          let z : has_slot x ≡ x.cached = ap (λ (j : Bool). j || x.cached) h in
          stood s w (get_factor s w t key).words at t (key_for key) (lone_edit t) [] g
          (subst (λ (v : List ℕ). Changed w v at 2 (key_for key) (edited (ring_of w) (join_ticks s) t (body_of w at) (lone_edit t)) t)
          (ap (applied w at key (join_ticks s) t) c ∙ factor-words) (changed-by s w t key q out x opens (lone_edit t) x.cached z g))
          (key-fits (mark_of key.caller.party) key.bytes y q.short) (lone-right s w t key q out x opens) refl

  -- ---- inc
  module _ (rate : RateLimit) (c draw : ℕ) (f : first (inc_late s x (lacks_at (none_left w key.caller) x) (ring_of w) t rate c draw) ≡ 0) (o : Outcome)
      (i : o ≡ inc_outcome s w t rate c draw x) where
    -- the decision's factor, and what is cached
    pub decision-ok : DecisionOk o.decision × CachingOk t o.caching
    decision-ok =
        subst (λ (y : Outcome). DecisionOk y.decision × CachingOk t y.caching) (sym i)
        (outcome-ok s q.settings w t x (sums s w t out x opens.stood (ticks_in s)) (λ y. (opens.cached-there y).word) (limit_at s x rate)
        (forecast_at x c) c draw)

    rate-ok : rate_ok rate.0 ≡ true
    rate-ok =
        not-false (rate_ok rate.0) (all-false (inc_late s x (lacks_at (none_left w key.caller) x) (ring_of w) t rate c draw) (omega arith) f).0

    -- of the live buckets, or of a series that begins
    abbrev edit : Bool → Edit
    edit z = recached x o.caching
        (cond z (evicting x (Increment c o.declined)) (opening (limit_at s x rate) (Increment c o.declined) x.factor x.factor_time x.used))

    inc-words : applied w (place_of w x) key (join_ticks s) t (inc_change x (limit_at s x rate) c o.declined o.caching) ≡ (inc s w t key rate c draw).words
    inc-words =
        (inc-done s w t key e x refl (place_of w x) refl (none_left w key.caller) refl (lacks_at (none_left w key.caller) x) refl rate c draw (ring_of w)
        (first (inc_late s x (lacks_at (none_left w key.caller) x) (ring_of w) t rate c draw)) refl refl f o
        (limit_at s x rate) (forecast_at x c) refl refl i (inc_change x (limit_at s x rate) c o.declined o.caching)
        (applied w (place_of w x) key (join_ticks s) t (inc_change x (limit_at s x rate) c o.declined o.caching)) refl refl).words

    inc-edits : EditsAt w (place_of w x) (join_ticks s) t (edit x.series)
    unfolding inc_change inc_edit
    inc-edits =
        either s w t key q out x opens (edit x.series) (has_slot x)
        (inc-applies s w t key e x refl (place_of w x) refl (none_left w key.caller) refl (lacks_at (none_left w key.caller) x) refl rate c draw (ring_of w)
        (first (inc_late s x (lacks_at (none_left w key.caller) x) (ring_of w) t rate c draw)) refl refl f o
        (limit_at s x rate) (forecast_at x c) refl refl i (inc_change x (limit_at s x rate) c o.declined o.caching) refl)

    inc-changed :
        Changed w (applied w (place_of w x) key (join_ticks s) t (inc_change x (limit_at s x rate) c o.declined o.caching)) (place_of w x)
        (use_after o.caching x) (key_for key)
        (edited (ring_of w) (join_ticks s) t (body_of w (place_of w x)) (edit x.series)) t
    unfolding inc_change inc_edit recached
    inc-changed = changed-by s w t key q out x opens (edit x.series) (has_slot x) refl inc-edits

    -- the count goes to the live buckets, or to a series that begins: in the slot of a lone cached factor, or in the lowest free one
    by-series : (z : Bool) → x.series ≡ z → (v : List ℕ) → Bytes key.bytes → EditsAt w (place_of w x) (join_ticks s) t (edit z) →
        Changed w v (place_of w x) (use_after o.caching x) (key_for key) (edited (ring_of w) (join_ticks s) t (body_of w (place_of w x)) (edit z)) t →
        Stands kind.Suppressed s w v (place_of w x) t (key_for key) (limit_at s x rate) (factor_after o.caching x.factor)
        (time_after o.caching x.factor_time) (use_after o.caching x)
        (joined (join_ticks s) t c o.declined (looked_of s t (held_in w key)))
    unfolding recached edited_view acted_view started_view limit_at
    by-series true h v y g d =
        let at = place_of w x in
        let n = place-used w x (with-series w x h) in
        subst (λ (l : ℕ). Stands kind.Suppressed s w v at t (key_for key) l (factor_after o.caching x.factor) (time_after o.caching x.factor_time)
        (use_after o.caching x) (joined (join_ticks s) t c o.declined (looked_of s t (held_in w key))))
        (sym (ap (λ (z : Bool). cond z x.limit (hard_word rate.0 (factor_in s) (window_in s))) h))
        (stood s w v at t (key_for key) (edit true) (joined (join_ticks s) t c o.declined (looked_of s t (held_in w key))) g d
        (key-fits (mark_of key.caller.party) key.bytes y q.short)
        (inc-right s w t key q out x opens rate c o.declined o.caching decision-ok.1 rate-ok true h)
        (ap (λ (j : ℕ). joined (join_ticks s) t c o.declined (drop x.pass.expired (buckets (ring_of w) (body_of w j)))) n ∙
        ap (joined (join_ticks s) t c o.declined) (left-known s w t key q out x opens h)))
    by-series false h v y g d =
        stood s w v (place_of w x) t (key_for key) (edit false) (joined (join_ticks s) t c o.declined (looked_of s t (held_in w key))) g d
        (key-fits (mark_of key.caller.party) key.bytes y q.short)
        (inc-right s w t key q out x opens rate c o.declined o.caching decision-ok.1 rate-ok false h)
        (ap (joined (join_ticks s) t c o.declined) (left-unknown s w t key q out x opens h))

    pub inc-stands : Bytes key.bytes →
        Stands kind.Suppressed s w (inc s w t key rate c draw).words (place_of w x) t (key_for key) (limit_at s x rate) (factor_after o.caching x.factor)
        (time_after o.caching x.factor_time) (use_after o.caching x)
        (joined (join_ticks s) t c o.declined (looked_of s t (held_in w key)))
    inc-stands y =
        subst (λ (v : List ℕ). Stands kind.Suppressed s w v (place_of w x) t (key_for key) (limit_at s x rate) (factor_after o.caching x.factor)
        (time_after o.caching x.factor_time) (use_after o.caching x) (joined (join_ticks s) t c o.declined (looked_of s t (held_in w key))))
        inc-words (by-series x.series refl (applied w (place_of w x) key (join_ticks s) t (inc_change x (limit_at s x rate) c o.declined o.caching)) y
        inc-edits inc-changed)
