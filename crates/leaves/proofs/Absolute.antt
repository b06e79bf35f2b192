-- The absolute limiter follows its rules passes the view: each call, for every input, is refused with every word as it was, or answers and leaves what the
-- rules make of the key's buckets (`get-follows`, `ask-follows`, `inc-follows`).
-- Assumes nothing.
use Rattle.std.specs.Prelude.{◌≡◌, Bool, ◌&&◌, ◌||◌, ℕ, suc, ◌<◌, length, get_or, ltb, Result, Ok}
use Rattle.std.proofs.Math.Path.{refl, sym, ap, ap₂, subst}
use Rattle.std.proofs.Common.{◌∙◌, arith, eq-eqb, eqb-true, le-ltb, ltb-true, ltb-false}
use Rattle.std.proofs.Math.Bool.{true, false, not, cond}
use Rattle.std.proofs.lemmas.Bool.{false≢true, not-false}
use mathlib.Core.List.{List, [], ◌∷◌}
use Rattle.std.proofs.Math.ListN.{drop}
use Rattle.common.specs.Limits.{absolute_word, limit_ok}
use Rattle.common.specs.Ranges.{rate_ok, one}
use Rattle.settings.specs.Settings.{window_in}
use Rattle.settings.specs.Clock.{ticks_in, window_ticks, look_ticks, join_ticks}
use Rattle.settings.specs.declared.Settings.{Settings}
use Rattle.answers.specs.declared.RateLimitDecision.{RateLimitDecision}
use Rattle.answers.specs.declared.RateLimitDecision.TheVariants as decision
use Rattle.common.specs.declared.units.RateLimit.{RateLimit}
use Rattle.common.specs.declared.units.WindowSize.{WindowSize}
use Rattle.rules.specs.Buckets as held
use Rattle.rules.specs.Buckets.{ahead, live, out_if, evicted, joined}
use Rattle.sweep.specs.Measured.{evicted-live}
use Rattle.history.specs.Changes.{joined-declineds}
use Rattle.ring.specs.declared.Bucket.{Bucket}
use Rattle.ring.specs.Ring.{bucket, no_bucket, sum_of, counts, declineds, denied_of, total_of, declined_of, buckets}
use Rattle.ring.specs.Sound.{Sound}
use Rattle.ring.specs.Sums.{sum_one, sum-split, sum-at}
use Rattle.keys.specs.declared.Key.{Key}
use Rattle.room.specs.Room.{slots_of, ring_of, last_of, use_of, key_at, find, body_of, vacant, with_reading}
use Rattle.keys.specs.Keys.{key_fits}
use Rattle.frame.specs.Distinct.{find-key}
use Rattle.frame.specs.Frame.{Changed, reading-change}
use Rattle.frame.specs.Keys.{Bytes, key-fits}
use Rattle.parties.specs.Parties.{Sent, key_for, mark_of, none_left}
use Rattle.change.specs.declared.Change.{Change}
use Rattle.change.specs.declared.Change.TheVariants.{Keep, Update, Take}
use Rattle.edit.specs.declared.Edit.{Edit}
use Rattle.edit.specs.declared.Then.{Then}
use Rattle.edit.specs.declared.Then.TheVariants.{Nothing, Increment}
use Rattle.change.specs.Words.{EditsAt, Applies, applied}
use Rattle.edit.specs.Bodies.{started_view, acted_view, edited_view}
use Rattle.rules.specs.declared.RoomKind.TheVariants.{Absolute}
use Rattle.opened.specs.declared.Slot.{Slot}
use Rattle.opened.specs.Look.{look-series, look-used, look-limit, look-factor, look-time}
use Rattle.judge.specs.Judge.{refusals, Passed, slot_in, looked_in}
use Rattle.judge.proofs.Laws.{passed, free-there}
use Rattle.base.specs.Decides.{other-true}
use Rattle.cleanup.specs.Laws.{sound-parts, parts-sound}
use Rattle.common.specs.Refusals.{first, AllFalse, all-false, refuse}
use Rattle.rules.specs.Held.{Held, lacks_slot}
use Rattle.rules.specs.Both.{limit_in, live_of, overdue, overdue_in, looked_of, passes, ring_full}
use Rattle.rules.specs.Absolute.{below, tests_again, tested, allowed_by, whole_limit, allowed, pick_decision, rejection, decided, out_for, found_for, inc_turns}
use Rattle.judge.specs.Held.{held_in}
use Rattle.judge.proofs.Held.{held-here, held_none}
use Rattle.opened.specs.Sound.{limit_of, factor_of, factor_time_of, has_series, has_cached, right_use, declined_right, sound_series, addressed}
use Rattle.judge.specs.Verdict.{Verdict}
use Rattle.plan.specs.Plan.{place_of, full_after, evicting, opening}
use Rattle.plan.specs.Known.{Found, Known, found}
use Rattle.plan.specs.Seen.{seen, has-is}
use Rattle.absolute_opened.specs.Opened.{leaving, pick_change, get_change, ask_change, inc_change}
use Rattle.absolute_test.specs.Test.{gone_if, total_if}
use Rattle.absolute_opened.specs.Laws.{counts-change}
use Rattle.absolute_verdicts.specs.Calls.{get, is_allowed, inc}
use Rattle.absolute_verdicts.specs.Seen.{use-one, has-series, limit-whole, total-out, rest_out, full-out}
use Rattle.absolute_verdicts.specs.Laws.{known, known_look, evict-applies, look-applies, leaving-applies, opening-applies}
use Rattle.leaves.specs.AbsoluteLeaves.{Left, GetLaw, AskLaw, IncLaw}
use Rattle.leaves.specs.Follows.{Follows, follows, unrefused-early, unrefused-own}
use Rattle.leaves.specs.Calls.{Stands, stands, implied, keep-words, update-changed, take-changed, none_right, series-right, limit-right, begins-view}
use Rattle.leaves.specs.Calls.{uncached, found-key}
use Rattle.leaves.proofs.Cleanup.{series-later}
use Rattle.common.specs.declared.refusal.Refusal.{Refusal}

-- ---- the key's slot in the room

module _ (s : Settings) (w : List ℕ) (t : ℕ) (key : Sent) (p : Passed Absolute s w t key) where
  there : (held_in w key).known ≡ true → addressed w key < slots_of w
  there h = go (ltb (addressed w key) (slots_of w)) refl
    where
      go : (z : Bool) → ltb (addressed w key) (slots_of w) ≡ z → addressed w key < slots_of w
      go true e = ltb-true _ _ e
      go false e = absurd (false≢true (sym (ap (λ (g : Held). g.known) (held_none w key (ltb-false _ _ e))) ∙ h))

  slot-found : (held_in w key).known ≡ true → Found Absolute s w t (addressed w key) (slot_in s w t key)
  slot-found h = found Absolute s w t key p (there h)

  -- its directory entry
  key_here : (held_in w key).known ≡ true → key_at w (addressed w key) ≡ key_for key
  unfolding addressed
  key_here h =
      let a : cond (ltb 32 (length key.bytes)) (slots_of w) (find w (key_for key)) ≡ find w (key_for key) =
      ap (λ (z : Bool). cond z (slots_of w) (find w (key_for key))) (le-ltb 32 (length key.bytes) p.short) in
      let l : find w (key_for key) < slots_of w = subst (λ (i : ℕ). i < slots_of w) a (there h) in
      subst (λ (i : ℕ). key_at w i ≡ key_for key) (sym a) (find-key w (key_for key) l)

  series-known : (held_in w key).known ≡ true → (slot_in s w t key).series ≡ true
  series-known h = (seen Absolute s w t key p).series-is ∙ h

  slot-known : (held_in w key).known ≡ true → Known Absolute s w t (addressed w key) true (slot_in s w t key)
  slot-known h = known s w t key p (series-known h)

  use-known : (held_in w key).known ≡ true → use_of w (addressed w key) ≡ 1
  use-known h = use-one s w t key p (there h)

  held-known : (held_in w key).known ≡ true → buckets (ring_of w) (body_of w (addressed w key)) ≡ (held_in w key).buckets
  held-known h =
      let at = addressed w key in
      sym (ap (λ (g : Held). g.buckets) (held-here w key (there h)) ∙ ap (λ (u : ℕ). cond (has_series u) (buckets (ring_of w) (body_of w at)) []) (use-known h))

  -- ---- what stands after

  -- nothing is declined in an absolute room
  none-declined : (held_in w key).known ≡ true → declineds (buckets (ring_of w) (body_of w (addressed w key))) ≡ 0
  none-declined h =
      let k = slot-known h in
      sym (k.declined-is ∙ k.now.declined) ∙ eqb-true (slot_in s w t key).declined 0 k.right

  -- an edit of the key's slot that leaves its limit, factor words and use
  record Same (e : Edit) : Type 0 where
    pub limit-same : e.limit ≡ (slot_in s w t key).limit
    pub factor-same : e.factor ≡ (slot_in s w t key).factor
    pub time-same : e.factor_time ≡ (slot_in s w t key).factor_time
    pub used-same : e.used ≡ (slot_in s w t key).used

  edit-left : (e : Edit) → (held_in w key).known ≡ true → Same e → EditsAt w (addressed w key) (join_ticks s) t e → (ys : List Bucket) →
      edited_view (join_ticks s) t e (buckets (ring_of w) (body_of w (addressed w key))) ≡ ys →
      declineds ys ≡ 0 → Left s w (applied w (addressed w key) key (join_ticks s) t (Update e)) t key ys
  unfolding right_use
  edit-left e h q o ys y d =
      let at = addressed w key in
      let x = slot_in s w t key in
      let k = slot-known h in
      let v = applied w at key (join_ticks s) t (Update e) in
      let u : e.used ≡ 1 = q.used-same ∙ k.used-is ∙ use-known h in
      let z = stands Absolute s w v at (join_ticks s) t (key_at w at) e o (update-changed w at key (join_ticks s) t e o) ys y
      (found-key Absolute s w t at x (slot-found h))
      (eq-eqb e.used 1 u) (none_right Absolute (declineds ys) d) (ap (limit_ok (window_in s) one) q.limit-same ∙ k.limit-ok)
      (λ f. absurd (false≢true (sym (ap (λ (n : ℕ). has_cached n) u) ∙ f))) in
      record {
        changed = subst (λ (n : ℕ). Changed w v at n (key_for key) (body_of v at) t) u
            (subst (λ (i : Key). Changed w v at e.used i (body_of v at) t) (key_here h) z.changed);
        view = z.view;
        limit_is = z.limit_is ∙ q.limit-same ∙ limit-whole s w t key p;
        factor-is = z.factor-is ∙ q.factor-same ∙ k.factor-is;
        time-is = z.time-is ∙ q.time-same ∙ k.time-is;
        sound = z.sound;
      }

  -- the expired buckets out or not, and nothing else: of the slot as it is, or as a first look leaves it
  evicts-left : (out : Bool) (x : Slot) → (held_in w key).known ≡ true → Known Absolute s w t (addressed w key) out x → Same (evicting x Nothing) →
      Applies w (slot_in s w t key).at (join_ticks s) t (Update (evicting x Nothing)) →
      Left s w (applied w (addressed w key) key (join_ticks s) t (Update (evicting x Nothing))) t key
      (out_if out (window_ticks s) t (buckets (ring_of w) (body_of w (addressed w key))))
  unfolding edited_view acted_view started_view
  evicts-left out x h k same a =
      let xs = buckets (ring_of w) (body_of w (addressed w key)) in
      let o : EditsAt w (addressed w key) (join_ticks s) t (evicting x Nothing) =
      subst (λ (n : ℕ). EditsAt w n (join_ticks s) t (evicting x Nothing)) (slot-known h).at-is a in
      edit-left (evicting x Nothing) h same o (out_if out (window_ticks s) t xs) (ap (λ (i : ℕ). drop i xs) k.measured.expired-are)
      (omega (arith, sum-split denied_of (held.gone_if out (window_ticks s) t xs) xs, none-declined h))

  look-same : Same (evicting (looked_in s w t key) Nothing)
  look-same =
      let x = slot_in s w t key in
      record {
        limit-same = look-limit (look_ticks s) t x;
        factor-same = look-factor (look_ticks s) t x;
        time-same = look-time (look_ticks s) t x;
        used-same = look-used (look_ticks s) t x;
      }

  leaving-same : (out : Bool) (then : Then) → Same (leaving out (slot_in s w t key) then)
  leaving-same true then = record { limit-same = refl; factor-same = refl; time-same = refl; used-same = refl }
  leaving-same false then = record { limit-same = refl; factor-same = refl; time-same = refl; used-same = refl }

  leaving-view : (out : Bool) (c : ℕ) (xs : List Bucket) →
      edited_view (join_ticks s) t (leaving out (slot_in s w t key) (Increment c 0)) xs ≡ joined (join_ticks s) t c 0 (drop (gone_if out (slot_in s w t key)) xs)
  unfolding edited_view acted_view started_view
  leaving-view true c xs = refl
  leaving-view false c xs = refl

  -- the count joined, with the expired buckets out or not
  count_left : (c : ℕ) (out : Bool) → (held_in w key).known ≡ true → passes c (total_if out (slot_in s w t key)) ≡ false →
      full_after (ring_of w) (join_ticks s) t (gone_if out (slot_in s w t key)) (slot_in s w t key) ≡ false →
      Left s w (applied w (addressed w key) key (join_ticks s) t (Update (leaving out (slot_in s w t key) (Increment c 0)))) t key
      (joined (join_ticks s) t c 0 (drop (gone_if out (slot_in s w t key)) (buckets (ring_of w) (body_of w (addressed w key)))))
  count_left c out h o f =
      let x = slot_in s w t key in
      let xs = buckets (ring_of w) (body_of w (addressed w key)) in
      let k = gone_if out x in
      edit-left (leaving out x (Increment c 0)) h (leaving-same out (Increment c 0)) (leaving-applies s w t key p c out (series-known h) o f)
      (joined (join_ticks s) t c 0 (drop k xs))
      (leaving-view out c xs)
      (joined-declineds (join_ticks s) t c 0 (drop k xs) ∙ omega (arith, sum-split denied_of k xs, none-declined h))

  -- nothing but the reading
  keep_left : (held_in w key).known ≡ true → Left s w (with_reading w t) t key (buckets (ring_of w) (body_of w (addressed w key)))
  keep_left h =
      let at = addressed w key in
      let v = with_reading w t in
      let c = reading-change w at p.room (there h) t in
      let u : use_of v at ≡ 1 = c.used ∙ use-known h in
      let q = sound-parts Absolute s w at (slot-found h).sound in
      let g : sound_series Absolute s (ring_of w) (last_of w) (body_of w at) ≡ true =
      other-true (has_series (use_of w at)) _ (ap (λ (n : ℕ). has_series n) (use-known h)) q.series in
      let i : sound_series Absolute s (ring_of w) t (body_of w at) ≡ true = series-later Absolute s (ring_of w) (last_of w) t (body_of w at) p.later g in
      let j : sound_series Absolute s (ring_of v) (last_of v) (body_of v at) ≡ true =
      ap₂ (λ (r : ℕ) (b : List ℕ). sound_series Absolute s r (last_of v) b) c.ring c.body ∙
      ap (λ (n : ℕ). sound_series Absolute s (ring_of w) n (body_of w at)) c.last ∙ i in
      record {
        changed = subst (λ (b : List ℕ). Changed w v at 1 (key_for key) b t) (sym c.body)
            (subst (λ (n : ℕ). Changed w v at n (key_for key) (body_of w at) t) (use-known h)
            (subst (λ (z : Key). Changed w v at (use_of w at) z (body_of w at) t) (key_here h) c));
        view = ap₂ buckets c.ring c.body;
        limit_is = ap (λ (b : List ℕ). limit_of b) c.body ∙ sym (slot-known h).limit_is ∙ limit-whole s w t key p;
        factor-is = ap (λ (b : List ℕ). factor_of b) c.body;
        time-is = ap (λ (b : List ℕ). factor_time_of b) c.body;
        sound = parts-sound Absolute s v at (record {
          key = ap key_fits c.key ∙ q.key;
          uses = ap (right_use Absolute) c.used ∙ q.uses;
          series = implied (has_series (use_of v at)) _ (λ z. j);
          cached = implied (has_cached (use_of v at)) _ (λ z. absurd (false≢true (sym (ap (λ (n : ℕ). has_cached n) u) ∙ z)));
        });
      }

  -- an unknown key's series begins, in the lowest free slot
  begin-left : (rate : RateLimit) (c : ℕ) → Bytes key.bytes → rate_ok rate.0 ≡ true → passes c 0 ≡ false → vacant w < slots_of w →
      Stands Absolute s w (applied w (vacant w) key (join_ticks s) t (Take (opening (absolute_word rate.0 (window_in s)) (Increment c 0) 0 0 1))) (vacant w) t
      (key_for key) (absolute_word rate.0 (window_in s)) 0 0 1 (bucket c 0 t ∷ [])
  unfolding edited_view acted_view started_view
  begin-left rate c y r o i =
      let l = absolute_word rate.0 (window_in s) in
      let e = opening l (Increment c 0) 0 0 1 in
      let a = opening-applies s w t key p l c 0 o i in
      stands Absolute s w (applied w (vacant w) key (join_ticks s) t (Take e)) (vacant w) (join_ticks s) t (key_for key) e a
      (take-changed w (vacant w) key (join_ticks s) t e a) (bucket c 0 t ∷ []) (begins-view (join_ticks s) t c)
      (key-fits (mark_of key.caller.party) key.bytes y p.short) (series-right Absolute) (none_right Absolute _ (sum_one denied_of (bucket c 0 t)))
      (limit-right Absolute s rate p.settings r) (uncached _)

  -- ---- the calls, once they are not refused

  at-known : (held_in w key).known ≡ true → (slot_in s w t key).at ≡ addressed w key
  at-known h = (slot-known h).at-is

  -- the words after a change of the key's slot
  abbrev after : Change → List ℕ
  after u = applied w (slot_in s w t key).at key (join_ticks s) t u

  -- at the slot's own place, of the key's buckets
  at_place : (e : Change) (f : List Bucket → List Bucket) → (held_in w key).known ≡ true →
      Left s w (applied w (addressed w key) key (join_ticks s) t e) t key (f (buckets (ring_of w) (body_of w (addressed w key)))) →
      Left s w (after e) t key (f (held_in w key).buckets)
  at_place e f h l =
      subst (λ (n : ℕ). Left s w (applied w n key (join_ticks s) t e) t key (f (held_in w key).buckets)) (sym (at-known h))
      (subst (λ (ys : List Bucket). Left s w (applied w (addressed w key) key (join_ticks s) t e) t key (f ys)) (held-known h) l)

  evicted-left : (held_in w key).known ≡ true → Left s w (after (Update (evicting (slot_in s w t key) Nothing))) t key (live_of s t (held_in w key))
  evicted-left h =
      let x = slot_in s w t key in
      at_place (Update (evicting x Nothing)) (λ (ys : List Bucket). live (window_ticks s) t ys) h
      (evicts-left true x h (slot-known h) (record { limit-same = refl; factor-same = refl; time-same = refl; used-same = refl })
      (evict-applies s w t key p (series-known h)))

  looked-left : (held_in w key).known ≡ true → Left s w (after (Update (evicting (looked_in s w t key) Nothing))) t key (looked_of s t (held_in w key))
  looked-left h =
      let y = looked_in s w t key in
      at_place (Update (evicting y Nothing)) (λ (ys : List Bucket). out_if (overdue s t ys) (window_ticks s) t ys) h
      (evicts-left (overdue s t (buckets (ring_of w) (body_of w (addressed w key)))) y h (known_look s w t key p (series-known h)) look-same
      (look-applies s w t key p (series-known h)))

  kept-left : (held_in w key).known ≡ true → Left s w (after Keep) t key (held_in w key).buckets
  kept-left h =
      subst (λ (v : List ℕ). Left s w v t key (held_in w key).buckets) (sym (keep-words w (slot_in s w t key).at key (join_ticks s) t))
      (subst (λ (ys : List Bucket). Left s w (with_reading w t) t key ys) (held-known h) (keep_left h))

  get-known : (held_in w key).known ≡ true → get_change (slot_in s w t key) ≡ Update (evicting (slot_in s w t key) Nothing)
  unfolding get_change
  get-known h = ap (λ (z : Bool). pick_change z (Update (evicting (slot_in s w t key) Nothing)) Keep) (series-known h)

  get-unknown : (held_in w key).known ≡ false → get_change (slot_in s w t key) ≡ Keep
  unfolding get_change
  get-unknown h = ap (λ (z : Bool). pick_change z (Update (evicting (slot_in s w t key) Nothing)) Keep) ((seen Absolute s w t key p).series-is ∙ h)

  pub get-law : (v : Verdict (Result ℕ Refusal)) → v.answer ≡ Ok (counts (live_of s t (held_in w key))) → v.words ≡ after (get_change (slot_in s w t key)) →
      GetLaw s w t key v
  get-law v a b = record {
    answer = a;
    unknown = λ h. b ∙ ap after (get-unknown h) ∙ keep-words w (slot_in s w t key).at key (join_ticks s) t;
    known = λ h. subst (λ (y : List ℕ). Left s w y t key (live_of s t (held_in w key))) (sym (b ∙ ap after (get-known h))) (evicted-left h);
  }

  look_known : (held_in w key).known ≡ true → get_change (looked_in s w t key) ≡ Update (evicting (looked_in s w t key) Nothing)
  unfolding get_change
  look_known h =
      ap (λ (z : Bool). pick_change z (Update (evicting (looked_in s w t key) Nothing)) Keep) (look-series (look_ticks s) t (slot_in s w t key) ∙ series-known h)

  look-unknown : (held_in w key).known ≡ false → get_change (looked_in s w t key) ≡ Keep
  unfolding get_change
  look-unknown h =
      ap (λ (z : Bool). pick_change z (Update (evicting (looked_in s w t key) Nothing)) Keep)
      (look-series (look_ticks s) t (slot_in s w t key) ∙ (seen Absolute s w t key p).series-is ∙ h)

  -- by whether the test is made again
  ask-left : (again : Bool) → (held_in w key).known ≡ true →
      Left s w (after (pick_change again (Update (evicting (looked_in s w t key) Nothing)) Keep)) t key
      (out_if (again && overdue_in s t (held_in w key)) (window_ticks s) t (held_in w key).buckets)
  ask-left true h = looked-left h
  ask-left false h = kept-left h

  ask-keeps : (again : Bool) → (held_in w key).known ≡ false → after (ask_change again (looked_in s w t key)) ≡ with_reading w t
  ask-keeps true h = ap after (look-unknown h) ∙ keep-words w (slot_in s w t key).at key (join_ticks s) t
  ask-keeps false h = keep-words w (slot_in s w t key).at key (join_ticks s) t

  abbrev again : Bool
  again = tests_again (whole_limit (held_in w key)) (held_in w key).buckets

  pub ask-law : (v : Verdict RateLimitDecision) → v.answer ≡ decided s t (held_in w key) →
      v.words ≡ after (ask_change (tests_again (whole_limit (held_in w key)) (held_in w key).buckets) (looked_in s w t key)) → AskLaw s w t key v
  unfolding tested
  ask-law v a b = record {
    answer = a;
    unknown = λ h. b ∙ ask-keeps again h;
    known = λ h.
        subst (λ (y : List ℕ). Left s w y t key (out_if (again && overdue_in s t (held_in w key)) (window_ticks s) t (held_in w key).buckets))
        (sym (b ∙ ap (λ (e : Change). after (pick_change again e Keep)) (look_known h))) (ask-left again h);
  }

  module _ (rate : RateLimit) (c : ℕ) (f : first (inc_turns s (ring_of w) (none_left w key.caller) t rate c (held_in w key)) ≡ 0) where
    abbrev may : Bool
    may = allowed s t (held_in w key)

    abbrev out : Bool
    out = out_for s (ring_of w) t c (held_in w key)

    abbrev counted : List ℕ
    counted = applied w (place_of w (slot_in s w t key)) key (join_ticks s) t
        (inc_change (limit_in Absolute s rate) c (allowed s t (held_in w key)) (out_for s (ring_of w) t c (held_in w key)) (slot_in s w t key) (looked_in s w t key))

    unmet : AllFalse (inc_turns s (ring_of w) (none_left w key.caller) t rate c (held_in w key))
    unmet = all-false (inc_turns s (ring_of w) (none_left w key.caller) t rate c (held_in w key)) (omega arith) f

    -- an unknown key's place is a free one
    none-known : (held_in w key).known ≡ false → (slot_in s w t key).series ≡ false
    none-known h = (seen Absolute s w t key p).series-is ∙ h

    place-new : (held_in w key).known ≡ false → place_of w (slot_in s w t key) ≡ vacant w
    unfolding place_of
    place-new h = ap (λ (z : Bool). cond z (slot_in s w t key).at (vacant w)) (has-series s w t key p ∙ none-known h)

    place-known : (held_in w key).known ≡ true → place_of w (slot_in s w t key) ≡ addressed w key
    unfolding place_of
    place-known h = ap (λ (z : Bool). cond z (slot_in s w t key).at (vacant w)) (has-series s w t key p ∙ series-known h) ∙ at-known h

    -- it is allowed, and holds nothing
    new-fits : (held_in w key).known ≡ false → passes c 0 ≡ false
    unfolding allowed sum_of ahead
    new-fits h =
        let o = seen Absolute s w t key p in
        let a : allowed s t (held_in w key) ≡ true = ap (λ (z : Bool). not z || allowed_by s t (whole_limit (held_in w key)) (held_in w key).buckets) h
        in
        let e : counts (found_for s (ring_of w) t c (held_in w key)) ≡ 0 =
        ap (λ (ys : List Bucket). counts (out_if out (window_ticks s) t ys)) (o.absent h) ∙ none_out out in
        sym (ap₂ (λ (z : Bool) (n : ℕ). z && passes c n) a e) ∙ unmet.1.0
      where
        none_out : (z : Bool) → counts (out_if z (window_ticks s) t []) ≡ 0
        none_out true = refl
        none_out false = refl

    new-place : (held_in w key).known ≡ false → vacant w < slots_of w
    new-place h =
        let e : lacks_slot (none_left w key.caller) (held_in w key) ≡ false = unmet.1.1.0 in
        free-there Absolute s w t key p
        (sym (ap (λ (z : Bool). not z && none_left w key.caller)
        (sym (has-is (window_ticks s) t true (held_in w key) (slot_in s w t key) (seen Absolute s w t key p)) ∙
        has-series s w t key p ∙ none-known h)) ∙ e)

    inc-unknown : Bytes key.bytes → (held_in w key).known ≡ false →
        Stands Absolute s w counted (vacant w) t (key_for key) (limit_in Absolute s rate) 0 0 1 (bucket c 0 t ∷ [])
    unfolding inc_change
    inc-unknown y h =
        let x = slot_in s w t key in
        let l = limit_in Absolute s rate in
        let known-change = pick_change may (Update (leaving out x (Increment c 0))) (Update (evicting (looked_in s w t key) Nothing)) in
        subst (λ (v : List ℕ). Stands Absolute s w v (vacant w) t (key_for key) l 0 0 1 (bucket c 0 t ∷ []))
        (ap₂ (λ (n : ℕ) (z : Bool). applied w n key (join_ticks s) t (pick_change z known-change (Take (opening l (Increment c 0) 0 0 1)))) (sym (place-new h))
        (sym (none-known h)))
        (begin-left rate c y (not-false (rate_ok rate.0) unmet.0) (new-fits h) (new-place h))

    -- a known key's change, at its own slot
    inc-at : (u : Change) → (held_in w key).known ≡ true → inc_change (limit_in Absolute s rate) c may out (slot_in s w t key) (looked_in s w t key) ≡ u →
        applied w (addressed w key) key (join_ticks s) t u ≡ counted
    inc-at u h e = ap₂ (λ (i : ℕ) (z : Change). applied w i key (join_ticks s) t z) (sym (place-known h)) (sym e)

    inc-accepted : (held_in w key).known ≡ true → allowed s t (held_in w key) ≡ true →
        Left s w counted t key (joined (join_ticks s) t c 0 (found_for s (ring_of w) t c (held_in w key)))
    inc-accepted h a =
        let x = slot_in s w t key in
        let ys = found_for s (ring_of w) t c (held_in w key) in
        let ten : passes c (counts ys) ≡ false = subst (λ (z : Bool). z && passes c (counts ys) ≡ false) a unmet.1.0 in
        let twelve : ring_full (ring_of w) (join_ticks s) t ys ≡ false =
        subst (λ (z : Bool). z && ring_full (ring_of w) (join_ticks s) t ys ≡ false) a unmet.1.1.1.0 in
        let m : drop (gone_if out x) (buckets (ring_of w) (body_of w (addressed w key))) ≡ ys =
        ap (drop (gone_if out x)) (held-known h) ∙ rest_out s w t key p out in
        subst (λ (v : List ℕ). Left s w v t key (joined (join_ticks s) t c 0 ys))
        (inc-at (Update (leaving out x (Increment c 0))) h (counts-change (limit_in Absolute s rate) c may out x (looked_in s w t key) (series-known h) a))
        (subst (λ (zs : List Bucket). Left s w (applied w (addressed w key) key (join_ticks s) t (Update (leaving out x (Increment c 0)))) t key
        (joined (join_ticks s) t c 0 zs)) m
        (count_left c out h (ap (passes c) (total-out s w t key p out) ∙ ten) (full-out s w t key p (ring_of w) (join_ticks s) out ∙ twelve)))

    inc-rejected : (held_in w key).known ≡ true → allowed s t (held_in w key) ≡ false → Left s w counted t key (looked_of s t (held_in w key))
    unfolding inc_change
    inc-rejected h a =
        let x = slot_in s w t key in
        let y = looked_in s w t key in
        let l = limit_in Absolute s rate in
        let i : inc_change l c may out x y ≡ Update (evicting y Nothing) =
        ap₂ (λ (q z : Bool). pick_change q (pick_change z (Update (leaving out x (Increment c 0))) (Update (evicting y Nothing)))
        (Take (opening l (Increment c 0) 0 0 1))) (series-known h) a in
        subst (λ (v : List ℕ). Left s w v t key (looked_of s t (held_in w key))) (inc-at (Update (evicting y Nothing)) h i)
        (subst (λ (n : ℕ). Left s w (applied w n key (join_ticks s) t (Update (evicting y Nothing))) t key (looked_of s t (held_in w key))) (at-known h)
        (looked-left h))

    pub inc-law : Bytes key.bytes → (v : Verdict RateLimitDecision) → v.answer ≡ decided s t (held_in w key) →
        v.words ≡ applied w (place_of w (slot_in s w t key)) key (join_ticks s) t
        (inc_change (limit_in Absolute s rate) c (allowed s t (held_in w key)) (out_for s (ring_of w) t c (held_in w key)) (slot_in s w t key) (looked_in s w t key)) →
        IncLaw s w t key rate c v
    inc-law y v a b = record {
      answer = a;
      unknown = λ h. subst (λ (z : List ℕ). Stands Absolute s w z (vacant w) t (key_for key) (limit_in Absolute s rate) 0 0 1 (bucket c 0 t ∷ [])) (sym b)
          (inc-unknown y h);
      accepted = λ h e. subst (λ (z : List ℕ). Left s w z t key (joined (join_ticks s) t c 0 (found_for s (ring_of w) t c (held_in w key)))) (sym b)
          (inc-accepted h e);
      rejected = λ h e. subst (λ (z : List ℕ). Left s w z t key (looked_of s t (held_in w key))) (sym b) (inc-rejected h e);
    }

  -- ---- what is held is what document 01 speaks of

  -- the stored total is the counts' sum
  pub stored-total : (held_in w key).known ≡ true → total_of (body_of w (addressed w key)) ≡ counts (held_in w key).buckets
  stored-total h = (slot-known h).now.total ∙ ap counts (held-known h)

  -- taking the oldest ones out takes out every expired bucket, wherever it stands
  pub evicted-held : evicted (window_ticks s) t (held_in w key).buckets ≡ live (window_ticks s) t (held_in w key).buckets
  evicted-held = go (held_in w key).known refl
    where
      go : (y : Bool) → (held_in w key).known ≡ y → evicted (window_ticks s) t (held_in w key).buckets ≡ live (window_ticks s) t (held_in w key).buckets
      go true h = subst (λ (ys : List Bucket). evicted (window_ticks s) t ys ≡ live (window_ticks s) t ys) (held-known h)
          (evicted-live (window_ticks s) t 0 t (buckets (ring_of w) (body_of w (addressed w key))) (slot-known h).now.each)
      go false h = subst (λ (ys : List Bucket). evicted (window_ticks s) t ys ≡ live (window_ticks s) t ys) (sym ((seen Absolute s w t key p).absent h))
          (evicted-live (window_ticks s) t 0 t [] tt)

-- "zero in the absolute room": no bucket has any declined exactly where their sum is 0
pub each_none : (xs : List Bucket) → declineds xs ≡ 0 → (i : ℕ) → i < length xs → (get_or xs i no_bucket).declined ≡ 0
each_none xs e i h = omega (arith, sum-at denied_of xs i h)

pub none_each : (xs : List Bucket) → ((i : ℕ) → i < length xs → (get_or xs i no_bucket).declined ≡ 0) → declineds xs ≡ 0
unfolding sum_of
none_each [] f = refl
none_each (x ∷ xs) f = omega (arith, f 0 (omega arith), none_each xs (λ i h. f (suc i) (omega arith)))

-- so a sound absolute slot's declined total, which is 0, says it of each bucket
pub declined-each : (r : ℕ) (b : List ℕ) (last : ℕ) → Sound r b last → declined_right Absolute (declined_of b) ≡ true → (i : ℕ) → i < length (buckets r b) →
    (get_or (buckets r b) i no_bucket).declined ≡ 0
declined-each r b last o e = each_none (buckets r b) (sym o.declined ∙ eqb-true (declined_of b) 0 e)

pub each-declined : (r : ℕ) (b : List ℕ) (last : ℕ) → Sound r b last → ((i : ℕ) → i < length (buckets r b) → (get_or (buckets r b) i no_bucket).declined ≡ 0) →
    declined_right Absolute (declined_of b) ≡ true
each-declined r b last o f = eq-eqb (declined_of b) 0 (o.declined ∙ none_each (buckets r b) f)

-- ---- "Allowed" exactly where the key is unknown, or its stored total is below the cut limit, or the total that a first look leaves is

allowed-ways : (s : Settings) (t n : ℕ) (xs : List Bucket) →
    allowed_by s t n xs ≡ below n (counts xs) || below n (counts (out_if (overdue s t xs) (window_ticks s) t xs))
unfolding tested
allowed-ways s t n xs = go (below n (counts xs)) refl
  where
    go : (y : Bool) → below n (counts xs) ≡ y →
        below n (counts (out_if (not y && overdue s t xs) (window_ticks s) t xs)) ≡ y || below n (counts (out_if (overdue s t xs) (window_ticks s) t xs))
    go true e = e
    go false e = refl

says : RateLimitDecision → Bool
says decision.Allowed = true
says (decision.Rejected a b c) = false
says (decision.Suppressed a b) = false
says (decision.Refused n) = false

rejection-says : (k : ℕ) (window : WindowSize) (t : ℕ) (xs : List Bucket) → says (rejection k window t xs) ≡ false
unfolding says
rejection-says k window t [] = refl
rejection-says k window t (x ∷ xs) = refl

pub allowed-exactly : (s : Settings) (t : ℕ) (h : Held) → let ways =
    not h.known || (below (whole_limit h) (counts h.buckets) || below (whole_limit h) (counts (looked_of s t h))) in
    (decided s t h ≡ decision.Allowed → ways ≡ true) × (ways ≡ true → decided s t h ≡ decision.Allowed)
unfolding says decided allowed
allowed-exactly s t h =
    let d = rejection (ticks_in s) s.window_size t (looked_of s t h) in
    let may = not h.known || allowed_by s t (whole_limit h) h.buckets in
    let q = ap (λ (y : Bool). not h.known || y) (allowed-ways s t (whole_limit h) h.buckets) in (
      (λ e. sym q ∙ to may d (rejection-says (ticks_in s) s.window_size t (looked_of s t h)) e),
      (λ e. ap (λ (y : Bool). pick_decision y decision.Allowed d) (q ∙ e)),
    )
  where
    to : (y : Bool) (d : RateLimitDecision) → says d ≡ false → pick_decision y decision.Allowed d ≡ decision.Allowed → y ≡ true
    to true d f e = refl
    to false d f e = absurd (false≢true (sym f ∙ ap says e))

-- ---- the calls, for every input

module _ (s : Settings) (w : List ℕ) (t : ℕ) (key : Sent) where
  passing : (own : List (ℕ × Bool)) → first (refusals Absolute s w t key own) ≡ 0 → Passed Absolute s w t key
  passing own e = passed Absolute s w t key (unrefused-early Absolute s w t key own e)

  pub get-follows : Follows refuse w (first (refusals Absolute s w t key [])) (get s w t key) (GetLaw s w t key (get s w t key))
  unfolding get
  get-follows = follows refuse _ w _ (GetLaw s w t key) (λ e. get-law s w t key (passing [] e) _ refl refl)

  pub ask-follows : Follows decision.Refused w (first (refusals Absolute s w t key [])) (is_allowed s w t key) (AskLaw s w t key (is_allowed s w t key))
  unfolding is_allowed
  ask-follows = follows decision.Refused _ w _ (AskLaw s w t key) (λ e. ask-law s w t key (passing [] e) _ refl refl)

  pub inc-follows : (rate : RateLimit) (c : ℕ) → Bytes key.bytes →
      Follows decision.Refused w (first (refusals Absolute s w t key (inc_turns s (ring_of w) (none_left w key.caller) t rate c (held_in w key))))
      (inc s w t key rate c)
      (IncLaw s w t key rate c (inc s w t key rate c))
  unfolding inc
  inc-follows rate c y =
      let own = inc_turns s (ring_of w) (none_left w key.caller) t rate c (held_in w key) in
      follows decision.Refused _ w _ (IncLaw s w t key rate c)
      (λ e. inc-law s w t key (passing own e) rate c (unrefused-own Absolute s w t key own e) y _ refl refl)
