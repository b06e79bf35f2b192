-- What the calls that both limiters have answer and leave where they are not turned away, by the rules on what the key holds. x is its slot, whose words
-- are told. `Stands` says of a slot its buckets, limit, cached factor and use, that it is sound again, and that every other slot is word for word as it
-- was.
-- Assumes nothing.
use Rattle.std.specs.Prelude.{◌≡◌, Bool, false, ◌&&◌, cond, ◌≢◌, ℕ, ◌≤◌, ◌<◌, eqb, Result, Ok, Option}
use Rattle.std.proofs.Math.Path.{refl, ap, subst}
use Rattle.std.proofs.Common.{sym, ◌∙◌, arith, ltb-false}
use Rattle.std.proofs.Math.Bool.{true, not}
use mathlib.Core.List.{List, [], ◌∷◌}
use Rattle.std.proofs.lemmas.Bool.{not-false}
use Rattle.common.specs.Ranges.{rate_ok}
use Rattle.common.specs.Refusals.{first, all-false, refuse}
use Rattle.settings.specs.Clock.{ticks_in, window_ticks, join_ticks}
use Rattle.common.specs.declared.comparator.RateLimitComparator.{RateLimitComparator}
use Rattle.answers.specs.declared.HistoryUpdateMode.{HistoryUpdateMode}
use Rattle.settings.specs.declared.Settings.{Settings}
use Rattle.common.specs.declared.units.RateLimit.{RateLimit}
use Rattle.layout.specs.Layout.{most_total}
use Rattle.ring.specs.declared.Bucket.{Bucket}
use Rattle.ring.specs.Ring.{bucket}
use Rattle.rules.specs.declared.RoomKind.{RoomKind}
use Rattle.rules.specs.Held.{Held, has_any}
use Rattle.rules.specs.Both.{limit_in}
use Rattle.rules.specs.Sets as rules
use Rattle.room.specs.Room.{slots_of, holder_of, use_of, key_at, body_of, with_reading}
use Rattle.frame.specs.Frame.{Changed, unheld}
use Rattle.frame.specs.Keys.{Bytes}
use Rattle.frame.specs.Whole.{Cleared}
use Rattle.parties.specs.Parties.{Sent, key_for, none_left}
use Rattle.opened.specs.declared.Slot.{Slot}
use Rattle.judge.specs.Held.{held_in}
use Rattle.judge.specs.Judge.{refusals, Passed, slot_in}
use Rattle.judge.proofs.Laws.{passed}
use Rattle.opened.specs.Sound.{sound_slot}
use Rattle.judge.specs.Verdict.{Verdict}
use Rattle.change.specs.declared.Change.TheVariants.{Keep, Update}
use Rattle.edit.specs.declared.Then.TheVariants.{Nothing}
use Rattle.change.specs.Words.{applied}
use Rattle.plan.specs.Plan.{place_of, lacks_at, keeping, relimited}
use Rattle.plan.specs.Seen.{Seen, seen, held-there, has-is, lacks-is}
use Rattle.shared_opened.specs.Opened.{used_with, limiting}
use Rattle.sets_opened.specs.Sets.{setting}
use Rattle.calls.specs.Applies.{place-free}
use Rattle.calls.specs.Delete as Delete
use Rattle.calls.specs.Rate as Rate
use Rattle.calls.specs.Set as Sets
use Rattle.leaves.specs.Calls.{Stands, keep-words, delete-frees, delete-keeps, rate-stands, set_keeps, set-frees, set-stands, set-begins-lone, set-begins}
use Rattle.leaves.specs.Cleanup.{Cleaned}
use Rattle.leaves.specs.Follows.{follows, unrefused-early, unrefused-own}
use Rattle.common.specs.declared.refusal.Refusal.{Refusal}
use Rattle.answers.specs.declared.ConditionalSetOutcome.{ConditionalSetOutcome}

-- ---- what the calls are to do

-- "Setting a rate touches only a known series and gives the old rate back .. a new limit, forgets the cached factor" (`used_with`)
pub record RateRule (kind : RoomKind) (s : Settings) (w : List ℕ) (t : ℕ) (key : Sent) (rate : RateLimit) (x : Slot)
    (v : Verdict (Result (Option RateLimit) Refusal)) : Type 0 where
  pub answer : v.answer ≡ Ok (rules.old_rate kind s (held_in w key))
  pub known : (held_in w key).known ≡ true →
      Stands kind s w v.words x.at t (key_at w x.at) (limit_in kind s rate) x.factor x.factor_time (used_with x (limit_in kind s rate))
      (held_in w key).buckets
  pub unknown : (held_in w key).known ≡ false → v.words ≡ with_reading w t

-- "Delete gives live total less declined, or 0 for a lone cached factor, or none"; the slot is free then
pub record DeleteRule (s : Settings) (w : List ℕ) (t : ℕ) (key : Sent) (x : Slot) (v : Verdict (Result (Option ℕ) Refusal)) : Type 0 where
  pub answer : v.answer ≡ Ok (rules.deleted s t (held_in w key))
  pub frees : has_any (held_in w key) ≡ true → Changed w v.words x.at (use_of w x.at) (unheld (key_at w x.at)) (body_of w x.at) t
  pub keeps : has_any (held_in w key) ≡ false → v.words ≡ with_reading w t

-- "live total first, worked out without change. Nothing changes, and that total is given twice, if .." (`still`). "Count 0: the series goes. Otherwise
-- evict, store the limit, then Replace (one bucket) or Preserve" (`reset_to`), and the cached factor is forgotten; a key without a series gets one
-- bucket, in the slot of its lone cached factor or in the lowest free one
pub record SetRule
    (kind : RoomKind) (s : Settings) (w : List ℕ) (t : ℕ) (key : Sent) (rate : RateLimit) (comparator : RateLimitComparator) (count : ℕ)
    (mode : HistoryUpdateMode) (still : Bool) (x : Slot) (v : Verdict (Result ConditionalSetOutcome Refusal)) : Type 0 where
  pub answer : v.answer ≡ Ok (rules.outcome s t still comparator count (held_in w key))
  pub keeps : still ≡ true → v.words ≡ with_reading w t
  pub goes : still ≡ false → eqb count 0 ≡ true → (held_in w key).known ≡ true →
      Changed w v.words (place_of w x) (use_of w (place_of w x)) (unheld (key_at w (place_of w x))) (body_of w (place_of w x)) t
  pub known : still ≡ false → eqb count 0 ≡ false → (held_in w key).known ≡ true →
      Stands kind s w v.words x.at t (key_at w x.at) (limit_in kind s rate) x.factor x.factor_time 1
      (rules.reset_to (window_ticks s) t mode count (held_in w key).buckets)
  pub lone : still ≡ false → eqb count 0 ≡ false → (held_in w key).known ≡ false → (held_in w key).cached ≡ true →
      Stands kind s w v.words (place_of w x) t (key_at w (place_of w x)) (limit_in kind s rate) x.factor x.factor_time 1 (bucket count 0 t ∷ [])
  pub new : still ≡ false → eqb count 0 ≡ false → (held_in w key).known ≡ false → (held_in w key).cached ≡ false →
      Stands kind s w v.words (place_of w x) t (key_for key) (limit_in kind s rate) 0 0 1 (bucket count 0 t ∷ [])

-- "Clear removes the caller's keys only": every slot with its mark is free then, and no word changes but those that say so and the last reading
pub record ClearRule (w : List ℕ) (m t : ℕ) (v : Verdict (Result (Unit {0}) Refusal)) : Type 0 where
  pub answer : v.answer ≡ Ok tt
  pub leaves : Cleared w v.words m t

-- "Cleanup drops a series with no bucket or whose newest age is over the stale time; a cached factor stays only at an age below it": no word changes but
-- uses, who holds a slot and the last reading, and what stays is sound
pub record CleanRule (kind : RoomKind) (s : Settings) (w v : List ℕ) (t stale : ℕ) : Type 0 where
  pub leaves : Cleaned w v t (ticks_in s) stale
  pub sound : (i : ℕ) → i < slots_of w → holder_of v i ≢ 0 → sound_slot kind s v i ≡ true

-- ---- and that they do it

module _ (kind : RoomKind) (s : Settings) (w : List ℕ) (t : ℕ) (key : Sent) (p : Passed kind s w t key) where
  abbrev x : Slot
  x = slot_in s w t key

  abbrev h : Held
  h = held_in w key

  o : Seen (window_ticks s) t true (held_in w key) (slot_in s w t key)
  o = seen kind s w t key p

  rate-does : (rate : RateLimit) → rate_ok rate.0 ≡ true → (v : Verdict (Result (Option RateLimit) Refusal)) → v.answer ≡ Ok (rules.old_rate kind s (held_in w key)) →
      v.words ≡ applied w (slot_in s w t key).at key (join_ticks s) t (limiting (slot_in s w t key) (limit_in kind s rate)) →
      RateRule kind s w t key rate (slot_in s w t key) v
  unfolding limiting
  rate-does rate r v a b =
      let l = limit_in kind s rate in
      record {
        answer = a;
        known = λ e.
            let g = o.series-is ∙ e in
            subst (λ (y : List ℕ). Stands kind s w y x.at t (key_at w x.at) l x.factor x.factor_time (used_with x l) h.buckets) (sym b)
            (subst (λ (ys : List Bucket). Stands kind s w (applied w x.at key (join_ticks s) t (limiting x l)) x.at t (key_at w x.at) l x.factor
            x.factor_time (used_with x l) ys)
            (held-there kind s w t key p g) (rate-stands kind s w t key p rate r g));
        unknown = λ e.
            b ∙ ap (λ (z : Bool). applied w x.at key (join_ticks s) t (cond z (Update (relimited (keeping x Nothing) l (used_with x l))) Keep))
            (o.series-is ∙ e) ∙
            keep-words w x.at key (join_ticks s) t;
      }

  set_does : (rate : RateLimit) (comparator : RateLimitComparator) (count : ℕ) (mode : HistoryUpdateMode) (still : Bool) → Bytes key.bytes →
      rate_ok rate.0 ≡ true → count ≤ most_total →
      (still ≡ false → (slot_in s w t key).series ≡ false → (slot_in s w t key).cached ≡ false → place_of w (slot_in s w t key) < slots_of w) →
      (v : Verdict (Result ConditionalSetOutcome Refusal)) → v.answer ≡ Ok (rules.outcome s t still comparator count (held_in w key)) →
      v.words ≡ applied w (place_of w (slot_in s w t key)) key (join_ticks s) t (setting (slot_in s w t key) still (limit_in kind s rate) count mode) →
      SetRule kind s w t key rate comparator count mode still (slot_in s w t key) v
  set_does rate comparator count mode still y r m inside v a b =
      let l = limit_in kind s rate in
      let after : Bool → List ℕ = λ (z : Bool). applied w (place_of w x) key (join_ticks s) t (setting x z l count mode) in
      let at : still ≡ false → after false ≡ v.words = λ i. ap after (sym i) ∙ sym b in
      record {
        answer = a;
        keeps = λ i. b ∙ ap after i ∙ set_keeps kind s w t key p l count mode;
        goes = λ i z e. subst (λ (u : List ℕ). Changed w u (place_of w x) (use_of w (place_of w x)) (unheld (key_at w (place_of w x))) (body_of w (place_of w x)) t)
            (at i)
            (set-frees kind s w t key p l count mode (o.series-is ∙ e) z);
        known = λ i z e.
            let g = o.series-is ∙ e in
            subst (λ (u : List ℕ). Stands kind s w u x.at t (key_at w x.at) l x.factor x.factor_time 1
            (rules.reset_to (window_ticks s) t mode count h.buckets)) (at i)
            (subst (λ (ys : List Bucket). Stands kind s w (after false) x.at t (key_at w x.at) l x.factor x.factor_time 1
            (rules.reset_to (window_ticks s) t mode count ys))
            (held-there kind s w t key p g) (set-stands kind s w t key p rate count mode r g z m));
        lone = λ i z e c.
            subst (λ (u : List ℕ). Stands kind s w u (place_of w x) t (key_at w (place_of w x)) l x.factor x.factor_time 1 (bucket count 0 t ∷ [])) (at i)
            (set-begins-lone kind s w t key p rate count mode r (o.series-is ∙ e) (o.cached-is ∙ c) z m);
        new = λ i z e c.
            let g = o.series-is ∙ e in
            let d = o.cached-is ∙ c in
            subst (λ (u : List ℕ). Stands kind s w u (place_of w x) t (key_for key) l 0 0 1 (bucket count 0 t ∷ [])) (at i)
            (set-begins kind s w t key p rate count mode y r g d z m (inside i g d));
      }

-- ---- the calls

module _ (kind : RoomKind) (s : Settings) (w : List ℕ) (t : ℕ) (key : Sent) where
  passing : (own : List (ℕ × Bool)) → first (refusals kind s w t key own) ≡ 0 → Passed kind s w t key
  passing own e = passed kind s w t key (unrefused-early kind s w t key own e)

  pub rate-follows : (rate : RateLimit) → first (refusals kind s w t key (rules.rate_turns rate)) ≡ 0 →
      RateRule kind s w t key rate (slot_in s w t key) (Rate.set_rate_limit kind s w t key rate)
  unfolding Rate.set_rate_limit rules.rate_turns
  rate-follows rate e =
      let own = rules.rate_turns rate in
      let g = all-false own (omega arith) (unrefused-own kind s w t key own e) in
      (follows refuse _ w _ (RateRule kind s w t key rate (slot_in s w t key))
      (λ z. rate-does kind s w t key (passing own e) rate (not-false (rate_ok rate.0) g.0) _ refl refl)).done e

  pub delete-follows : first (refusals kind s w t key []) ≡ 0 → DeleteRule s w t key (slot_in s w t key) (Delete.delete kind s w t key)
  unfolding Delete.delete
  delete-follows e =
      let p = passing [] e in
      let i = has-is (window_ticks s) t true (held_in w key) (slot_in s w t key) (seen kind s w t key p) in
      (follows refuse _ w _ (DeleteRule s w t key (slot_in s w t key))
      (λ z. record { answer = refl; frees = λ g. delete-frees kind s w t key p (i ∙ g); keeps = λ g. delete-keeps kind s w t key p (i ∙ g) })).done e

  pub set-follows : (rate : RateLimit) (comparator : RateLimitComparator) (count : ℕ) (mode : HistoryUpdateMode) → Bytes key.bytes →
      first (refusals kind s w t key (rules.set_turns kind s (none_left w key.caller) t rate comparator count mode (held_in w key))) ≡ 0 →
      SetRule kind s w t key rate comparator count mode (rules.still_for kind s t rate comparator count mode (held_in w key)) (slot_in s w t key)
      (Sets.set kind s w t key rate comparator count mode)
  unfolding Sets.set
  set-follows rate comparator count mode y e =
      let x = slot_in s w t key in
      let h = held_in w key in
      let own = rules.set_turns kind s (none_left w key.caller) t rate comparator count mode h in
      let still = rules.still_for kind s t rate comparator count mode h in
      let p = passing own e in
      let g = all-false own (omega arith) (unrefused-own kind s w t key own e) in
      let l = lacks-is (window_ticks s) t true h x (seen kind s w t key p) (none_left w key.caller) in
      (follows refuse _ w _ (SetRule kind s w t key rate comparator count mode still x)
      (λ z.
      set_does kind s w t key p rate comparator count mode still y (not-false (rate_ok rate.0) g.0) (ltb-false most_total count g.1.0)
      (λ i f c. place-free kind s w t key p f c
      (ap (λ (b : Bool). not b && lacks_at (none_left w key.caller) x) (sym i) ∙ ap (λ (b : Bool). not still && b) l ∙ g.1.1.0)) _ refl refl)).done e
