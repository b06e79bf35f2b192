-- What the code decides on an opened slot is what the absolute limiter's rules say of what the key holds; so its calls are those of `Calls.antt`.
-- Assumes nothing.
use Rattle.std.specs.Prelude.{◌≡◌, Bool, ◌||◌, length, get_or, drop, Ok}
use Rattle.std.proofs.Math.Path.{refl, sym, ap, ap₂}
use Rattle.std.proofs.Common.{◌∙◌, add-zero, arith, length-drop, get_or-drop}
use Rattle.std.proofs.Math.Bool.{true, false, not, ◌&&◌}
use mathlib.Core.List.{List, [], ◌∷◌}
use Prim.Native.Nat.{ℕ, ◌+◌, ◌-◌, ◌<◌}
use Rattle.std.proofs.Math.Dec.{ltb}
use borrow.Author.Tests.{lt-ltb, le-ltb, ltb-true, ltb-false, eqb-true}
use Rattle.common.specs.Limits.{cut_word}
use Rattle.common.specs.Ranges.{rate_ok}
use Rattle.settings.specs.Settings.{window_in}
use Rattle.settings.specs.Clock.{age_in_milliseconds, ticks_in, window_in_milliseconds, window_ticks, look_ticks, join_ticks}
use Rattle.settings.specs.declared.Settings.{Settings}
use Rattle.answers.specs.declared.RateLimitDecision.{RateLimitDecision}
use Rattle.answers.specs.declared.RateLimitDecision.TheVariants as decision
use Rattle.common.specs.declared.units.RateLimit.{RateLimit}
use Rattle.rules.specs.Buckets as rules
use Rattle.rules.specs.Buckets.{out_if}
use Rattle.ring.specs.declared.Bucket.{Bucket}
use Rattle.ring.specs.Ring.{no_bucket, sum_of, counts}
use Rattle.rules.specs.declared.RoomKind.TheVariants.{Absolute}
use Rattle.rules.specs.Held.{Held}
use Rattle.rules.specs.Both.{limit_in, overdue_in, looked_of, passes, ring_full}
use Rattle.rules.specs.Absolute.{below, tests_again, tested, whole_limit, allowed, pick_decision, rejection, decided, takes_out, out_for, found_for, inc_turns}
use Rattle.room.specs.Room.{slots_of, ring_of, use_of}
use Rattle.parties.specs.Parties.{Sent, none_left}
use Rattle.change.specs.Words.{applied}
use Rattle.sweep.specs.declared.tally.Mark.{Mark}
use Rattle.sweep.specs.Sweep.{mark}
use Rattle.opened.specs.declared.Slot.{Slot}
use Rattle.judge.specs.Held.{held_in}
use Rattle.judge.proofs.Held.{held-here, held_none}
use Rattle.judge.specs.Judge.{Passed, slot_in, looked_in}
use Rattle.opened.specs.Look.{look-total}
use Rattle.opened.specs.Slot.{has_slot}
use Rattle.opened.specs.Sound.{has_series, has_cached, right_use, addressed}
use Rattle.judge.proofs.Verdict.{call-alike}
use Rattle.plan.specs.Plan.{place_of, lacks_at, full_after}
use Rattle.plan.specs.Known.{found, none, use-right}
use Rattle.plan.specs.Seen.{Seen, seen, seen-looked, full-after, lacks-is}
use Rattle.absolute_opened.specs.Opened.{clears_at, in_order, inc_refusals, ask_change, inc_change}
use Rattle.absolute_test.specs.Test.{gone_if, total_if, evicts, allowed_at, rejected_at, decided_at}
use Rattle.absolute_verdicts.specs.Calls as Calls
use Rattle.absolute_verdicts.specs.Opened.{may_in, again_in, decided_in, out_in, inc_own, inc_makes, get, is_allowed, inc}
use Rattle.common.specs.Refusals.{refuse}

or-false : (z : Bool) → z || false ≡ z
or-false true = refl
or-false false = refl

module _ (s : Settings) (w : List ℕ) (t : ℕ) (key : Sent) (p : Passed Absolute s w t key) where
  abbrev h : Held
  h = held_in w key

  abbrev x : Slot
  x = slot_in s w t key

  abbrev W : ℕ
  W = window_ticks s

  o : Seen (window_ticks s) t true (held_in w key) (slot_in s w t key)
  o = seen Absolute s w t key p

  -- as a first look leaves it
  abbrev y : Slot
  y = looked_in s w t key

  looks : Seen (window_ticks s) t (overdue_in s t (held_in w key)) (held_in w key) (looked_in s w t key)
  looks = seen-looked s t h x o

  -- ---- in an absolute room a slot in use has a series

  pub use-one : addressed w key < slots_of w → use_of w (addressed w key) ≡ 1
  unfolding right_use
  use-one l = eqb-true (use_of w (addressed w key)) 1 (use-right Absolute s w t (addressed w key) (slot_in s w t key) (found Absolute s w t key p l))

  pub known-here : addressed w key < slots_of w → (held_in w key).known ≡ true
  known-here l = ap (λ (g : Held). g.known) (held-here w key l) ∙ ap (λ (u : ℕ). has_series u) (use-one l)

  not-cached : (slot_in s w t key).cached ≡ false
  not-cached = o.cached-is ∙ go (ltb (addressed w key) (slots_of w)) refl
    where
      go : (z : Bool) → ltb (addressed w key) (slots_of w) ≡ z → (held_in w key).cached ≡ false
      go true e = let l = ltb-true _ _ e in ap (λ (g : Held). g.cached) (held-here w key l) ∙ ap (λ (u : ℕ). has_cached u) (use-one l)
      go false e = ap (λ (g : Held). g.cached) (held_none w key (ltb-false _ _ e))

  pub has-series : has_slot (slot_in s w t key) ≡ (slot_in s w t key).series
  has-series = ap (λ (z : Bool). x.series || z) not-cached ∙ or-false x.series

  -- so its words are there, or it has none
  pub limit-whole : (slot_in s w t key).limit ≡ (held_in w key).limit
  limit-whole = go (ltb (addressed w key) (slots_of w)) refl
    where
      go : (z : Bool) → ltb (addressed w key) (slots_of w) ≡ z → (slot_in s w t key).limit ≡ (held_in w key).limit
      go true e = o.limit_is (known-here (ltb-true _ _ e))
      go false e = let l = ltb-false _ _ e in ap (λ (y : Slot). y.limit) (none Absolute s w t key p l) ∙ sym (ap (λ (g : Held). g.limit) (held_none w key l))

  total-whole : (slot_in s w t key).total ≡ counts (held_in w key).buckets
  unfolding sum_of
  total-whole = go (ltb (addressed w key) (slots_of w)) refl
    where
      go : (z : Bool) → ltb (addressed w key) (slots_of w) ≡ z → (slot_in s w t key).total ≡ counts (held_in w key).buckets
      go true e = o.total-is (known-here (ltb-true _ _ e))
      go false e =
          let l = ltb-false _ _ e in
          ap (λ (y : Slot). y.total) (none Absolute s w t key p l) ∙ sym (ap (λ (g : Held). counts g.buckets) (held_none w key l))

  whole_is : cut_word (slot_in s w t key).limit ≡ whole_limit (held_in w key)
  whole_is = ap (λ (n : ℕ). cut_word n) limit-whole

  -- ---- with the expired buckets out, or not

  pub total-out : (out : Bool) → total_if out (slot_in s w t key) ≡ counts (out_if out (window_ticks s) t (held_in w key).buckets)
  total-out true = o.live-is
  total-out false = total-whole

  pub rest_out : (out : Bool) → drop (gone_if out (slot_in s w t key)) (held_in w key).buckets ≡ out_if out (window_ticks s) t (held_in w key).buckets
  rest_out true = ap (λ (k : ℕ). drop k (held_in w key).buckets) o.gone-is
  rest_out false = refl

  pub full-out : (r b : ℕ) (out : Bool) → full_after r b t (gone_if out (slot_in s w t key)) (slot_in s w t key) ≡
      ring_full r b t (out_if out (window_ticks s) t (held_in w key).buckets)
  full-out r b out = full-after r b t (gone_if out x) x h.buckets o.length-is o.newest-is ∙ ap (ring_full r b t) (rest_out out)

  -- ---- who is allowed

  again-at : (n : ℕ) → evicts n (slot_in s w t key) ≡ tests_again n (held_in w key).buckets
  unfolding evicts
  again-at n = ap (λ (m : ℕ). not (below n m)) total-whole

  -- the total that the last test is made on
  total-looked : (z : Bool) → total_if z (looked_in s w t key) ≡ counts (out_if (z && overdue_in s t (held_in w key)) (window_ticks s) t (held_in w key).buckets)
  total-looked true = looks.live-is
  total-looked false = look-total (look_ticks s) t x ∙ total-whole

  again-looked : (n : ℕ) → evicts n (looked_in s w t key) ≡ tests_again n (held_in w key).buckets
  unfolding evicts
  again-looked n = ap (λ (m : ℕ). not (below n m)) (look-total (look_ticks s) t x ∙ total-whole)

  pub again-is : again_in (slot_in s w t key) ≡ tests_again (whole_limit (held_in w key)) (held_in w key).buckets
  again-is = again-at (cut_word x.limit) ∙ ap (λ (n : ℕ). tests_again n h.buckets) whole_is

  pub may-is : may_in s t (slot_in s w t key) ≡ allowed s t (held_in w key)
  unfolding allowed_at allowed tested
  may-is =
      let n = cut_word x.limit in
      let e = ap (λ (z : Bool). total_if z y) (again-looked n) ∙ total-looked (tests_again n h.buckets) in
      ap₂ (λ (z : Bool) (m : ℕ). not z || below n m) looks.series-is e ∙
      ap (λ (m : ℕ). not h.known || below m (counts (out_if (tests_again m h.buckets && overdue_in s t h) W t h.buckets))) whole_is

  rejected-is : rejected_at (ticks_in s) s.window_size t (looked_in s w t key) ≡ rejection (ticks_in s) s.window_size t (looked_of s t (held_in w key))
  unfolding rejected_at
  rejected-is = go (looked_of s t h) (length-drop (gone h) h.buckets) (get_or-drop (gone h) h.buckets 0 no_bucket)
    where
      gone : Held → ℕ
      gone g = rules.gone_if (overdue_in s t g) (window_ticks s) t g.buckets

      by : Bool → RateLimitDecision
      by z =
          pick_decision z
          (decision.Rejected s.window_size
          (window_in_milliseconds (window_in s) - age_in_milliseconds (ticks_in s) t (looked_in s w t key).pass.oldest.time)
          (looked_in s w t key).pass.oldest.count)
          (decision.Rejected s.window_size 0 0)

      oldest : (ys : List Bucket) → get_or ys 0 no_bucket ≡ get_or (held_in w key).buckets (gone (held_in w key) + 0) no_bucket →
          (looked_in s w t key).pass.oldest ≡ mark (get_or ys 0 no_bucket)
      oldest ys g =
          looks.oldest-is ∙ ap (λ (i : ℕ). mark (get_or (held_in w key).buckets i no_bucket)) (sym (add-zero (gone (held_in w key)))) ∙
          ap (λ (y : Bucket). mark y) (sym g)

      go : (ys : List Bucket) → length ys ≡ length (held_in w key).buckets - gone (held_in w key) →
          get_or ys 0 no_bucket ≡ get_or (held_in w key).buckets (gone (held_in w key) + 0) no_bucket →
          by (ltb (looked_in s w t key).pass.expired (looked_in s w t key).pass.buckets) ≡ rejection (ticks_in s) s.window_size t ys
      go [] l g = ap by (le-ltb (looked_in s w t key).pass.expired (looked_in s w t key).pass.buckets (omega (arith, looks.gone-is, looks.length-is, l)))
      go (z ∷ ys) l g =
          ap by (lt-ltb (looked_in s w t key).pass.expired (looked_in s w t key).pass.buckets (omega (arith, looks.gone-is, looks.length-is, l))) ∙
          ap (λ (q : Mark). decision.Rejected s.window_size (window_in_milliseconds (window_in s) - age_in_milliseconds (ticks_in s) t q.time) q.count)
          (oldest (z ∷ ys) g)

  pub decided-is : decided_in s t (slot_in s w t key) ≡ decided s t (held_in w key)
  unfolding decided_at decided
  decided-is = ap₂ (λ (a : Bool) (d : RateLimitDecision). pick_decision a decision.Allowed d) may-is rejected-is

  -- ---- an increment

  module _ (rate : RateLimit) (c : ℕ) where
    abbrev r : ℕ
    r = ring_of w

    abbrev b : ℕ
    b = join_ticks s

    pub out-is : out_in s w t c (slot_in s w t key) ≡ out_for s (ring_of w) t c (held_in w key)
    unfolding clears_at takes_out
    out-is =
        ap₂ (λ (y z : Bool). y || z) again-is
        (ap₂ (λ (y z : Bool). y || z) (ap (passes c) total-whole) (full-out r b false))

    found-total : total_if (out_in s w t c (slot_in s w t key)) (slot_in s w t key) ≡ counts (found_for s (ring_of w) t c (held_in w key))
    found-total = total-out (out_in s w t c x) ∙ ap (λ (z : Bool). counts (out_if z W t h.buckets)) out-is

    found-full : full_after (ring_of w) (join_ticks s) t (gone_if (out_in s w t c (slot_in s w t key)) (slot_in s w t key)) (slot_in s w t key) ≡
        ring_full (ring_of w) (join_ticks s) t (found_for s (ring_of w) t c (held_in w key))
    found-full = full-out r b (out_in s w t c x) ∙ ap (λ (z : Bool). ring_full r b t (out_if z W t h.buckets)) out-is

    pub own_is : inc_own s w (none_left w key.caller) t rate c (slot_in s w t key) ≡ inc_turns s (ring_of w) (none_left w key.caller) t rate c (held_in w key)
    unfolding inc_refusals
    own_is =
        let ten = ap₂ (λ (y : Bool) (n : ℕ). y && passes c n) may-is found-total in
        let twelve = ap₂ ◌&&◌ may-is found-full in
        ap₂ (λ (y z : Bool). in_order (rate_ok rate.0) y (lacks_at (none_left w key.caller) x) z) ten twelve ∙
        ap (λ (y : Bool). in_order (rate_ok rate.0) (allowed s t h && passes c (counts (found_for s r t c h))) y
        (allowed s t h && ring_full r b t (found_for s r t c h)))
        (lacks-is W t true h x o (none_left w key.caller))

    pub makes-is : inc_makes s w t rate c (slot_in s w t key) ≡
        inc_change (limit_in Absolute s rate) c (allowed s t (held_in w key)) (out_for s (ring_of w) t c (held_in w key)) (slot_in s w t key) (looked_in s w t key)
    makes-is = ap₂ (λ (a z : Bool). inc_change (limit_in Absolute s rate) c a z x y) may-is out-is

-- ---- so the calls are those that the contracts name

module _ (s : Settings) (w : List ℕ) (t : ℕ) (key : Sent) where
  pub get-opened : get s w t key ≡ Calls.get s w t key
  unfolding get Calls.get
  get-opened =
      call-alike refuse Absolute s w t key [] [] _ _
      (λ p. record { owns = refl; answers = ap (λ (n : ℕ). Ok n) (seen Absolute s w t key p).live-is; wordings = refl })

  pub ask-opened : is_allowed s w t key ≡ Calls.is_allowed s w t key
  unfolding is_allowed Calls.is_allowed
  ask-opened =
      let x = slot_in s w t key in
      call-alike decision.Refused Absolute s w t key [] [] _ _
      (λ p. record {
        owns = refl;
        answers = decided-is s w t key p;
        wordings = ap (λ (z : Bool). applied w x.at key (join_ticks s) t (ask_change z (looked_in s w t key))) (again-is s w t key p);
      })

  pub inc-opened : (rate : RateLimit) (c : ℕ) → inc s w t key rate c ≡ Calls.inc s w t key rate c
  unfolding inc Calls.inc
  inc-opened rate c =
      let x = slot_in s w t key in
      call-alike decision.Refused Absolute s w t key _ _ _ _
      (λ p. record {
        owns = own_is s w t key p rate c;
        answers = decided-is s w t key p;
        wordings = ap (applied w (place_of w x) key (join_ticks s) t) (makes-is s w t key p rate c);
      })
