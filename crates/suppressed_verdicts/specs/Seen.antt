-- What the code works out on an opened slot is what the suppressed limiter's rules say of what the key holds; so its calls are those of `Calls.antt`.
-- Assumes nothing.
use Rattle.std.specs.Prelude.{◌≡◌, Bool, not, ◌&&◌, ◌||◌, List, [], ◌∷◌, Float, length, drop, Ok, Some}
use Rattle.std.proofs.Math.Path.{refl, sym, ap, ap₂}
use Rattle.std.proofs.Common.{◌∙◌, arith, length-drop, eq-eqb}
use Rattle.std.proofs.Math.Bool.{true, false, cond}
use Rattle.std.proofs.lemmas.Bool.{false≢true}
use Prim.Native.Nat.{ℕ, ◌+◌, ◌-◌}
use Rattle.std.proofs.Math.Dec.{ltb, eqb}
use Rattle.answers.specs.HistoryMode.{no_snapshot}
use Rattle.common.specs.Limits.{cut_word, soft_word}
use Rattle.common.specs.Ranges.{nil}
use Rattle.settings.specs.Settings.{window_in, factor_in, cache_in}
use Rattle.settings.specs.Clock.{age, ticks_in, window_ticks, look_ticks, join_ticks, cache_ticks, ticks-some, cut_below}
use Rattle.answers.specs.declared.RateLimitDecision.TheVariants as decision
use Rattle.answers.specs.declared.SuppressedRateLimitSnapshot.{SuppressedRateLimitSnapshot}
use Rattle.settings.specs.declared.Settings.{Settings}
use Rattle.common.specs.declared.units.RateLimit.{RateLimit}
use Rattle.rules.specs.Buckets.{recent, ahead, gone_if, out_if, last_second}
use Rattle.ring.specs.declared.Bucket.{Bucket}
use Rattle.ring.specs.Ring.{sum_of, counts, declineds, buckets}
use Rattle.rules.specs.declared.Asked.{Asked}
use Rattle.rules.specs.declared.FactorRule.{FactorRule}
use Rattle.rules.specs.declared.FactorRule.TheVariants.{Nil}
use Rattle.rules.specs.declared.Outcome.{Outcome}
use Rattle.rules.specs.declared.RoomKind.TheVariants.{Suppressed}
use Rattle.rules.specs.Held.{Held, lacks_slot}
use Rattle.rules.specs.Both.{limit_in, live_of, overdue_in, looked_of, unrated, passes, ring_full}
use Rattle.rules.specs.Suppressed as rules
use Rattle.room.specs.Room.{ring_of, body_of}
use Rattle.parties.specs.Parties.{Sent, none_left}
use Rattle.change.specs.Words.{applied}
use Rattle.opened.specs.declared.Slot.{Slot}
use Rattle.judge.specs.Held.{held_in}
use Rattle.judge.specs.Judge.{Passed, slot_in, looked_in}
use Rattle.judge.proofs.Verdict.{call-alike}
use Rattle.plan.specs.Plan.{place_of, lacks_at, full_after}
use Rattle.opened.specs.Look.{look_at, look-series}
use Rattle.plan.specs.Seen.{Seen, seen, seen-looked, held-there, full-after, lacks-is}
use Rattle.factor_opened.specs.Opened.{left, stays_at, usable_at, rule_at, second_at, worked_at, asked_at}
use Rattle.forecast_opened.specs.Forecast.{forecast_at, outcome_at}
use Rattle.suppressed_edits.specs.Edits.{get_change, factor_change, inc_change}
use Rattle.suppressed_refusals.specs.Refusals.{inc_numbers, inc_late}
use Rattle.suppressed_verdicts.specs.Calls as Calls
use Rattle.suppressed_verdicts.specs.Opened.{asking_at, snapshot_at, get_on, get, factor_on, get_factor}
use Rattle.suppressed_verdicts.specs.Opened.{limit_at, inc_outcome, inc_on, inc}
use Rattle.common.specs.Refusals.{refuse}

-- ---- "no series or no bucket 0", whatever the limits

abbrev nil_asked : ℕ → Asked
nil_asked t = record { factor = nil; caching = Some (rules.cached_at nil t) }

fresh-none : (S H W n t : ℕ) (xs : List Bucket) → length xs ≡ 0 → rules.fresh_on S H W n t xs ≡ nil_asked t
fresh-none S H W n t xs e =
    let worked = rules.clauses S H false (counts xs) (declineds xs) in
    ap (λ (b : Bool). rules.freshly (cond b Nil worked) S W t (counts xs) (last_second n t xs))
    (eq-eqb (length xs) 0 e)

none-counted : (n t : ℕ) (xs : List Bucket) → length xs ≡ 0 → last_second n t xs ≡ 0
unfolding recent sum_of
none-counted n t [] e = refl
none-counted n t (x ∷ xs) e = absurd (omega arith)

-- ---- of a slot x that is seen as h, with the expired buckets out or not

module _ (s : Settings) (t : ℕ) (out : Bool) (h : Held) (x : Slot) (o : Seen (window_ticks s) t out h x) where
  abbrev xs : List Bucket
  xs = out_if out (window_ticks s) t h.buckets

  none-gone : (z : Bool) → gone_if z (window_ticks s) t [] ≡ 0
  unfolding ahead
  none-gone true = refl
  none-gone false = refl

  none-left : h.known ≡ false → length (out_if out (window_ticks s) t h.buckets) ≡ 0
  none-left e = ap (λ (ys : List Bucket). length (out_if out (window_ticks s) t ys)) (o.absent e) ∙
      ap (λ (k : ℕ). length (drop {A = Bucket} k [])) (none-gone out)

  left_is : left x ≡ length (out_if out (window_ticks s) t h.buckets)
  left_is = ap₂ ◌-◌ o.length-is o.gone-is ∙ sym (length-drop (gone_if out (window_ticks s) t h.buckets) h.buckets)

  -- "no series or no bucket": one without a series has none
  none_is : not x.series || eqb (left x) 0 ≡ eqb (length (out_if out (window_ticks s) t h.buckets)) 0
  none_is = go h.known refl
    where
      go : (z : Bool) → h.known ≡ z → not x.series || eqb (left x) 0 ≡ eqb (length (out_if out (window_ticks s) t h.buckets)) 0
      go true e = ap₂ (λ (z : Bool) (n : ℕ). not z || eqb n 0) (o.series-is ∙ e) left_is
      go false e = ap₂ (λ (z : Bool) (n : ℕ). not z || eqb n 0) (o.series-is ∙ e) left_is ∙ sym (ap (λ (n : ℕ). eqb n 0) (none-left e))

  pub stays-is : stays_at x ≡ rules.stays s t out h
  unfolding stays_at rules.stays
  stays-is = ap₂ (λ (y : Bool) (n : ℕ). y && eqb n 0) o.cached-is o.gone-is

  -- where it is cached, its words are there; "at age below C", cut to milliseconds
  pub usable-is : usable_at (cache_ticks s) t x ≡ rules.usable s t out h
  unfolding usable_at stays_at rules.stays
  usable-is = go h.cached refl ∙ ap (λ (z : Bool). rules.stays s t out h && z) (sym (cut_below (ticks_in s) (ticks-some s) (age t h.since) (cache_in s)))
    where
      go : (z : Bool) → h.cached ≡ z →
          (x.cached && eqb x.pass.expired 0) && ltb (age t x.factor_time) (cache_ticks s) ≡
          (h.cached && eqb (gone_if out (window_ticks s) t h.buckets) 0) && ltb (age t h.since) (cache_ticks s)
      go true e =
          ap₂ (λ (y : Bool) (n : ℕ). (y && eqb n 0) && ltb (age t x.factor_time) (cache_ticks s)) o.cached-is o.gone-is ∙
          ap (λ (m : ℕ). (h.cached && eqb (gone_if out (window_ticks s) t h.buckets) 0) && ltb (age t m) (cache_ticks s)) (o.since-is e)
      go false e =
          ap (λ (y : Bool). (y && eqb x.pass.expired 0) && ltb (age t x.factor_time) (cache_ticks s)) (o.cached-is ∙ e) ∙
          sym (ap (λ (y : Bool). (y && eqb (gone_if out (window_ticks s) t h.buckets) 0) && ltb (age t h.since) (cache_ticks s)) e)

  rule-is : (S H : ℕ) → rule_at S H x ≡ rules.rule_on S H (out_if out (window_ticks s) t h.buckets)
  unfolding rule_at
  rule-is S H =
      ap (λ (z : Bool). rules.clauses S H z x.pass.live_total x.pass.live_declined) none_is ∙
      ap₂ (λ (m n : ℕ). rules.clauses S H (eqb (length xs) 0) m n) o.live-is o.declined-is

  -- the cached word is asked for only where it is there
  asked_by : (u : Bool) → rules.usable s t out h ≡ u → (a : Asked) → cond u (rules.as_cached x.factor) a ≡ cond u (rules.as_cached h.factor) a
  unfolding rules.stays
  asked_by true e a = ap (λ (n : ℕ). rules.as_cached n) (o.factor-is (cached-of h.cached _ _ e))
    where
      cached-of : (y z u : Bool) → (y && z) && u ≡ true → y ≡ true
      cached-of true z u e = refl
      cached-of false z u e = absurd (false≢true e)
  asked_by false e a = refl

  -- ---- a series has its own limit

  pub limit_is : (rate : RateLimit) → limit_at s x rate ≡ rules.limit_for s rate h
  unfolding limit_at
  limit_is rate = go h.known refl
    where
      hard : ℕ
      hard = limit_in Suppressed s rate

      go : (z : Bool) → h.known ≡ z → cond x.series x.limit (limit_in Suppressed s rate) ≡ cond h.known h.limit (limit_in Suppressed s rate)
      go true e =
          ap (λ (y : Bool). cond y x.limit (limit_in Suppressed s rate)) (o.series-is ∙ e) ∙ o.limit_is e ∙
          sym (ap (λ (y : Bool). cond y h.limit (limit_in Suppressed s rate)) e)
      go false e =
          ap (λ (y : Bool). cond y x.limit (limit_in Suppressed s rate)) (o.series-is ∙ e) ∙
          sym (ap (λ (y : Bool). cond y h.limit (limit_in Suppressed s rate)) e)

  -- of a room w whose last second is that of the buckets that are left
  module _ (w : List ℕ) (second : second_at (ticks_in s) w t x ≡ last_second (ticks_in s) t (out_if out (window_ticks s) t h.buckets)) where
    worked-is : (limit : ℕ) →
        worked_at (factor_in s) (window_in s) (ticks_in s) w t x limit ≡
        rules.fresh_on (soft_word (factor_in s) limit) (cut_word limit) (window_in s) (ticks_in s) t (out_if out (window_ticks s) t h.buckets)
    unfolding worked_at
    worked-is limit =
        let S = soft_word (factor_in s) limit in
        let H = cut_word limit in
        ap (λ (r : FactorRule). rules.freshly r S (window_in s) t x.pass.live_total (second_at (ticks_in s) w t x)) (rule-is S H) ∙
        ap₂ (λ (m n : ℕ). rules.freshly (rules.rule_on S H xs) S (window_in s) t m n) o.live-is second

    pub asked_is : (limit : ℕ) → asked_at s w t x limit ≡ rules.asked s t out limit h
    unfolding asked_at rules.asked
    asked_is limit =
        let fresh = rules.fresh_on (soft_word (factor_in s) limit) (cut_word limit) (window_in s) (ticks_in s) t xs in
        ap₂ (λ (u : Bool) (a : Asked). cond u (rules.as_cached x.factor) a) usable-is (worked-is limit) ∙ asked_by (rules.usable s t out h) refl fresh

    -- the factor of the key as it stands: without a series the limit does not matter
    pub asking-is : asking_at s w t x ≡ rules.asking s t out h
    unfolding rules.asked
    asking-is = go h.known refl
      where
        go : (z : Bool) → h.known ≡ z → asking_at s w t x ≡ rules.asking s t out h
        go true e = ap (λ (n : ℕ). asked_at s w t x n) (o.limit_is e) ∙ asked_is h.limit
        go false e = asked_is x.limit ∙ any-limit x.limit ∙ sym (any-limit h.limit)
          where
            any-limit : (n : ℕ) → rules.asked s t out n h ≡ cond (rules.usable s t out h) (rules.as_cached h.factor) (nil_asked t)
            any-limit n =
                ap (λ (a : Asked). cond (rules.usable s t out h) (rules.as_cached h.factor) a)
                (fresh-none (soft_word (factor_in s) n) (cut_word n) (window_in s) (ticks_in s) t (out_if out (window_ticks s) t h.buckets) (none-left e))

-- `get` evicts at once
snapshot-is : (s : Settings) (t : ℕ) (h : Held) (x : Slot) → Seen (window_ticks s) t true h x → (f : Float) → snapshot_at x f ≡ rules.snapshot_of s t h f
snapshot-is s t h x o f =
    ap (λ (z : Bool). cond z (record { total = x.pass.live_total; total_declined = x.pass.live_declined; suppression_factor = f }) no_snapshot)
    o.series-is ∙
    ap₂ (λ (m n : ℕ). cond h.known (record { total = m; total_declined = n; suppression_factor = f }) no_snapshot) o.live-is o.declined-is

-- an increment decides by a first look
module _ (s : Settings) (t : ℕ) (h : Held) (x : Slot) (o : Seen (window_ticks s) t (overdue_in s t h) h x) (w : List ℕ)
    (second : second_at (ticks_in s) w t x ≡ last_second (ticks_in s) t (looked_of s t h)) where
  pub outcome-is : (limit c draw : ℕ) → outcome_at s w t x limit (forecast_at x c) c draw ≡ rules.outcome s t limit c draw h
  unfolding outcome_at rules.outcome
  outcome-is limit c draw =
      let S = soft_word (factor_in s) limit in
      let H = cut_word limit in
      ap₂ (λ (m n : ℕ). rules.outcome_of (rules.reach_of (m - n + c) S H) (asked_at s w t x limit) t c draw) o.live-is
      o.declined-is ∙
      ap (λ (a : Asked). rules.outcome_of (rules.reach_of (rules.forecast (looked_of s t h) c) S H) a t c draw)
      (asked_is s t (overdue_in s t h) h x o w second limit)

-- ---- so the calls are those that the contracts name

module _ (s : Settings) (w : List ℕ) (t : ℕ) (key : Sent) where
  abbrev h : Held
  h = held_in w key

  pub sees : Passed Suppressed s w t key → Seen (window_ticks s) t true (held_in w key) (slot_in s w t key)
  sees p = seen Suppressed s w t key p

  pub looks : Passed Suppressed s w t key → Seen (window_ticks s) t (overdue_in s t (held_in w key)) (held_in w key) (looked_in s w t key)
  looks p = seen-looked s t h (slot_in s w t key) (sees p)

  -- the last second is that of the buckets that are left, of the slot as it is opened or as a first look leaves it
  second-of : Passed Suppressed s w t key → (out : Bool) (y : Slot) → Seen (window_ticks s) t out (held_in w key) y → y.at ≡ (slot_in s w t key).at →
      y.series ≡ (slot_in s w t key).series →
      second_at (ticks_in s) w t y ≡ last_second (ticks_in s) t (out_if out (window_ticks s) t (held_in w key).buckets)
  second-of p out y o at series = go y.series refl
    where
      go : (z : Bool) → y.series ≡ z → second_at (ticks_in s) w t y ≡ last_second (ticks_in s) t (out_if out (window_ticks s) t (held_in w key).buckets)
      go true e =
          ap (λ (z : Bool). cond z (last_second (ticks_in s) t (drop y.pass.expired (buckets (ring_of w) (body_of w y.at)))) 0) e ∙
          ap₂ (λ (i : ℕ) (ys : List Bucket). last_second (ticks_in s) t (drop i ys)) o.gone-is
          (ap (λ (i : ℕ). buckets (ring_of w) (body_of w i)) at ∙ held-there Suppressed s w t key p (sym series ∙ e))
      go false e =
          ap (λ (z : Bool). cond z (last_second (ticks_in s) t (drop y.pass.expired (buckets (ring_of w) (body_of w y.at)))) 0) e ∙
          sym (none-counted (ticks_in s) t (out_if out (window_ticks s) t h.buckets) (none-left s t out h y o (sym o.series-is ∙ e)))

  pub second_is : (p : Passed Suppressed s w t key) → second_at (ticks_in s) w t (slot_in s w t key) ≡ last_second (ticks_in s) t (live_of s t (held_in w key))
  second_is p = second-of p true (slot_in s w t key) (sees p) refl refl

  pub second-looked : (p : Passed Suppressed s w t key) → second_at (ticks_in s) w t (looked_in s w t key) ≡ last_second (ticks_in s) t (looked_of s t (held_in w key))
  second-looked p =
      second-of p (overdue_in s t h) (looked_in s w t key) (looks p) (look_at (look_ticks s) t (slot_in s w t key)) (look-series (look_ticks s) t (slot_in s w t key))

  pub get-opened : get s w t key ≡ Calls.get s w t key
  unfolding get get_on Calls.get
  get-opened =
      call-alike refuse Suppressed s w t key _ _ _ _
      (λ p.
      let x = slot_in s w t key in
      let a = asking-is s t true h x (sees p) w (second_is p) in
      record {
        owns = refl;
        answers =
            ap (λ (y : Asked). Ok (snapshot_at x y.factor)) a ∙
            ap (λ (y : SuppressedRateLimitSnapshot). Ok y) (snapshot-is s t h x (sees p) (rules.asking s t true h).factor);
        wordings = ap (λ (y : Asked). applied w x.at key (join_ticks s) t (get_change x y.caching)) a;
      })

  pub factor-opened : get_factor s w t key ≡ Calls.get_factor s w t key
  unfolding get_factor factor_on Calls.get_factor
  factor-opened =
      call-alike refuse Suppressed s w t key _ _ _ _
      (λ p.
      let x = looked_in s w t key in
      let a = asking-is s t (overdue_in s t h) h x (looks p) w (second-looked p) in
      record {
        owns = ap (λ (z : Bool). (11, z) ∷ []) (lacks-is (window_ticks s) t (overdue_in s t h) h x (looks p) (none_left w key.caller));
        answers = ap (λ (y : Asked). Ok y.factor) a;
        wordings = ap (λ (y : Asked). applied w (place_of w x) key (join_ticks s) t (factor_change x y.caching t)) a;
      })

  module _ (rate : RateLimit) (c draw : ℕ) where
    abbrev x : Slot
    x = looked_in s w t key

    pub decides : (p : Passed Suppressed s w t key) → inc_outcome s w t rate c draw (looked_in s w t key) ≡
        rules.outcome s t (rules.limit_for s rate (held_in w key)) c draw (held_in w key)
    decides p =
        ap (λ (l : ℕ). outcome_at s w t x l (forecast_at x c) c draw) (limit_is s t (overdue_in s t h) h x (looks p) rate) ∙
        outcome-is s t h x (looks p) w (second-looked p) (rules.limit_for s rate h) c draw

    -- 8 to 12, as the code judges them
    pub late_is : (p : Passed Suppressed s w t key) →
        inc_late s (looked_in s w t key) (lacks_at (none_left w key.caller) (looked_in s w t key)) (ring_of w) t rate c draw ≡
        inc_numbers (unrated rate) (ltb rules.most_draw draw) (passes c (counts (looked_of s t (held_in w key))))
        (lacks_slot (none_left w key.caller) (held_in w key)) (ring_full (ring_of w) (join_ticks s) t (looked_of s t (held_in w key)))
    late_is p =
        let o = looks p in
        let full = full-after (ring_of w) (join_ticks s) t x.pass.expired x h.buckets o.length-is o.newest-is ∙
        ap (λ (k : ℕ). ring_full (ring_of w) (join_ticks s) t (drop k h.buckets)) o.gone-is in
        ap₂ (λ (a b : Bool). inc_numbers (unrated rate) (ltb rules.most_draw draw) a b (full_after (ring_of w) (join_ticks s) t x.pass.expired x))
        (ap (passes c) o.live-is) (lacks-is (window_ticks s) t (overdue_in s t h) h x o (none_left w key.caller)) ∙
        ap (inc_numbers (unrated rate) (ltb rules.most_draw draw) (passes c (counts (looked_of s t h))) (lacks_slot (none_left w key.caller) h)) full

    pub inc-opened : inc s w t key rate c draw ≡ Calls.inc s w t key rate c draw
    unfolding inc inc_on Calls.inc
    inc-opened =
        call-alike decision.Refused Suppressed s w t key _ _ _ _
        (λ p. record {
          owns = late_is p;
          answers = ap (λ (y : Outcome). y.decision) (decides p);
          wordings =
              ap₂ (λ (l : ℕ) (y : Outcome). applied w (place_of w x) key (join_ticks s) t (inc_change x l c y.declined y.caching))
              (limit_is s t (overdue_in s t h) h x (looks p) rate) (decides p);
        })
