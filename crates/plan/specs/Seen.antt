-- What the code reads off a key's slot, opened, is what the rules say of what the key holds.
-- Assumes nothing.
use Rattle.std.specs.Prelude.{◌≡◌, Bool, ◌&&◌, ◌||◌, cond, ℕ, ◌-◌, ◌≤◌, ◌<◌, leb, ltb, length, get_or, drop}
use Rattle.std.proofs.Math.Path.{refl, ap}
use Rattle.std.proofs.Common.{sym, ap₂, subst, ◌∙◌, arith, length-drop, lt-ltb, le-ltb, ltb-true, ltb-false}
use Rattle.std.proofs.Math.Bool.{true, false, not}
use Rattle.std.proofs.lemmas.Bool.{false≢true}
use mathlib.Core.List.{List, []}
use Rattle.settings.specs.Clock.{window_ticks, look_ticks}
use Rattle.settings.specs.declared.Settings.{Settings}
use Rattle.rules.specs.Buckets.{ahead, gone, gone_if, out_if, newest, joins}
use Rattle.rules.proofs.Laws.{newest-drop}
use Rattle.sweep.specs.Sweep.{mark, pass_of, unsound}
use Rattle.sweep.specs.declared.tally.Pass.{Pass}
use Rattle.ring.specs.declared.Bucket.{Bucket}
use Rattle.ring.specs.Ring.{no_bucket, sum_of, counts, declineds, buckets}
use Rattle.ring.specs.View.{view-length}
use Rattle.rules.specs.declared.RoomKind.{RoomKind}
use Rattle.rules.specs.Held.{Held, nothing, has_any, lacks_slot}
use Rattle.rules.specs.Both.{overdue_in, ring_full}
use Rattle.room.specs.Room.{slots_of, ring_of, last_of, use_of, body_of}
use Rattle.parties.specs.Parties.{Sent}
use Rattle.opened.specs.declared.Slot.{Slot}
use Rattle.opened.specs.Sound.{limit_of, factor_of, factor_time_of, has_series, has_cached, addressed}
use Rattle.opened.specs.Slot.{no_slot, pick_pass, opened, has_slot, passing, all_stay, first_look}
use Rattle.judge.specs.Held.{held_by, held_of, held_in}
use Rattle.judge.proofs.Held.{held-here, held_none}
use Rattle.judge.specs.Judge.{Passed, slot_in}
use Rattle.plan.specs.Plan.{lacks_at, joins_after, full_after}
use Rattle.plan.specs.Looked.{by-overdue}
use Rattle.plan.specs.Known.{Found, Known, found, none, at-as, series-known, series-is, cached-is}

-- x is the slot of a key that holds h, opened at reading t; W is the window in ticks, out says whether the expired buckets are out
pub record Seen (W t : ℕ) (out : Bool) (h : Held) (x : Slot) : Type 0 where
  pub absent : h.known ≡ false → h.buckets ≡ []
  pub series-is : x.series ≡ h.known
  pub cached-is : x.cached ≡ h.cached
  pub limit_is : h.known ≡ true → x.limit ≡ h.limit
  pub total-is : h.known ≡ true → x.total ≡ counts h.buckets
  pub stored_is : h.known ≡ true → x.declined ≡ declineds h.buckets
  pub factor-is : h.cached ≡ true → x.factor ≡ h.factor
  pub since-is : h.cached ≡ true → x.factor_time ≡ h.since
  pub length-is : x.pass.buckets ≡ length h.buckets
  pub gone-is : x.pass.expired ≡ gone_if out W t h.buckets
  pub live-is : x.pass.live_total ≡ counts (out_if out W t h.buckets)
  pub declined-is : x.pass.live_declined ≡ declineds (out_if out W t h.buckets)
  pub oldest-is : x.pass.oldest ≡ mark (get_or h.buckets (gone_if out W t h.buckets) no_bucket)
  pub newest-is : x.pass.newest_time ≡ (newest h.buckets).time
  pub eldest-is : x.pass.eldest ≡ mark (get_or h.buckets 0 no_bucket)

-- ---- a slot that is there, and none

pass-of-none : (W t : ℕ) (x : Slot) (y : Bool) (factor since : ℕ) → x.series ≡ false → x.cached ≡ y → x.pass ≡ unsound →
    (y ≡ true → x.factor ≡ factor) → (y ≡ true → x.factor_time ≡ since) → Seen W t true (held_by false y 0 [] factor since) x
unfolding ahead sum_of
pass-of-none W t x y factor since e c p f m = record {
  absent = λ z. refl;
  series-is = e;
  cached-is = c;
  limit_is = λ z. absurd (false≢true z);
  total-is = λ z. absurd (false≢true z);
  stored_is = λ z. absurd (false≢true z);
  factor-is = λ z. f z ∙ sym (ap (λ (k : Bool). cond k factor 0) z);
  since-is = λ z. m z ∙ sym (ap (λ (k : Bool). cond k since 0) z);
  length-is = ap (λ (q : Pass). q.buckets) p;
  gone-is = ap (λ (q : Pass). q.expired) p;
  live-is = ap (λ (q : Pass). q.live_total) p;
  declined-is = ap (λ (q : Pass). q.live_declined) p;
  oldest-is = ap (λ (q : Pass). q.oldest) p;
  newest-is = ap (λ (q : Pass). q.newest_time) p;
  eldest-is = ap (λ (q : Pass). q.eldest) p;
}

module _ (kind : RoomKind) (s : Settings) (w : List ℕ) (t at : ℕ) (x : Slot) (f : Found kind s w t at x) where
  abbrev u : ℕ
  u = use_of w at

  abbrev b : List ℕ
  b = body_of w at

  abbrev held : Bool → Held
  held z = held_by z (has_cached (use_of w at)) (limit_of (body_of w at)) (buckets (ring_of w) (body_of w at)) (factor_of (body_of w at)) (factor_time_of (body_of w at))

  factor-as : x.factor ≡ factor_of b
  unfolding opened
  factor-as = ap (λ (y : Slot). y.factor) f.is

  since-as : x.factor_time ≡ factor_time_of b
  unfolding opened
  since-as = ap (λ (y : Slot). y.factor_time) f.is

  pass-as : has_series u ≡ false → x.pass ≡ unsound
  unfolding opened
  pass-as e =
      ap (λ (y : Slot). y.pass) f.is ∙
      ap (λ (z : Bool). pick_pass z (pass_of (ring_of w) (body_of w at) (last_of w) t (window_ticks s))) e

  known-seen : Known kind s w t at true x → x.series ≡ true → Seen (window_ticks s) t true (held true) x
  known-seen k e =
      let m = k.measured in
      let xs = buckets (ring_of w) b in
      record {
        absent = λ z. absurd (false≢true (sym z));
        series-is = e;
        cached-is = cached-is kind s w t at x f;
        limit_is = λ z. k.limit_is;
        total-is = λ z. k.total-is ∙ k.now.total;
        stored_is = λ z. k.declined-is ∙ k.now.declined;
        factor-is = λ z. factor-as ∙ sym (ap (λ (y : Bool). cond y (factor_of b) 0) z);
        since-is = λ z. since-as ∙ sym (ap (λ (y : Bool). cond y (factor_time_of b) 0) z);
        length-is = m.buckets-are ∙ sym (view-length (ring_of w) b);
        gone-is = m.expired-are;
        live-is = m.total ∙ ap (λ (i : ℕ). counts (drop i xs)) m.expired-are;
        declined-is = m.declined ∙ ap (λ (i : ℕ). declineds (drop i xs)) m.expired-are;
        oldest-is = m.oldest-is ∙ ap (λ (i : ℕ). mark (get_or xs i no_bucket)) m.expired-are;
        newest-is = m.newest-is;
        eldest-is = m.eldest-is;
      }

  lone-seen : x.series ≡ false → has_series u ≡ false → Seen (window_ticks s) t true (held false) x
  lone-seen e z =
      pass-of-none (window_ticks s) t x (has_cached u) (factor_of b) (factor_time_of b) e (cached-is kind s w t at x f) (pass-as z) (λ y. factor-as) (λ y. since-as)

  pub found-seen : last_of w ≤ t → Seen (window_ticks s) t true (held_of (ring_of w) u b) x
  found-seen later = go (has_series u) refl
    where
      go : (z : Bool) → has_series (use_of w at) ≡ z → Seen (window_ticks s) t true (held (has_series (use_of w at))) x
      go true z =
          let e : x.series ≡ true = series-is kind s w t at x f ∙ z in
          subst (λ (y : Bool). Seen (window_ticks s) t true (held y) x) (sym z) (known-seen (series-known kind s w t at x f later e) e)
      go false z =
          let e : x.series ≡ false = series-is kind s w t at x f ∙ z in
          subst (λ (y : Bool). Seen (window_ticks s) t true (held y) x) (sym z) (lone-seen e z)

no-seen : (W t n : ℕ) → Seen W t true nothing (no_slot n)
no-seen W t n = pass-of-none W t (no_slot n) false 0 0 refl refl refl (λ y. refl) (λ y. refl)

-- a call that passes refusals 1 to 7, 15 and 16
pub seen : (kind : RoomKind) (s : Settings) (w : List ℕ) (t : ℕ) (key : Sent) → Passed kind s w t key →
    Seen (window_ticks s) t true (held_in w key) (slot_in s w t key)
seen kind s w t key p = go (ltb (addressed w key) (slots_of w)) refl
  where
    go : (z : Bool) → ltb (addressed w key) (slots_of w) ≡ z → Seen (window_ticks s) t true (held_in w key) (slot_in s w t key)
    go true e =
        let l = ltb-true _ _ e in
        subst (λ (h : Held). Seen (window_ticks s) t true h (slot_in s w t key)) (sym (held-here w key l))
        (found-seen kind s w t (addressed w key) (slot_in s w t key) (found kind s w t key p l) p.later)
    go false e =
        let l = ltb-false _ _ e in
        subst (λ (h : Held). Seen (window_ticks s) t true h (slot_in s w t key)) (sym (held_none w key l))
        (subst (λ (x : Slot). Seen (window_ticks s) t true nothing x) (sym (none kind s w t key p l)) (no-seen (window_ticks s) t (slots_of w)))

-- ---- and as a first look leaves it

module _ (s : Settings) (t : ℕ) (h : Held) (x : Slot) (o : Seen (window_ticks s) t true h x) where
  -- with another pass, that leaves all
  seen-but : (p : Pass) → p.buckets ≡ x.pass.buckets → p.expired ≡ 0 → p.live_total ≡ counts h.buckets → p.live_declined ≡ declineds h.buckets →
      p.oldest ≡ mark (get_or h.buckets 0 no_bucket) → p.newest_time ≡ x.pass.newest_time → p.eldest ≡ x.pass.eldest →
      Seen (window_ticks s) t false h (passing p x)
  seen-but p n e total declined oldest new first = record {
    absent = o.absent;
    series-is = o.series-is;
    cached-is = o.cached-is;
    limit_is = o.limit_is;
    total-is = o.total-is;
    stored_is = o.stored_is;
    factor-is = o.factor-is;
    since-is = o.since-is;
    length-is = n ∙ o.length-is;
    gone-is = e;
    live-is = total;
    declined-is = declined;
    oldest-is = oldest;
    newest-is = new ∙ o.newest-is;
    eldest-is = first ∙ o.eldest-is;
  }

  seen_none : gone (window_ticks s) t h.buckets ≡ 0 → Seen (window_ticks s) t false h x
  seen_none z =
      let xs = h.buckets in
      seen-but x.pass refl (o.gone-is ∙ z) (o.live-is ∙ ap (λ (k : ℕ). counts (drop k xs)) z) (o.declined-is ∙ ap (λ (k : ℕ). declineds (drop k xs)) z)
      (o.oldest-is ∙ ap (λ (k : ℕ). mark (get_or xs k no_bucket)) z) refl refl

  -- a key whose buckets go has a series
  seen_all : (gone (window_ticks s) t h.buckets ≡ 0 → ⊥) → Seen (window_ticks s) t false h (all_stay x)
  unfolding ahead
  seen_all n = go h.known refl
    where
      go : (z : Bool) → h.known ≡ z → Seen (window_ticks s) t false h (all_stay x)
      go true e = seen-but (all_stay x).pass refl refl (o.total-is e) (o.stored_is e) o.eldest-is refl refl
      go false e = absurd (n (ap (λ (xs : List Bucket). gone (window_ticks s) t xs) (o.absent e)))

  pub seen-looked : Seen (window_ticks s) t (overdue_in s t h) h (first_look (look_ticks s) t x)
  seen-looked =
      by-overdue s t h.buckets x o.gone-is o.eldest-is (λ (out : Bool) (y : Slot). Seen (window_ticks s) t out h y) (λ e. o) seen_none
      (λ n e. seen_all n)

-- the buckets of a key that has a series stand in its slot
pub held-there : (kind : RoomKind) (s : Settings) (w : List ℕ) (t : ℕ) (key : Sent) → Passed kind s w t key → (slot_in s w t key).series ≡ true →
    buckets (ring_of w) (body_of w (slot_in s w t key).at) ≡ (held_in w key).buckets
held-there kind s w t key p e = go (ltb (addressed w key) (slots_of w)) refl
  where
    go : (z : Bool) → ltb (addressed w key) (slots_of w) ≡ z → buckets (ring_of w) (body_of w (slot_in s w t key).at) ≡ (held_in w key).buckets
    go true h =
        let l = ltb-true _ _ h in
        let f = found kind s w t key p l in
        let xs = buckets (ring_of w) (body_of w (addressed w key)) in
        ap (λ (n : ℕ). buckets (ring_of w) (body_of w n)) (at-as kind s w t (addressed w key) (slot_in s w t key) f) ∙
        sym (ap (λ (g : Held). g.buckets) (held-here w key l) ∙
        ap (λ (y : Bool). cond y xs []) (sym (series-is kind s w t (addressed w key) (slot_in s w t key) f) ∙ e))
    go false h = absurd (false≢true (sym (ap (λ (y : Slot). y.series) (none kind s w t key p (ltb-false _ _ h))) ∙ e))

-- ---- so the tests of an increment say the same

joins-after : (b t k : ℕ) (x : Slot) (xs : List Bucket) → x.pass.buckets ≡ length xs → x.pass.newest_time ≡ (newest xs).time →
    joins_after b t k x ≡ joins b t (drop k xs)
unfolding joins_after joins
joins-after b t k x xs n e = go (ltb k (length xs)) refl
  where
    go : (y : Bool) → ltb k (length xs) ≡ y →
        ltb k x.pass.buckets && leb (t - x.pass.newest_time) b ≡ ltb 0 (length (drop k xs)) && leb (t - (newest (drop k xs)).time) b
    go true h =
        let l : k < length xs = ltb-true k (length xs) h in
        let p : ltb k x.pass.buckets ≡ true = ap (ltb k) n ∙ h in
        let q : ltb 0 (length (drop k xs)) ≡ true = lt-ltb 0 (length (drop k xs)) (omega (arith, length-drop k xs)) in
        let f : x.pass.newest_time ≡ (newest (drop k xs)).time = e ∙ ap (λ (y : Bucket). y.time) (sym (newest-drop k xs l)) in
        rw (p, q) (ap (λ (n : ℕ). leb (t - n) b) f)
    go false h =
        let l : length xs ≤ k = ltb-false k (length xs) h in
        let p : ltb k x.pass.buckets ≡ false = ap (ltb k) n ∙ h in
        let q : ltb 0 (length (drop k xs)) ≡ false = le-ltb 0 (length (drop k xs)) (omega (arith, length-drop k xs)) in
        rw (p, q)

pub full-after : (r b t k : ℕ) (x : Slot) (xs : List Bucket) → x.pass.buckets ≡ length xs → x.pass.newest_time ≡ (newest xs).time →
    full_after r b t k x ≡ ring_full r b t (drop k xs)
unfolding full_after ring_full
full-after r b t k x xs n e =
    let j = joins-after b t k x xs n e in
    let l : x.pass.buckets - k ≡ length (drop k xs) = ap (λ (m : ℕ). m - k) n ∙ sym (length-drop k xs) in
    ap₂ (λ (y : Bool) (m : ℕ). not y && leb r m) j l

module _ (W t : ℕ) (out : Bool) (h : Held) (x : Slot) (o : Seen W t out h x) where
  pub has-is : has_slot x ≡ has_any h
  has-is = ap₂ ◌||◌ o.series-is o.cached-is

  -- "a slot is needed and the party already holds its promised number"
  pub lacks-is : (none : Bool) → lacks_at none x ≡ lacks_slot none h
  unfolding lacks_at
  lacks-is none = ap (λ (y : Bool). not y && none) has-is
