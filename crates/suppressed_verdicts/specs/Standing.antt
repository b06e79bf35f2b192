-- What a call that passes refusals 1 to 7, 15 and 16 knows of its key's slot x: where it is, its series, and its sums.
-- Assumes nothing.
use Rattle.std.specs.Prelude.{◌≡◌, Bool, ◌&&◌, ◌||◌, List, ℕ, ◌^◌, ◌≤◌, ◌<◌, drop}
use Rattle.std.proofs.Math.Path.{refl}
use Rattle.std.proofs.Common.{sym, ap, ap₂, subst, ◌∙◌, arith}
use Rattle.std.proofs.Math.Bool.{true, false, not, cond}
use Rattle.std.proofs.lemmas.Bool.{false≢true}
use Rattle.std.proofs.Math.Decide.{dec_lt}
use Rattle.rules.proofs.Laws.{recent-among}
use Rattle.settings.specs.Clock.{longest, window_ticks, look_ticks}
use Rattle.settings.specs.declared.Settings.{Settings}
use Rattle.rules.specs.Buckets.{last_second}
use Rattle.rules.specs.Both.{overdue, overdue_in}
use Rattle.sweep.specs.Sweep.{pass_of, unsound}
use Rattle.sweep.specs.declared.tally.Pass.{Pass}
use Rattle.ring.specs.declared.Bucket.{Bucket}
use Rattle.ring.specs.Order.{fine-sums, fine-drop}
use Rattle.ring.specs.Ring.{count_of, counts, declineds, buckets}
use Rattle.ring.specs.Sums.{sum-split}
use Rattle.room.specs.Room.{slots_of, ring_of, last_of, body_of, vacant}
use Rattle.parties.specs.Parties.{Sent}
use Rattle.rules.specs.declared.RoomKind.TheVariants as kind
use Rattle.opened.specs.declared.Slot.{Slot}
use Rattle.judge.specs.Held.{held_in}
use Rattle.judge.specs.Judge.{Passed, slot_in, looked_in}
use Rattle.opened.specs.Look.{look_none, look_at, look-series, look-cached}
use Rattle.opened.specs.Slot.{has_slot, no_slot, pick_pass, opened}
use Rattle.opened.specs.Sound.{addressed}
use Rattle.plan.specs.Known.{Found, Known, found, none, series-known, series-is, at-as}
use Rattle.factor_opened.specs.Opened.{second_at}
use Rattle.plan.specs.Plan.{place_of, lacks_at}
use Rattle.plan.specs.Looked.{known-looked}
use Rattle.plan.specs.Seen.{held-there}

-- ---- the sums of the buckets that are left; n is the number of ticks in a millisecond

pub record Sums (n : ℕ) (w : List ℕ) (t : ℕ) (x : Slot) : Type 0 where
  pub recent : second_at n w t x ≤ x.pass.live_total
  pub declined : x.pass.live_declined ≤ x.pass.live_total
  pub most : x.pass.live_total ≤ 2 ^ 53

no-sums : (n : ℕ) (w : List ℕ) (t : ℕ) (x : Slot) → x.series ≡ false → x.pass ≡ unsound → Sums n w t x
no-sums n w t x f e =
    let xs = drop x.pass.expired (buckets (ring_of w) (body_of w x.at)) in
    let a : second_at n w t x ≡ 0 = ap (λ (z : Bool). cond z (last_second n t xs) 0) f in
    let b = ap (λ (p : Pass). p.live_total) e in
    let d = ap (λ (p : Pass). p.live_declined) e in
    record { recent = omega arith; declined = omega arith; most = omega arith }

-- the counts of the last second are among those that are left
known-sums : (n : ℕ) (s : Settings) (w : List ℕ) (t at : ℕ) (out : Bool) (x : Slot) → Known kind.Suppressed s w t at out x → x.series ≡ true → Sums n w t x
known-sums n s w t at out x k y =
    let m = k.measured in
    let i = x.pass.expired in
    let xs = buckets (ring_of w) (body_of w at) in
    let second-here : second_at n w t x ≡ last_second n t (drop i xs) =
    ap₂ (λ (z : Bool) (j : ℕ). cond z (last_second n t (drop i (buckets (ring_of w) (body_of w j)))) 0) y k.at-is in
    let d : declineds (drop i xs) ≤ counts (drop i xs) = fine-sums 0 (drop i xs) t (fine-drop i 0 xs t k.now.each) in
    record {
      recent = omega (arith, recent-among (longest n 1000) t (drop i xs), second-here, m.total);
      declined = omega (arith, d, m.declined, m.total);
      most = omega (arith, m.total, sum-split count_of i xs, k.now.total, k.now.most);
    }

lone-pass : (s : Settings) (w : List ℕ) (t at : ℕ) (x : Slot) → Found kind.Suppressed s w t at x → x.series ≡ false → x.pass ≡ unsound
unfolding opened
lone-pass s w t at x f e =
    ap (λ (y : Slot). y.pass) f.is ∙
    ap (λ (z : Bool). pick_pass z (pass_of (ring_of w) (body_of w at) (last_of w) t (window_ticks s))) (sym (series-is kind.Suppressed s w t at x f) ∙ e)

-- ---- the slot that a key addresses, as it is opened

module _ (s : Settings) (w : List ℕ) (t : ℕ) (key : Sent) (q : Passed kind.Suppressed s w t key) (x : Slot) (p : x ≡ slot_in s w t key) where
  there : addressed w key < slots_of w → Found kind.Suppressed s w t x.at x
  there l =
      let f : Found kind.Suppressed s w t (addressed w key) x =
      subst (λ (y : Slot). Found kind.Suppressed s w t (addressed w key) y) (sym p) (found kind.Suppressed s w t key q l) in
      subst (λ (n : ℕ). Found kind.Suppressed s w t n x) (sym (at-as kind.Suppressed s w t (addressed w key) x f)) f

  nowhere : (addressed w key < slots_of w → ⊥) → x ≡ no_slot (slots_of w)
  nowhere n = let l : slots_of w ≤ addressed w key = omega arith in p ∙ none kind.Suppressed s w t key q l

  pub used : has_slot x ≡ true → Found kind.Suppressed s w t x.at x
  used e = go (dec_lt (addressed w key) (slots_of w))
    where
      go : Dec (addressed w key < slots_of w) → Found kind.Suppressed s w t x.at x
      go (yes l) = there l
      go (no n) = absurd (false≢true (sym (ap (λ (y : Slot). has_slot y) (nowhere n)) ∙ e))

  known : x.series ≡ true → Known kind.Suppressed s w t x.at true x
  known e = series-known kind.Suppressed s w t x.at x (used (ap (λ (z : Bool). z || x.cached) e)) q.later e

  unknown : x.series ≡ false → x.pass ≡ unsound
  unknown e = go (dec_lt (addressed w key) (slots_of w))
    where
      go : Dec (addressed w key < slots_of w) → x.pass ≡ unsound
      go (yes l) = lone-pass s w t x.at x (there l) e
      go (no n) = ap (λ (y : Slot). y.pass) (nowhere n)

-- ---- what is known of it, with the expired buckets out or not

pub record Stood (s : Settings) (w : List ℕ) (t : ℕ) (out : Bool) (x : Slot) : Type 0 where
  pub used-in : has_slot x ≡ true → x.at < slots_of w
  pub known : x.series ≡ true → Known kind.Suppressed s w t x.at out x
  pub unknown : x.series ≡ false → x.pass ≡ unsound

module _ (s : Settings) (w : List ℕ) (t : ℕ) (key : Sent) (q : Passed kind.Suppressed s w t key) where
  pub stood-slot : (x : Slot) → x ≡ slot_in s w t key → Stood s w t true x
  stood-slot x p = record { used-in = λ e. (used s w t key q x p e).inside; known = known s w t key q x p; unknown = unknown s w t key q x p }

  -- without a series a first look leaves the slot as it is
  pub stood-looked : (x : Slot) → x ≡ looked_in s w t key → Stood s w t (overdue_in s t (held_in w key)) x
  stood-looked x p = subst (λ (y : Slot). Stood s w t (overdue_in s t (held_in w key)) y) (sym p) looked
    where
      at_same : (looked_in s w t key).at ≡ (slot_in s w t key).at
      at_same = look_at (look_ticks s) t (slot_in s w t key)

      series-same : (looked_in s w t key).series ≡ (slot_in s w t key).series
      series-same = look-series (look_ticks s) t (slot_in s w t key)

      lone : (slot_in s w t key).series ≡ false → (looked_in s w t key).pass ≡ unsound
      lone e =
          let z = unknown s w t key q (slot_in s w t key) refl e in
          ap (λ (v : Slot). v.pass) (sym (look_none (look_ticks s) t (slot_in s w t key) (ap (λ (v : Pass). v.expired) z))) ∙ z

      there-looked : (e : (slot_in s w t key).series ≡ true) →
          Known kind.Suppressed s w t (slot_in s w t key).at (overdue_in s t (held_in w key)) (looked_in s w t key)
      there-looked e =
          subst (λ (xs : List Bucket). Known kind.Suppressed s w t (slot_in s w t key).at (overdue s t xs) (looked_in s w t key))
          (held-there kind.Suppressed s w t key q e)
          (known-looked kind.Suppressed s w t (slot_in s w t key).at (slot_in s w t key) (known s w t key q (slot_in s w t key) refl e))

      looked : Stood s w t (overdue_in s t (held_in w key)) (looked_in s w t key)
      looked = record {
        used-in = λ e. subst (λ (n : ℕ). n < slots_of w) (sym at_same)
            (used s w t key q (slot_in s w t key) refl
            (sym (ap₂ (λ (a b : Bool). a || b) series-same (look-cached (look_ticks s) t (slot_in s w t key))) ∙ e)).inside;
        known = λ e. subst (λ (n : ℕ). Known kind.Suppressed s w t n (overdue_in s t (held_in w key)) (looked_in s w t key)) (sym at_same)
            (there-looked (sym series-same ∙ e));
        unknown = λ e. lone (sym series-same ∙ e);
      }

module _ (s : Settings) (w : List ℕ) (t : ℕ) (out : Bool) (x : Slot) (d : Stood s w t out x) where
  -- where a slot is not lacking, the place is in the room: one is free, unless the party has none left
  pub place_inside : (none : Bool) → (none ≡ false → vacant w < slots_of w) → lacks_at none x ≡ false → place_of w x < slots_of w
  unfolding lacks_at place_of
  place_inside none free f = go (has_slot x) refl f
    where
      go : (z : Bool) → has_slot x ≡ z → not z && none ≡ false → cond z x.at (vacant w) < slots_of w
      go true e g = d.used-in e
      go false e g = free g

  pub sums : (n : ℕ) → Sums n w t x
  sums n = go x.series refl
    where
      go : (z : Bool) → x.series ≡ z → Sums n w t x
      go true e = known-sums n s w t x.at out x (d.known e) e
      go false e = no-sums n w t x e (d.unknown e)
