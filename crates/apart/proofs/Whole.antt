-- What a cleanup and a clear leave of what each key holds.
-- Assumes nothing.
use Rattle.std.specs.Prelude.{◌≡◌, refl, Bool, true, false, cond, ◌&&◌, List, [], ◌≢◌, ℕ, ◌≤◌, ◌<◌}
use Rattle.std.proofs.Common.{sym, ◌∙◌, arith}
use Rattle.std.proofs.Math.Path.{ap}
use Rattle.std.proofs.Math.Decide.{ℕ_discrete, dec_lt}
use Rattle.settings.specs.Clock.{ticks_in}
use Rattle.settings.specs.declared.Settings.{Settings}
use Rattle.ring.specs.declared.Bucket.{Bucket}
use Rattle.ring.specs.Ring.{buckets}
use Rattle.rules.specs.Held.{nothing}
use Rattle.rules.specs.Stale.{series_stays, factor_stays}
use Rattle.keys.specs.declared.Key.{Key}
use Rattle.room.specs.Room.{slots_of, ring_of, holder_of, use_of, has, find, body_of}
use Rattle.room.specs.Entries.{used-held, has-free}
use Rattle.frame.specs.Distinct.{Distinct, find-held, find-key, find-where, find-ext, has-ext, has-not}
use Rattle.frame.specs.Frame.{key-holder}
use Rattle.frame.specs.Whole.{Cleared, cleared-others}
use Rattle.opened.specs.Sound.{limit_of, factor_of, factor_time_of, has_series, has_cached}
use Rattle.judge.specs.Held.{held_by}
use Rattle.stale.specs.Uses.{uses, use_after, use_next}
use Rattle.leaves.specs.Cleanup.{Cleaned}
use Rattle.leaves.proofs.Cleanup.{was-held, same-key, clean-distinct, uses-series, uses-cached}
use Rattle.apart.specs.Holds.{held_at, held_for}
use Rattle.apart.proofs.Holds.{for-at, for-here, for-none, beside-held}
use Rattle.apart.specs.One.{cleaned_to}

-- ---- a cleanup

-- what is not there is not asked for
asked-there : (a c : Bool) (p : List Bucket → Bool) (q : ℕ → Bool) (limit factor time : ℕ) (xs : List Bucket) →
    held_by (a && p xs) (c && q time) limit xs factor time ≡
    held_by (a && p (cond a xs [])) (c && q (cond c time 0)) (cond a limit 0) (cond a xs []) (cond c factor 0) (cond c time 0)
asked-there true true p q limit factor time xs = refl
asked-there true false p q limit factor time xs = refl
asked-there false true p q limit factor time xs = refl
asked-there false false p q limit factor time xs = refl

none_stays : (a c : Bool) → uses a c ≡ 0 → (a ≡ false) × (c ≡ false)
none_stays true true e = absurd (omega (arith, e))
none_stays true false e = absurd (omega (arith, e))
none_stays false true e = absurd (omega (arith, e))
none_stays false false e = (refl, refl)

module _ (s : Settings) (w v : List ℕ) (t stale : ℕ) (c : Cleaned w v t (ticks_in s) stale) (d : Distinct w) where
  -- a slot of the key in v had it in w
  was-there : (k : Key) → find v k < slots_of v → find w k ≡ find v k
  was-there k h =
      let l : find v k < slots_of w = omega (arith, h, c.slots) in
      let n = find-held v k h in
      find-where w k (find v k) d l (was-held c (find v k) l n) (sym (same-key c (find v k) l n) ∙ find-key v k h)

  -- slot i of w, which has the key
  module _ (k : Key) (h : find w k < slots_of w) where
    abbrev i : ℕ
    i = find w k

    abbrev series : Bool
    series = has_series (use_of w (find w k)) && series_stays (buckets (ring_of w) (body_of w (find w k))) t (ticks_in s) stale

    abbrev cached : Bool
    cached = has_cached (use_of w (find w k)) && factor_stays (factor_time_of (body_of w (find w k))) t (ticks_in s) stale

    next-is : use_next w t (ticks_in s) stale (find w k) ≡ uses series cached
    unfolding use_after
    next-is =
        ap (λ (u : ℕ). uses (has_series u && series_stays (buckets (ring_of w) (body_of w (find w k))) t (ticks_in s) stale)
        (has_cached u && factor_stays (factor_time_of (body_of w (find w k))) t (ticks_in s) stale)) (used-held w (find w k) (find-held w k h))

    told : held_by series cached (limit_of (body_of w (find w k))) (buckets (ring_of w) (body_of w (find w k))) (factor_of (body_of w (find w k)))
        (factor_time_of (body_of w (find w k))) ≡ cleaned_to s t stale (held_at w (find w k))
    told =
        asked-there (has_series (use_of w (find w k))) (has_cached (use_of w (find w k))) (λ xs. series_stays xs t (ticks_in s) stale)
        (λ m. factor_stays m t (ticks_in s) stale) _ _ _ _

    stays_here : use_next w t (ticks_in s) stale (find w k) ≢ 0 → held_for v k ≡ cleaned_to s t stale (held_at w (find w k))
    stays_here n =
        let q = c.settled (find w k) h in
        let held : holder_of v (find w k) ≢ 0 = λ z. find-held w k h (sym (q.stays n) ∙ z) in
        let l : find w k < slots_of v = omega (arith, h, c.slots) in
        let e = find-where v k (find w k) (clean-distinct c d) l held (same-key c (find w k) h held ∙ find-key w k h) in
        let u : use_of v (find w k) ≡ uses series cached = q.used n ∙ next-is in
        for-at v k (find w k) e l ∙
        (λ z. held_by (has_series (u z)) (has_cached (u z)) (limit_of (c.bodies (find w k) z)) (buckets (c.ring z) (c.bodies (find w k) z))
        (factor_of (c.bodies (find w k) z)) (factor_time_of (c.bodies (find w k) z))) ∙
        (λ z. held_by (uses-series series cached z) (uses-cached series cached z) (limit_of (body_of w (find w k))) (buckets (ring_of w) (body_of w (find w k)))
        (factor_of (body_of w (find w k))) (factor_time_of (body_of w (find w k)))) ∙ told

    goes-here : use_next w t (ticks_in s) stale (find w k) ≡ 0 → held_for v k ≡ cleaned_to s t stale (held_at w (find w k))
    goes-here e =
        let b = none_stays series cached (sym next-is ∙ e) in
        for-none v k (away (dec_lt (find v k) (slots_of v))) ∙
        sym (λ z. held_by (b.0 z) (b.1 z) (limit_of (body_of w (find w k))) (buckets (ring_of w) (body_of w (find w k))) (factor_of (body_of w (find w k)))
        (factor_time_of (body_of w (find w k)))) ∙ told
      where
        away : Dec (find v k < slots_of v) → slots_of v ≤ find v k
        away (yes l) = absurd (find-held v k l (ap (holder_of v) (sym (was-there k l)) ∙ (c.settled (find w k) h).goes e))
        away (no l) = omega arith

  pub clean-held : (k : Key) → held_for v k ≡ cleaned_to s t stale (held_for w k)
  clean-held k = go (dec_lt (find w k) (slots_of w))
    where
      go : Dec (find w k < slots_of w) → held_for v k ≡ cleaned_to s t stale (held_for w k)
      go (yes h) = which (ℕ_discrete (use_next w t (ticks_in s) stale (find w k)) 0) ∙ ap (cleaned_to s t stale) (sym (for-here w k h))
        where
          which : Dec (use_next w t (ticks_in s) stale (find w k) ≡ 0) → held_for v k ≡ cleaned_to s t stale (held_at w (find w k))
          which (yes e) = goes-here k h e
          which (no n) = stays_here k h n
      go (no h) = for-none v k (away (dec_lt (find v k) (slots_of v))) ∙ ap (cleaned_to s t stale) (sym (for-none w k (omega arith)))
        where
          away : Dec (find v k < slots_of v) → slots_of v ≤ find v k
          away (yes l) = absurd (h (omega (arith, l, was-there k l, c.slots)))
          away (no l) = omega arith

-- ---- a clear of the slots with mark m

module _ (w v : List ℕ) (m t : ℕ) (c : Cleared w v m t) where
  pub clear-held : (k : Key) → k.holder ≡ m → held_for v k ≡ nothing
  clear-held k e = for-none v k (go (dec_lt (find v k) (slots_of v)))
    where
      go : Dec (find v k < slots_of v) → slots_of v ≤ find v k
      go (yes h) =
          let l : find v k < slots_of w = omega (arith, h, c.slots) in
          let q = cleared-others w v m t c (find v k) l (find-held v k h) in
          absurd (q (sym (c.stays (find v k) l q) ∙ sym (key-holder v (find v k)) ∙ ap (λ (j : Key). j.holder) (find-key v k h) ∙ e))
      go (no h) = omega arith

  pub clear-beside : (k : Key) → k.holder ≢ m → held_for v k ≡ held_for w k
  clear-beside k n =
      beside-held w v k c.slots c.ring (find-ext w v k c.slots (λ i h. go i h (ℕ_discrete (holder_of w i) m)))
      (λ h.
      let q : holder_of w (find w k) ≢ m = λ z. n (ap (λ (j : Key). j.holder) (sym (find-key w k h)) ∙ key-holder w (find w k) ∙ z) in
      record { holder = c.stays (find w k) h q; used = c.uses (find w k); key = c.keys (find w k) h q; body = c.bodies (find w k) })
    where
      go : (i : ℕ) → i < slots_of w → Dec (holder_of w i ≡ m) → has v k i ≡ has w k i
      go i h (yes e) =
          has-free v k i (c.free i h e) ∙
          sym (has-not w k i (λ z. n (ap (λ (j : Key). j.holder) (sym z) ∙ key-holder w i ∙ e)))
      go i h (no e) = has-ext w v k i (c.keys i h e)
