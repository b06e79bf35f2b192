-- A cleanup with a stale time of at least the window keeps what holds of a key: a series that goes has no bucket that still counts.
-- Assumes nothing.
use Rattle.std.specs.Prelude.{◌≡◌, Bool, ◌&&◌, ◌≢◌, ℕ, ◌≤◌, ◌<◌, length}
use Rattle.std.proofs.Math.Path.{refl, subst}
use Rattle.std.proofs.Common.{sym, ap, ap₂, ◌∙◌, arith}
use Rattle.std.proofs.Math.Bool.{true, false}
use Rattle.std.proofs.lemmas.Bool.{false≢true}
use mathlib.Core.List.{List, [], ◌∷◌}
use Rattle.std.proofs.Math.Nat.{mul-le-mul_left}
use Rattle.std.proofs.Math.Dec.{leb, ltb}
use borrow.Author.Tests.{ltb-false, leb-false}
use Rattle.base.specs.Decides.{and-true, true-and, other-true}
use Rattle.common.specs.Limits.{cut_word}
use Rattle.settings.specs.Settings.{window_in}
use Rattle.settings.specs.Clock.{age_in_milliseconds, ticks_in, longest, window_in_milliseconds, window_ticks, join_ticks, ticks-some, cut-within, age}
use Rattle.settings.specs.declared.Settings.{Settings}
use Rattle.rules.specs.Buckets.{newest}
use Rattle.ring.specs.declared.Bucket.{Bucket}
use Rattle.ring.specs.Order.{Fine}
use Rattle.ring.specs.Ring.{buckets}
use Rattle.ring.specs.Sound.{sound_buckets, sound-true}
use Rattle.keys.specs.declared.Key.{Key}
use Rattle.room.specs.Room.{slots_of, ring_of, last_of, holder_of, use_of, used_at, body_of}
use Rattle.room.specs.Entries.{used-held, used-free}
use Rattle.parties.specs.declared.Caller.{Caller}
use Rattle.rules.specs.declared.RoomKind.TheVariants as kind
use Rattle.opened.specs.Sound.{limit_of, has_series, sound_series}
use Rattle.rules.specs.Stale.{series_stays}
use Rattle.cleanup.specs.Laws.{Passed, passed-sound, sound-parts}
use Rattle.leaves.specs.Cleanup.{Cleaned}
use Rattle.leaves.proofs.Cleanup.{series-kept, same-key, clean-distinct}
use Rattle.admissions.proofs.Good.{good-later, good-drop}
use Rattle.admissions.specs.Log.{Entry}
use Rattle.places.specs.Has.{Has, free-has, has-or}
use Rattle.demand3.specs.Kept.{GoodAt, Kept}

no-buckets : (xs : List Bucket) → length xs ≤ 0 → xs ≡ []
no-buckets [] h = refl
no-buckets (x ∷ xs) h = absurd (omega arith)

-- a series that does not stay
module _ (s : Settings) (le : join_ticks s ≤ window_ticks s) (limit stale : ℕ) (l : window_in_milliseconds (window_in s) ≤ stale) where
  dropped : (t hi : ℕ) (xs : List Bucket) (log : List Entry) → Fine 0 xs hi → series_stays xs t (ticks_in s) stale ≡ false → GoodAt s limit t xs log →
      GoodAt s limit t [] log
  unfolding series_stays
  dropped t hi xs log f e g = go (ltb 0 (length xs)) refl (leb (age_in_milliseconds (ticks_in s) t (newest xs).time) stale) refl e
    where
      go : (a : Bool) → ltb 0 (length xs) ≡ a → (b : Bool) → leb (age_in_milliseconds (ticks_in s) t (newest xs).time) stale ≡ b → a && b ≡ false →
          GoodAt s limit t [] log
      go false p b q h = subst (λ (ys : List Bucket). GoodAt s limit t ys log) (no-buckets xs (ltb-false 0 (length xs) p)) g
      go true p false q h =
          let n = ticks_in s in
          let x = age t (newest xs).time in
          let past = leb-false x (longest n stale) (sym (cut-within n (ticks-some s) x stale) ∙ q) in
          good-drop (window_ticks s) (join_ticks s) (cut_word limit) le (longest n stale) 0 hi (omega (arith, mul-le-mul_left n l)) f past g
      go true p true q h = absurd (false≢true (sym h))

  module _ (k : Key) (w v : List ℕ) (t : ℕ) (who : Caller) (log : List Entry) (p : Passed kind.Suppressed s w t who) (c : Cleaned w v t (ticks_in s) stale)
      (a : Kept s k limit w log) where
    was : (i : ℕ) → Has v k i → Has w k i
    was i h =
        let n : i < slots_of w = omega (arith, h.inside, c.slots) in
        record {
          inside = n;
          key = sym (same-key c i n (λ z. free-has z h)) ∙ h.key;
          series = (and-true (has_series (used_at w i)) _ (sym (series-kept c i n) ∙ h.series)).0;
        }

    view-is : (i : ℕ) → buckets (ring_of v) (body_of v i) ≡ buckets (ring_of w) (body_of w i)
    view-is i = ap₂ buckets c.ring (c.bodies i)

    later : (xs : List Bucket) → GoodAt s limit (last_of w) xs log → GoodAt s limit t xs log
    later xs g = good-later (window_ticks s) (join_ticks s) (cut_word limit) le t p.later g

    in-order : (i : ℕ) → Has w k i → Fine 0 (buckets (ring_of w) (body_of w i)) (last_of w)
    unfolding sound_series
    in-order i h =
        let m : holder_of w i ≢ 0 = λ z. free-has z h in
        let q = sound-parts kind.Suppressed s w i (passed-sound kind.Suppressed s w t who p i h.inside m) in
        let r = other-true (has_series (use_of w i)) _ (ap has_series (sym (used-held w i m)) ∙ h.series) q.series in
        (sound-true (ring_of w) (body_of w i) (last_of w) (and-true (sound_buckets (ring_of w) (body_of w i) (last_of w)) _ r).0).each

    -- no slot of v has k's series
    gone : ((i : ℕ) → Has v k i → ⊥) → GoodAt s limit t [] log
    gone f = has-or w k a.distinct (λ i h. stood i h (series_stays (buckets (ring_of w) (body_of w i)) t (ticks_in s) stale) refl) (λ g. later [] (a.bare g))
      where
        stood : (i : ℕ) (h : Has w k i) (z : Bool) → series_stays (buckets (ring_of w) (body_of w i)) t (ticks_in s) stale ≡ z → GoodAt s limit t [] log
        stood i h true e =
            let r : has_series (used_at v i) ≡ true = series-kept c i h.inside ∙ true-and (has_series (used_at w i)) _ h.series e in
            let m : holder_of v i ≢ 0 = λ z. false≢true (sym (ap has_series (used-free v i z)) ∙ r) in
            absurd (f i (record { inside = omega (arith, h.inside, c.slots); key = same-key c i h.inside m ∙ h.key; series = r }))
        stood i h false e = dropped t (last_of w) (buckets (ring_of w) (body_of w i)) log (in-order i h) e (later _ (a.good i h))

    pub cleaned-kept : Kept s k limit v log
    cleaned-kept = record {
      distinct = clean-distinct c a.distinct;
      limits = λ i h. ap (λ (y : List ℕ). limit_of y) (c.bodies i) ∙ a.limits i (was i h);
      good = λ i h.
          subst (λ (n : ℕ). GoodAt s limit n (buckets (ring_of v) (body_of v i)) log) (sym c.last)
          (subst (λ (xs : List Bucket). GoodAt s limit t xs log) (sym (view-is i)) (later _ (a.good i (was i h))));
      bare = λ f. subst (λ (n : ℕ). GoodAt s limit n [] log) (sym c.last) (gone f);
    }
