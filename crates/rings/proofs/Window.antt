-- How many buckets that lie b + 1 milliseconds apart an increment finds within the window, and that none of them meets refusal 12 in a ring that is long
-- enough: those that a suppressed increment's first look leaves, and those that an absolute increment finds.
-- s are the settings, t the reading, r the ring, xs a key's buckets.
-- Assumes nothing.
use Rattle.std.specs.Prelude.{◌≡◌, Bool, ◌&&◌, ◌||◌, ℕ, suc, ◌+◌, ◌-◌, ◌*◌, ◌≤◌, ◌<◌, length, get_or}
use Rattle.std.proofs.Math.Path.{refl}
use Rattle.std.proofs.Common.{subst, true≢false, mul_left_comm, arith}
use Rattle.std.proofs.Math.Bool.{true, false, not, cond}
use mathlib.Core.List.{List, [], ◌∷◌}
use Rattle.std.proofs.Math.Nat.{lt_of_mul-lt-mul_left}
use Rattle.std.proofs.Math.Dec.{leb, ltb}
use borrow.Author.Tests.{lt-leb, ltb-false}
use Rattle.settings.specs.Settings.{window_in, bucket_in}
use Rattle.settings.specs.Clock.{age, ticks_in, window_in_milliseconds, window_ticks, look_ticks, join_ticks, ticks-some}
use Rattle.settings.specs.declared.Settings.{Settings}
use Rattle.ring_length.specs.RingLength.{sufficient_ring, window-holds}
use Rattle.ring.specs.declared.Bucket.{Bucket}
use Rattle.ring.specs.Ring.{no_bucket, counts}
use Rattle.rules.specs.Buckets.{older, ahead, gone, live, out_if, joins}
use Rattle.rules.specs.Held.{Held}
use Rattle.rules.specs.Both.{overdue, looked_of, passes, ring_full}
use Rattle.rules.proofs.Ages.{looked-oldest}
use Rattle.rules.specs.Absolute.{tests_again, whole_limit, takes_out, found_for}
use Rattle.sweep.specs.Measured.{ahead_after}
use Rattle.rings.proofs.Spaced.{spaced-drop, spaced-span, unjoined}
use Rattle.rings.specs.Window.{apart_ticks, BucketsApart, Young}

-- one more than the longest age that joins
pub apart-joins : (s : Settings) → apart_ticks s ≡ join_ticks s + 1
apart-joins s = omega (arith, ticks-some s)

or-false : (a b : Bool) → a || b ≡ false → b ≡ false
or-false true b e = absurd (true≢false e)
or-false false b e = e

module _ (s : Settings) (t : ℕ) where
  -- what is not over the window is not over it by its milliseconds
  live-young : (xs : List Bucket) → ahead (window_ticks s) t xs ≡ 0 → Young s t xs
  unfolding older ahead
  live-young [] e = tt
  live-young (x ∷ xs) e = go (ltb (window_ticks s) (age t x.time)) refl e
    where
      go : (z : Bool) → ltb (window_ticks s) (age t x.time) ≡ z → cond z (suc (ahead (window_ticks s) t xs)) 0 ≡ 0 → age t x.time ≤ look_ticks s
      go true h q = absurd (omega arith)
      go false h q = omega (arith, ltb-false (window_ticks s) (age t x.time) h)

  looked-young : (xs : List Bucket) → overdue s t xs ≡ false → Young s t xs
  looked-young [] e = tt
  looked-young (x ∷ xs) e = looked-oldest s t x xs e

  -- n buckets, the oldest young and the newest too old to join, reach back n times b + 1 milliseconds
  young-few : (xs : List Bucket) → BucketsApart s xs → Young s t xs → joins (join_ticks s) t xs ≡ false → length xs < sufficient_ring s
  young-few [] f y j = omega arith
  young-few (x ∷ xs) f y j =
      let n = length (x ∷ xs) in
      let d = apart_ticks s in
      let last : n - 1 ≡ length xs = omega arith in
      let new : (get_or (x ∷ xs) (length xs) no_bucket).time + d ≤ t = subst (λ (i : ℕ). (get_or (x ∷ xs) i no_bucket).time + apart_ticks s ≤ t) last
      (unjoined (apart_ticks s) (join_ticks s) (apart-joins s) t (x ∷ xs) j (omega arith)) in
      let back : n * d ≤ look_ticks s = omega (arith, spaced-span d 0 x xs f, new, y) in
      let less : ticks_in s * (n * (bucket_in s + 1)) < ticks_in s * (window_in_milliseconds (window_in s) + 1) =
      omega (arith, back, mul_left_comm n (ticks_in s) (bucket_in s + 1), ticks-some s) in
      window-holds s n (omega (arith, lt_of_mul-lt-mul_left (ticks_in s) less))

  module _ (r : ℕ) (enough : sufficient_ring s ≤ r) where
    young-room : (xs : List Bucket) → BucketsApart s xs → Young s t xs → ring_full r (join_ticks s) t xs ≡ false
    unfolding ring_full
    young-room xs f y = go (joins (join_ticks s) t xs) refl
      where
        go : (z : Bool) → joins (join_ticks s) t xs ≡ z → not z && leb r (length xs) ≡ false
        go true e = refl
        go false e = lt-leb r (length xs) (omega (arith, young-few xs f y e))

    live-room : (xs : List Bucket) → BucketsApart s xs → ring_full r (join_ticks s) t (live (window_ticks s) t xs) ≡ false
    live-room xs f =
        young-room (live (window_ticks s) t xs) (spaced-drop (gone (window_ticks s) t xs) (apart_ticks s) 0 xs f)
        (live-young (live (window_ticks s) t xs) (ahead_after (window_ticks s) t xs))

    -- a suppressed increment: what its first look leaves
    pub looked-room : (h : Held) → BucketsApart s h.buckets → ring_full r (join_ticks s) t (looked_of s t h) ≡ false
    looked-room h f = go (overdue s t h.buckets) refl
      where
        go : (z : Bool) → overdue s t h.buckets ≡ z → ring_full r (join_ticks s) t (out_if z (window_ticks s) t h.buckets) ≡ false
        go true e = live-room h.buckets f
        go false e = young-room h.buckets f (looked-young h.buckets e)

    -- an absolute one: all of them, or the live ones where with all of them it would meet 10 or 12
    pub found-room : (c : ℕ) (h : Held) → BucketsApart s h.buckets → ring_full r (join_ticks s) t (found_for s r t c h) ≡ false
    unfolding takes_out
    found-room c h f = go (takes_out r (join_ticks s) t c (whole_limit h) h.buckets) refl
      where
        go : (z : Bool) → takes_out r (join_ticks s) t c (whole_limit h) h.buckets ≡ z →
            ring_full r (join_ticks s) t (out_if z (window_ticks s) t h.buckets) ≡ false
        go true e = live-room h.buckets f
        go false e =
            or-false (passes c (counts h.buckets)) (ring_full r (join_ticks s) t h.buckets)
            (or-false (tests_again (whole_limit h) h.buckets) _ e)
