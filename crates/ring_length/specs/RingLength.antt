-- How long a ring must be (document 02, ticket 4), and what that number counts: the moments b + 1 milliseconds apart that fit a window, its ends included.
-- Assumes nothing.
use Rattle.std.specs.Prelude.{◌≡◌, refl, cond, ◌≢◌, ℕ, ◌+◌, ◌*◌, ◌/◌, ◌≤◌, ◌<◌, eqb, Result, Ok}
use Rattle.std.proofs.Math.Path.{sym}
use Rattle.std.proofs.Common.{◌∙◌, le-div_iff_mul-le, arith, eq-eqb, ne_eqb}
use Rattle.common.specs.Refusals.{first, refuse}
use Rattle.settings.specs.Clock.{window_in_milliseconds}
use Rattle.settings.specs.Settings.{window_in, bucket_in, defaults, ten_seconds, with_window, with_bucket, faults, Proper, proper}
use Rattle.settings.specs.declared.Settings.{Settings}
use Rattle.common.specs.declared.refusal.Refusal.{Refusal}

-- "floor(1000 W / (b + 1)) + 1"
abbrev pub sufficient_ring : Settings → ℕ
sufficient_ring s = window_in_milliseconds (window_in s) / (bucket_in s + 1) + 1

-- what a caller is told: that number, or the first of 1 to 4 that the settings meet
unfoldable pub ring_for : Settings → Result ℕ Refusal
ring_for s = cond (eqb (first (faults s)) 0) (Ok (sufficient_ring s)) (refuse (first (faults s)))

-- of so many seconds and milliseconds
abbrev pub sized : ℕ → ℕ → Settings
sized window bucket = with_bucket (with_window defaults (record { 0 = window })) (record { 0 = bucket })

pub record Cases : Type 0 where
  -- of a window of 30 s and buckets of 100 ms
  pub default : sufficient_ring defaults ≡ 298
  -- document 02, ticket 4, of the 10 s that were the default then: 100
  pub ten-seconds : sufficient_ring ten_seconds ≡ 100
  -- where b + 1 divides the window both its ends count
  pub divides : sufficient_ring (sized 10 99) ≡ 101
  -- one bucket where it is as long as the window, or longer
  pub as_long : sufficient_ring (sized 1 1000) ≡ 1
  pub longer : sufficient_ring (sized 1 4294967296) ≡ 1
  pub shorter : sufficient_ring (sized 1 999) ≡ 2
  -- the most that any settings have
  pub most : sufficient_ring (sized 33554432 1) ≡ 16777216001

pub cases : Cases
cases = record { default = refl; ten-seconds = refl; divides = refl; as_long = refl; longer = refl; shorter = refl; most = refl }

module _ (s : Settings) (n : ℕ) where
  pos : 0 < bucket_in s + 1
  pos = omega arith

  -- from one moment on n more of them, b + 1 milliseconds apart, fit the window: n are fewer than the ring has buckets. So it suffices
  pub window-holds : n * (bucket_in s + 1) ≤ window_in_milliseconds (window_in s) → n < sufficient_ring s
  window-holds h = omega (arith, (le-div_iff_mul-le {k = bucket_in s + 1} {x = n} {y = window_in_milliseconds (window_in s)} pos).1 h)

  -- and if n are fewer, they fit. So no less does
  pub fits-window : n < sufficient_ring s → n * (bucket_in s + 1) ≤ window_in_milliseconds (window_in s)
  fits-window h =
      let l : n ≤ window_in_milliseconds (window_in s) / (bucket_in s + 1) = omega arith in
      (le-div_iff_mul-le {k = bucket_in s + 1} {x = n} {y = window_in_milliseconds (window_in s)} pos).0 l

-- ---- what the code has found, turned into what the definition says

module _ (s : Settings) (n : ℕ) (is : n ≡ first (faults s)) where
  pub ring-refused : n ≢ 0 → refuse n ≡ ring_for s
  unfolding ring_for
  ring-refused z = rw is (sym (rw (ne_eqb (first (faults s)) 0 (λ e. z (is ∙ e)))))

  pub ring-told : n ≡ 0 → Ok (sufficient_ring s) ≡ ring_for s
  unfolding ring_for
  ring-told e = sym (rw (eq-eqb (first (faults s)) 0 (sym is ∙ e)))

  pub in-range : n ≡ 0 → Proper s
  in-range e = proper s (sym is ∙ e)
