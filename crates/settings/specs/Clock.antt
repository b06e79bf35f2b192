-- The clock's ticks: how many a millisecond has, by the clock mode, and the settings' lengths in ticks. Every rule that compares an age stands over them, so
-- that both modes have one definition and one proof of each. n is the number of ticks in a millisecond.
-- Assumes nothing.
use Rattle.std.specs.Prelude.{◌≡◌, refl, Bool, true, false, ℕ, ◌+◌, ◌-◌, ◌*◌, ◌/◌, ◌≤◌, ◌<◌, leb, ltb}
use Rattle.std.proofs.Common.{le-div_iff_mul-le, div-lt_iff_lt-mul, mul_comm, mul-le-mul_left, arith, le-leb, leb-true, leb-false, lt-ltb, le-ltb, ltb-true, ltb-false}
use Rattle.std.proofs.lemmas.Bool.{lt-leb}
use Rattle.settings.specs.declared.Settings.{Settings}
use Rattle.settings.specs.declared.ClockMode.{ClockMode}
use Rattle.settings.specs.declared.ClockMode.TheVariants.{Milliseconds, Nanoseconds}
use Rattle.settings.specs.Settings.{window_in, bucket_in, cache_in}

-- ---- ticks

abbrev pub ticks_of : ClockMode → ℕ
ticks_of Milliseconds = 1
ticks_of Nanoseconds = 1000000

abbrev pub ticks_in : Settings → ℕ
ticks_in s = ticks_of s.clock_mode

pub mode-some : (c : ClockMode) → 1 ≤ ticks_of c
mode-some Milliseconds = omega arith
mode-some Nanoseconds = omega arith

pub mode-few : (c : ClockMode) → ticks_of c ≤ 1000000
mode-few Milliseconds = omega arith
mode-few Nanoseconds = omega arith

pub ticks-some : (s : Settings) → 1 ≤ ticks_in s
ticks-some s = mode-some s.clock_mode

-- ---- the two ages of what is stored with a time, at reading t: in full precision, and cut to whole milliseconds

abbrev pub age : ℕ → ℕ → ℕ
age t time = t - time

abbrev pub age_in_milliseconds : ℕ → ℕ → ℕ → ℕ
age_in_milliseconds n t time = age t time / n

-- the longest age in ticks that is at most m milliseconds once it is cut to whole ones: one tick less than m + 1 milliseconds
abbrev pub longest : ℕ → ℕ → ℕ
longest n m = n * m + (n - 1)

-- ---- the settings' lengths in ticks

abbrev pub window_in_milliseconds : ℕ → ℕ
window_in_milliseconds W = 1000 * W

-- against the window ages are compared in full precision
abbrev pub window_ticks : Settings → ℕ
window_ticks s = ticks_in s * window_in_milliseconds (window_in s)

-- by a first look, the join and the last second ages are cut: what they take for at most the window, the bucket size, a second
abbrev pub look_ticks : Settings → ℕ
look_ticks s = longest (ticks_in s) (window_in_milliseconds (window_in s))

abbrev pub join_ticks : Settings → ℕ
join_ticks s = longest (ticks_in s) (bucket_in s)

abbrev pub second_ticks : Settings → ℕ
second_ticks s = longest (ticks_in s) 1000

-- by the cache too, which asks for an age below its period
abbrev pub cache_ticks : Settings → ℕ
cache_ticks s = ticks_in s * cache_in s

-- ---- so a comparison of the age in milliseconds is one of the age in ticks

module _ (n : ℕ) (some : 1 ≤ n) (a m : ℕ) where
  below-ticks : a < n * (m + 1) → a / n < m + 1
  below-ticks h = (div-lt_iff_lt-mul {k = n} {x = a} {y = m + 1} (omega arith)).1 (omega (arith, mul_comm (m + 1) n))

  over-ticks : n * (m + 1) ≤ a → m + 1 ≤ a / n
  over-ticks h = (le-div_iff_mul-le {k = n} {x = m + 1} {y = a} (omega arith)).1 (omega (arith, mul_comm (m + 1) n))

  -- "over m milliseconds"
  pub cut-over : ltb m (a / n) ≡ ltb (longest n m) a
  cut-over = go (ltb (longest n m) a) refl
    where
      go : (z : Bool) → ltb (longest n m) a ≡ z → ltb m (a / n) ≡ z
      go true e = lt-ltb m (a / n) (omega (arith, over-ticks (omega (arith, ltb-true (longest n m) a e))))
      go false e = le-ltb m (a / n) (omega (arith, below-ticks (omega (arith, ltb-false (longest n m) a e))))

  -- "at most m milliseconds"
  pub cut-within : leb (a / n) m ≡ leb a (longest n m)
  cut-within = go (leb a (longest n m)) refl
    where
      go : (z : Bool) → leb a (longest n m) ≡ z → leb (a / n) m ≡ z
      go true e = le-leb (a / n) m (omega (arith, below-ticks (omega (arith, leb-true a (longest n m) e))))
      go false e = lt-leb (a / n) m (omega (arith, over-ticks (omega (arith, leb-false a (longest n m) e))))

  -- "below m milliseconds"
  pub cut_below : ltb (a / n) m ≡ ltb a (n * m)
  cut_below = go (ltb a (n * m)) refl
    where
      go : (z : Bool) → ltb a (n * m) ≡ z → ltb (a / n) m ≡ z
      go true e = lt-ltb (a / n) m ((div-lt_iff_lt-mul {k = n} {x = a} {y = m} (omega arith)).1 (omega (arith, mul_comm m n, ltb-true a (n * m) e)))
      go false e = le-ltb (a / n) m ((le-div_iff_mul-le {k = n} {x = m} {y = a} (omega arith)).1 (omega (arith, mul_comm m n, ltb-false a (n * m) e)))

-- ---- no length in ticks passes a word

product-few : (n m most : ℕ) → n ≤ 1000000 → m ≤ most → n * m ≤ 1000000 * most
product-few n m most h l = omega (arith, mul-le-mul_left n l, mul-le-mul_left most h, mul_comm most n, mul_comm most 1000000)

pub length-few : (c : ClockMode) (m : ℕ) → m ≤ 33554432000 → ticks_of c * m ≤ 33554432000000000
length-few c m l = omega (arith, product-few (ticks_of c) m 33554432000 (mode-few c) l)
