-- A double and its bits, by the tests that tell a NaN: a number that differs from itself, and a word that is large below its sign.
-- Assumes nothing.
use Rattle.std.specs.Prelude.{◌≡◌, ℕ, ◌%◌, ◌<◌, ◌≤◌, Bool, true, false, not, T, from_bits, refl, Float}
use Rattle.std.proofs.Common.{sym, ap, subst, ◌∙◌, true≢false, lt-ltb, le-ltb}
use Rattle.std.proofs.lemmas.Bool.{false≢true}
use Rattle.std.specs.Float.{nan, inf, fin, binary64}
use Rattle.std.specs.Float.Ieee.{eq, ne, to_bits, nan_bits, is_nan}
use Rattle.std.specs.Float.Ieee.Bits.{nan_bits_above, nan_bits_is}
use Rattle.std.specs.Float.Ieee.Compare.{differs_from_itself}
use denote.Floats.{passes}

is-nan : (x : Float) → is_nan x ≡ true → x ≡ nan
unfolding is_nan
is-nan nan e = refl
is-nan (inf s) e = absurd (false≢true e)
is-nan (fin s m d) e = absurd (false≢true e)

-- the words of a NaN, and the others
pub nan-word : (n : ℕ) → 9218868437227405312 < n % 9223372036854775808 → nan ≡ from_bits binary64 n
nan-word n h = sym (is-nan (from_bits binary64 n) (sym (nan_bits_is binary64 n) ∙ nan_bits_above binary64 n ∙ lt-ltb _ _ h))

pub no-nan-word : (n : ℕ) → n % 9223372036854775808 ≤ 9218868437227405312 → T (not (nan_bits binary64 n))
no-nan-word n h = subst (λ (t : Bool). T (not t)) (sym (nan_bits_above binary64 n ∙ le-ltb _ _ h)) tt

-- the bits of what differs from itself
pub nan-bits : (x : Float) → ne x x ≡ true → 9221120237041090560 ≡ to_bits binary64 x
unfolding to_bits
nan-bits x e = sym (ap (to_bits binary64) (differs_from_itself x (passes _ e)))

pub no_nan : (x : Float) → ne x x ≡ false → T (not (is_nan x))
unfolding ne eq is_nan
no_nan nan e = absurd (true≢false e)
no_nan (inf s) e = tt
no_nan (fin s m d) e = tt
