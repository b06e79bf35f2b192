-- The suppressed limiter's arithmetic in doubles: the perceived rate, the fresh factor, the chance and the draw. W is the window in seconds.
-- Assumes nothing.
use Rattle.std.specs.Prelude.{ℕ, ◌^◌, Bool, true, false, cond, ◌&&◌, T, pos, from_bits, nat_lt, Float}
use Rattle.std.specs.Float.{fin, binary64}
use Rattle.std.specs.Float.Ieee.{sub, mul, div, le, lt, eq, of_int, to_unsigned}
use Rattle.common.specs.Ranges.{nil, one}

-- Rust's `f64::max` of two numbers
abbrev pub larger : Float → Float → Float
larger a b = cond (lt a b) b a

-- a count per window as a rate per second
abbrev pub average : ℕ → ℕ → Float
average n W = div binary64 (of_int binary64 (pos n)) (of_int binary64 (pos W))

-- "perceived is the larger of total / W and the counts at age at most 1000 ms"
abbrev pub perceived : ℕ → ℕ → ℕ → Float
perceived total W last = larger (average total W) (of_int binary64 (pos last))

-- document 02, ticket 2: "The factor at a zero perceived rate should be 0"; document 01: "else 1 - (S / W / perceived)"
unfoldable pub fresh_factor : ℕ → ℕ → ℕ → ℕ → Float
fresh_factor S total W last =
    cond (eq (perceived total W last) nil) nil
    (sub binary64 one (div binary64 (average S W) (perceived total W last)))

-- "0 to 1"
abbrev pub Unit01 : Float → Type 0
Unit01 x = T (le nil x) × T (le x one)

-- a word that holds a factor: "a cached factor is 0 to 1", with its sign clear
unfoldable pub factor_word_ok : ℕ → Bool
factor_word_ok n = nat_lt n (2 ^ 63) && (le nil (from_bits binary64 n) && le (from_bits binary64 n) one)

-- "(1 - factor) * 2^53", and as the whole number that it is
abbrev pub two_to53 : Float
two_to53 = fin false 1 (pos 53)

abbrev pub chance : Float → Float
chance x = mul binary64 (sub binary64 one x) two_to53

unfoldable pub odds : Float → ℕ
odds x = to_unsigned 64 (chance x)

-- "Factor 0 admits, 1 does not; otherwise admitted exactly when draw < (1 - factor) * 2^53"
unfoldable pub admitted : Float → ℕ → Bool
admitted x draw = cond (eq x nil) true (cond (eq x one) false (lt (of_int binary64 (pos draw)) (chance x)))
