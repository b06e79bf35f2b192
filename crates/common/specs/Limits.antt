-- Limits: a rate times the window, as the room stores it (a double's bits), and what is worked out from the stored word. W is the window in seconds.
-- Assumes nothing.
use Rattle.std.specs.Prelude.{ℕ, Bool, false, cond, ◌||◌, pos, from_bits, to_bits, Float}
use Rattle.std.specs.Float.{inf, binary64}
use Rattle.std.specs.Float.Ieee.{mul, div, lt, eq, of_int, to_unsigned}
use Rattle.common.specs.Ranges.{nil, most}

-- absolute: "Limit = rate * W"
abbrev pub absolute_limit : Float → ℕ → Float
absolute_limit rate W = mul binary64 rate (of_int binary64 (pos W))

-- suppressed: "Hard = rate * F * W, in that order"
abbrev pub hard_limit : Float → Float → ℕ → Float
hard_limit rate F W = mul binary64 (mul binary64 rate F) (of_int binary64 (pos W))

-- the words that are stored
unfoldable pub absolute_word : Float → ℕ → ℕ
absolute_word rate W = to_bits binary64 (absolute_limit rate W)

unfoldable pub hard_word : Float → Float → ℕ → ℕ
hard_word rate F W = to_bits binary64 (hard_limit rate F W)

-- "Cutting a limit to u64 drops the fraction and saturates, infinity included"
unfoldable pub cut_word : ℕ → ℕ
cut_word n = to_unsigned 64 (from_bits binary64 n)

-- "the soft limit is S = hard / F cut"
unfoldable pub soft_word : Float → ℕ → ℕ
soft_word F n = to_unsigned 64 (div binary64 (from_bits binary64 n) F)

-- a stored limit divided by W and F again
abbrev pub divided_back : ℕ → Float → ℕ → Float
divided_back W F n = div binary64 (div binary64 (from_bits binary64 n) (of_int binary64 (pos W))) F

-- soundness: "a series' stored limit divided by W and F (1 for absolute) is positive"; a NaN's bits are not
unfoldable pub limit_ok : ℕ → Float → ℕ → Bool
limit_ok W F n = lt nil (divided_back W F n)

-- the old rate, "as `RateLimit::from_stored_window_limit` does": the largest double for itself and for infinity
unfoldable pub rate_back : ℕ → Float → ℕ → Float
rate_back W F n = cond (eq (from_bits binary64 n) most || eq (from_bits binary64 n) (inf false)) most (divided_back W F n)
