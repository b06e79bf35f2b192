-- What the code of the limits has tested, as the definitions say it.
-- Assumes nothing.
use Rattle.std.specs.Prelude.{◌≡◌, ℕ, true, false, pos, from_bits, Float}
use Rattle.std.proofs.Math.Path.{sym}
use Rattle.std.specs.Float.{inf, binary64}
use Rattle.std.specs.Float.Ieee.{div, lt, eq, of_int}
use Rattle.common.specs.Ranges.{nil, most}
use Rattle.common.specs.Limits.{limit_ok, rate_back}

-- with x the word's number
module _ (W : ℕ) (F : Float) (n : ℕ) (x : Float) (e : x ≡ from_bits binary64 n) where
  pub back-most : eq x most ≡ true → most ≡ rate_back W F n
  unfolding rate_back
  back-most h = sym (rw (← e, h))

  pub back-infinite : eq x most ≡ false → eq x (inf false) ≡ true → most ≡ rate_back W F n
  unfolding rate_back
  back-infinite h k = sym (rw (← e, h, k))

  pub back-divided : (w : Float) → w ≡ of_int binary64 (pos W) → eq x most ≡ false → eq x (inf false) ≡ false →
      div binary64 (div binary64 x w) F ≡ rate_back W F n
  unfolding rate_back
  back-divided w i h k = sym (rw (← e, ← i, h, k))

  pub tested-limit : (w : Float) → w ≡ of_int binary64 (pos W) → lt nil (div binary64 (div binary64 x w) F) ≡ limit_ok W F n
  unfolding limit_ok
  tested-limit w i = sym (rw (← e, ← i))
