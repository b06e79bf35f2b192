-- What the code of the factor and the draw has tested, as the definitions say it.
-- Assumes nothing.
use Rattle.std.specs.Prelude.{◌≡◌, ℕ, ◌^◌, ◌<◌, Bool, true, false, pos, from_bits, Float}
use Rattle.std.proofs.Math.Path.{sym}
use Rattle.std.proofs.Common.{ap, ◌∙◌}
use Rattle.std.specs.Float.{binary64}
use Rattle.std.specs.Float.Ieee.{sub, div, le, lt, eq, of_int}
use borrow.Author.Tests.{lt-ltb}
use Rattle.common.specs.Ranges.{nil, one}
use Rattle.suppression.specs.Factor.{larger, perceived, fresh_factor, factor_word_ok, chance, admitted}

-- with x the word's number
module _ (n : ℕ) (x : Float) (e : x ≡ from_bits binary64 n) where
  pub tested-factor : (b : Bool) → n < 2 ^ 63 → le nil x ≡ true → b ≡ le x one → b ≡ factor_word_ok n
  unfolding factor_word_ok
  tested-factor b l h k = k ∙ sym (rw (← e, lt-ltb _ _ l, h))

  pub negative-factor : n < 2 ^ 63 → le nil x ≡ false → false ≡ factor_word_ok n
  unfolding factor_word_ok
  negative-factor l h = sym (rw (← e, lt-ltb _ _ l, h))

pub tested-nil : (x : Float) (draw : ℕ) → eq x nil ≡ true → true ≡ admitted x draw
unfolding admitted
tested-nil x draw h = sym (rw h)

pub tested-one : (x : Float) (draw : ℕ) → eq x nil ≡ false → eq x one ≡ true → false ≡ admitted x draw
unfolding admitted
tested-one x draw h k = sym (rw (h, k))

pub tested-draw : (x : Float) (draw : ℕ) (d : Float) → d ≡ of_int binary64 (pos draw) → eq x nil ≡ false → eq x one ≡ false → lt d (chance x) ≡ admitted x draw
unfolding admitted
tested-draw x draw d i h k = ap (λ (z : Float). lt z (chance x)) i ∙ sym (rw (h, k))

-- the fresh factor from the counts as doubles and the perceived rate r
module _ (S total W last : ℕ) (w t l r : Float) (p : w ≡ of_int binary64 (pos W)) (q : t ≡ of_int binary64 (pos total)) (u : l ≡ of_int binary64 (pos last))
    (v : r ≡ larger (div binary64 t w) l) where
  rate-is : r ≡ perceived total W last
  rate-is = v ∙ rw (p, q, u)

  pub fresh-nil : eq r nil ≡ true → nil ≡ fresh_factor S total W last
  unfolding fresh_factor
  fresh-nil e = sym (rw (← rate-is, e))

  pub fresh-rate : (s : Float) → s ≡ of_int binary64 (pos S) → eq r nil ≡ false →
      sub binary64 one (div binary64 (div binary64 s w) r) ≡ fresh_factor S total W last
  unfolding fresh_factor
  fresh-rate s k e = sym (rw (← rate-is, ← k, ← p, e))
