-- What 16 hex digits say: reading what is shown gives the word back, so showing is one to one.
-- Assumes nothing.
use Rattle.std.specs.Prelude.{◌≡◌, refl, cond, List, [], ◌∷◌, ◌++◌, ℕ, zero, suc, ◌+◌, ◌-◌, ◌*◌, ◌/◌, ◌%◌, ◌≤◌, ◌<◌, ltb}
use Rattle.std.proofs.Common.{sym, ap, ◌∙◌, div-add-mod', mod-lt, arith, lt-ltb, le-ltb}
use Rattle.std.proofs.Math.Decide.{dec_lt}
use Rattle.printing.specs.Answers.{hex_digit, hex_digits, show_hex16}

-- what a hex digit counts
unfoldable pub hex_of : ℕ → ℕ
hex_of b = cond (ltb b 58) (b - 48) (b - 87)

-- what hex digits count after those that count acc
abbrev pub hex_from : ℕ → List ℕ → ℕ
hex_from acc [] = acc
hex_from acc (b ∷ bs) = hex_from (acc * 16 + hex_of b) bs

pub hex-of : (d : ℕ) → d < 16 → hex_of (hex_digit d) ≡ d
unfolding hex_of hex_digit
hex-of d h = go (dec_lt d 10)
  where
    go : Dec (d < 10) → cond (ltb (cond (ltb d 10) (48 + d) (87 + d)) 58) (cond (ltb d 10) (48 + d) (87 + d) - 48) (cond (ltb d 10) (48 + d) (87 + d) - 87) ≡ d
    go (yes p) = let k : 48 + d < 58 = omega arith in rw (lt-ltb d 10 p, lt-ltb _ _ k) (omega arith)
    go (no p) =
        let l : 10 ≤ d = omega arith in
        let k : 58 ≤ 87 + d = omega arith in
        rw (le-ltb d 10 l, le-ltb _ _ k) (omega arith)

hex-append : (acc : ℕ) (xs ys : List ℕ) → hex_from acc (xs ++ ys) ≡ hex_from (hex_from acc xs) ys
hex-append acc [] ys = refl
hex-append acc (x ∷ xs) ys = hex-append (acc * 16 + hex_of x) xs ys

-- 16 to the k
abbrev pub sixteen_to : ℕ → ℕ
sixteen_to zero = 1
sixteen_to (suc k) = sixteen_to k * 16

hex-digits : (k w : ℕ) → w < sixteen_to k → hex_from 0 (hex_digits k w) ≡ w
unfolding hex_digits
hex-digits zero w h = omega arith
hex-digits (suc k) w h =
    let q : w / 16 < sixteen_to k = omega arith in
    rw (hex-append 0 (hex_digits k (w / 16)) (hex_digit (w % 16) ∷ []), hex-digits k (w / 16) q, hex-of (w % 16) (mod-lt w (omega arith))) (div-add-mod' w 16)

-- reading what is shown gives it back
pub hex-show : (w : ℕ) → w ≤ 18446744073709551615 → hex_from 0 (show_hex16 w) ≡ w
hex-show w h = hex-digits 16 w (omega arith)

-- showing is one to one
pub hex-injective : (v w : ℕ) → v ≤ 18446744073709551615 → w ≤ 18446744073709551615 → show_hex16 v ≡ show_hex16 w → v ≡ w
hex-injective v w h k e = sym (hex-show v h) ∙ ap (hex_from 0) e ∙ hex-show w k
