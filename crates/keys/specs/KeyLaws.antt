-- The laws of keys in words: what a word of a key may be.
-- Assumes nothing.
use Rattle.std.specs.Prelude.{◌≡◌, refl, true, List, ℕ, zero, suc, ◌+◌, ◌-◌, ◌*◌, ◌/◌, ◌%◌, ◌^◌, ◌≤◌, ◌<◌, min, ltb, length, get_or, eqb}
use Rattle.std.proofs.Common.{sym, ap, ◌∙◌, le_of_lt, add-zero, add_assoc, mul-suc, div-one, arith, pow-add, lt-ltb, pow-suc, add-one, ltb-true, eq-eqb, eqb-true}
use Rattle.std.proofs.Math.Nat.{min-eq_left, min-eq_right, pow-le-pow_right, div-div-eq-div-mul, mod-eq_of_lt}
use Rattle.std.proofs.Math.ListN.{get_or-eq_default}
use Rattle.keys.specs.Keys.{pack, unused_zero}
use Rattle.base.specs.Decides.{both_ways}

-- ---- a word of a key: its bytes past the key's end are 0

pub unused-all : (n i x : ℕ) → 8 ≤ n - i → x < 18446744073709551616 → true ≡ unused_zero n i x
unfolding unused_zero
unused-all n i x h l =
    let p : 256 ^ min 8 (n - i) ≡ 18446744073709551616 = ap (λ (z : ℕ). 256 ^ z) (min-eq_left h) in
    sym (lt-ltb x (256 ^ min 8 (n - i)) (omega (arith, p)))

pub unused-some : (n i x y : ℕ) → n - i < 8 → y ≡ 256 ^ (n - i) → ltb x y ≡ unused_zero n i x
unfolding unused_zero
unused-some n i x y h e = ap (ltb x) (e ∙ ap (λ (z : ℕ). 256 ^ z) (sym (min-eq_right (le_of_lt h))))

-- fewer than eight bytes are less than a word
pub power-word : (n : ℕ) → n < 8 → 256 ^ n < 18446744073709551616
power-word n h = let m : n ≤ 7 = omega arith in let p : 256 ^ n ≤ 256 ^ 7 = pow-le-pow_right (omega arith) m in omega (arith, p)

power-shifted : (n : ℕ) → 2 ^ (8 * n) ≡ 256 ^ n
power-shifted zero = refl
power-shifted (suc n) =
    ap (λ (k : ℕ). 2 ^ k) (mul-suc 8 n) ∙ pow-add 2 (8 * n) 8 ∙ ap (λ (x : ℕ). x * 256) (power-shifted n) ∙ sym (pow-suc 256 n)

-- as a bit shifted by so many bytes
pub shifted-word : (n : ℕ) → n < 8 → 1 * 2 ^ (8 * n) % 18446744073709551616 ≡ 256 ^ n
shifted-word n h =
    let e : 1 * 2 ^ (8 * n) ≡ 256 ^ n = omega (arith, power-shifted n) in
    mod-eq_of_lt (omega (arith, e, power-word n h)) ∙ e

-- ---- shifts: a word of a key's last bytes loses the lowest ones, and past the key's end each byte reads as 0

pack-next : (key : List ℕ) (i : ℕ) → ((k : ℕ) → get_or key k 0 < 256) → length key ≤ i + 8 → pack key i / 256 ≡ pack key (i + 1)
pack-next key i h l =
    let at : (k : ℕ) → get_or key (i + 1 + k) 0 ≡ get_or key (i + (1 + k)) 0 = λ k. ap (λ (m : ℕ). get_or key m 0) (add_assoc i 1 k) in
    let none : get_or key (i + 1 + 7) 0 ≡ 0 = get_or-eq_default key 0 (omega arith) in
    omega (arith, h i, at 1, at 2, at 3, at 4, at 5, at 6, none)

pub pack-shifted : (key : List ℕ) (i d : ℕ) → ((k : ℕ) → get_or key k 0 < 256) → length key ≤ i + 8 → pack key i / 2 ^ (8 * d) ≡ pack key (i + d)
pack-shifted key i zero h l = div-one (pack key i) ∙ ap (pack key) (sym (add-zero i))
pack-shifted key i (suc d) h l =
    let p : 2 ^ (8 * suc d) ≡ 2 ^ (8 * d) * 256 = ap (λ (k : ℕ). 2 ^ k) (mul-suc 8 d) ∙ pow-add 2 (8 * d) 8 in
    let n : i + d + 1 ≡ i + suc d = omega arith in
    ap (λ (x : ℕ). pack key i / x) p ∙ sym (div-div-eq-div-mul (pack key i) (2 ^ (8 * d)) 256) ∙
    ap (λ (x : ℕ). x / 256) (pack-shifted key i d h l) ∙ pack-next key (i + d) h (omega arith) ∙ ap (pack key) n

pub unused-none : (n i x : ℕ) → n ≤ i → eqb x 0 ≡ unused_zero n i x
unfolding unused_zero
unused-none n i x h =
    let e : n - i ≡ 0 = omega arith in
    let m : min 8 (n - i) ≡ 0 = ap (min 8) e in
    let p : 256 ^ min 8 (n - i) ≡ 1 = ap (λ (z : ℕ). 256 ^ z) m in
    both_ways (eqb x 0) (ltb x (256 ^ min 8 (n - i))) (λ q. lt-ltb x (256 ^ min 8 (n - i)) (omega (arith, eqb-true x 0 q, p)))
    (λ q. eq-eqb x 0 (omega (arith, ltb-true x (256 ^ min 8 (n - i)) q, p)))

-- a power by its turns
pub power-fits : (n i : ℕ) → i < n → n < 8 → 256 ^ i ≤ 281474976710656
power-fits n i h l = let m : i ≤ 6 = omega arith in pow-le-pow_right (omega arith) m

pub power-turn : (x i : ℕ) → x ≡ 256 ^ i → x * 256 ≡ 256 ^ (i + 1)
power-turn x i e = ap (λ (y : ℕ). y * 256) e ∙ sym (pow-suc 256 i) ∙ ap (λ (k : ℕ). 256 ^ k) (sym (add-one i))
