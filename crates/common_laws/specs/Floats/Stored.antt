-- A limit that is stored as rate * W or as rate * F * W, for a rate of 2 ^ -900 at least, a factor F of 1 at least and a window W from 1 to 2 ^ 25, is above
-- zero, and what is read back from it, divided by W and by F again, is above zero too.
-- Each may be an infinity. With 2 ^ k ≤ F < 2 ^ (k + 1), the four results are at least 2 ^ (k - 900), 2 ^ (k - 900), 2 ^ (k - 925) and 2 ^ -926: powers of
-- two, which the format holds, so that no rounding goes below them. Assumes nothing.
use Rattle.std.specs.Prelude.{◌≡◌, refl, ℕ, zero, suc, ◌+◌, ◌-◌, ◌*◌, ◌/◌, ◌^◌, ◌≤◌, ◌<◌, true, false, ℤ, pos, negsuc, T, eqb, Float}
use Rattle.std.proofs.Common.{sym, ap, ◌∙◌, subst, zero-le, le_trans, le_of_eq, le_of_lt, lt_of_lt_of_le, lt_of_not-le, not-le_of_lt, mul-one, one-mul, mul_comm, mul_assoc, mul_left_comm, mul_right_comm, mul-le-mul, mul-le-mul_right, mul-pos, le_of_mul-le-mul_right, le-div_iff_mul-le, div-lt_iff_lt-mul, pow-suc, lt_irrefl, zero-lt-suc, arith, lit≤, lit<, pow_pos, pow_mono}
use Rattle.std.specs.Float.{nan, inf, fin, Format, binary64}
use Rattle.std.specs.Float.Ieee.{up, down, size, mul, div, le, lt, fits, of_int}
use Rattle.std.specs.Float.Ieee.Digits.{size-lt, size-le, size_reaches}
use Rattle.std.specs.Float.Ieee.Fits.{up_pos, down_pos}
use Rattle.std.specs.Float.Ieee.Bits.{cond_no}
use Rattle.std.specs.Float.Ieee.Scale.{finite}
use Rattle.std.specs.Float.Ieee.Positive.{first_pos, above, above_of_le}
use Rattle.common.specs.Ranges.{least, nil, one}
use Rattle.common_laws.specs.Floats.Bounds.{plain, Low, Held, round-low, low-of-le, lt-of-low}
use Rattle.common_laws.specs.Floats.Held.{held-pow, fits-high}
use Rattle.common_laws.specs.Floats.Ops.{div_is, mul_is, pos→neqb}
use Rattle.common_laws.specs.Floats.Values.{of_int-val, value-shape}
use Rattle.common_laws.specs.Floats.Soft.{ge-one, ge-one-pos}

-- ---- x ≥ 2 ^ -(b + 1), an infinity too
above-plain : (x : Float) → T (above x) → T (plain x)
above-plain nan t = absurd t
above-plain (inf s) t = t
above-plain (fin true m e) t = absurd t
above-plain (fin false m e) t = tt

pub low-of-pow : (b : ℕ) (x : Float) → T (le (fin false 1 (negsuc b)) x) → Low x 1 (2 ^ suc b)
low-of-pow b x h =
    low-of-le (fin false 1 (negsuc b)) x 1 (2 ^ suc b) (pow_pos (suc b)) (above-plain x (above_of_le (fin false 1 (negsuc b)) x tt h)) (refl, refl) h

-- ---- a power of two under F
size-gt : (n j : ℕ) → 2 ^ j ≤ n → j < size n
size-gt n j h = lt_of_not-le (λ (g : size n ≤ j). not-le_of_lt (lt_of_lt_of_le (size-lt n) (pow_mono g)) h)

pred_lt : (z : ℕ) → 0 < z → z - 1 < z
pred_lt z h = omega arith

suc-pred : (z : ℕ) → 0 < z → z ≡ suc (z - 1)
suc-pred z h = omega arith

pred-le : (z u : ℕ) → z ≤ suc u → z - 1 ≤ u
pred-le z u h = omega arith

-- n / d, from 1 up to below 2 ^ (u + 1), lies from 2 ^ k up to below 2 ^ (k + 1) for a k up to u
pub leading : (n d u : ℕ) → 0 < d → d ≤ n → n < 2 ^ suc u * d → (k : ℕ) × (k ≤ u) × (2 ^ k * d ≤ n) × (n < 2 ^ suc k * d)
leading n d u D h t =
    let q = n / d in
    let z = size q in
    let Q : 0 < z = size-gt q 0 ((le-div_iff_mul-le D).1 (le_trans (le_of_eq (one-mul d)) h)) in (
      z - 1,
      pred-le z u (size-le q (suc u) ((div-lt_iff_lt-mul D).1 t)),
      (le-div_iff_mul-le D).0 (size_reaches q (z - 1) (pred_lt z Q)),
      (div-lt_iff_lt-mul D).0 (subst (λ (x : ℕ). q < 2 ^ x) (suc-pred z Q) (size-lt q)),
    )

-- ---- the operations on a bound from below; X / E is the operand
mul-inf : (f : Format) (n : ℕ) (d : ℤ) → 0 < n → mul f (inf false) (fin false n d) ≡ inf false
unfolding mul
mul-inf f n d h = cond_no (eqb n 0) nan (inf false) (pos→neqb n h)

div-inf : (f : Format) (n : ℕ) (d : ℤ) → div f (inf false) (fin false n d) ≡ inf false
unfolding div
div-inf f n d = refl

-- times n / d
pub low-mul : (f : Format) (x : Float) (a c : ℕ) (n : ℕ) (d : ℤ) (a' c' : ℕ) → 0 < n → 0 < c' → Held f a' c'
    → ((X E : ℕ) → a * E ≤ X * c → a' * (E * down d) ≤ X * (n * up d) * c') → Low x a c → Low (mul f x (fin false n d)) a' c'
low-mul f nan a c n d a' c' N C v h l = absurd l
low-mul f (inf true) a c n d a' c' N C v h l = absurd l
low-mul f (inf false) a c n d a' c' N C v h l = subst (λ (z : Float). Low z a' c') (sym (mul-inf f n d N)) tt
low-mul f (fin true m e) a c n d a' c' N C v h l = absurd l.0
low-mul f (fin false m e) a c n d a' c' N C v h l =
    subst (λ (z : Float). Low z a' c') (sym (mul_is f m e n d))
    (round-low f (m * up e * (n * up d)) (down e * down d) a' c' (mul-pos (down_pos e) (down_pos d)) C v (h (m * up e) (down e) l.1))

-- divided by n / d
pub low-div : (f : Format) (x : Float) (a c : ℕ) (n : ℕ) (d : ℤ) (a' c' : ℕ) → 0 < n → 0 < c' → Held f a' c'
    → ((X E : ℕ) → a * E ≤ X * c → a' * (n * up d * E) ≤ X * down d * c') → Low x a c → Low (div f x (fin false n d)) a' c'
low-div f nan a c n d a' c' N C v h l = absurd l
low-div f (inf true) a c n d a' c' N C v h l = absurd l
low-div f (inf false) a c n d a' c' N C v h l = subst (λ (z : Float). Low z a' c') (sym (div-inf f n d)) tt
low-div f (fin true m e) a c n d a' c' N C v h l = absurd l.0
low-div f (fin false m e) a c n d a' c' N C v h l =
    subst (λ (z : Float). Low z a' c') (sym (div_is f m e n d N))
    (round-low f (m * up e * down d) (n * up d * down e) a' c' (mul-pos (mul-pos N (up_pos d)) (down_pos e)) C v (h (m * up e) (down e) l.1))

-- ---- the four steps, as facts of fractions: n / d stands for the operand
-- X / E ≥ a / c, n / d ≥ 1
keeps : (X E a c n d : ℕ) → d ≤ n → a * E ≤ X * c → a * (E * d) ≤ X * n * c
keeps X E a c n d g h =
    le_trans (le_of_eq (sym (mul_assoc a E d))) (le_trans (mul-le-mul h g) (le_of_eq (mul_right_comm X c n)))

-- X / E ≥ 1 / c, n / d ≥ p
grows : (X E c n d p : ℕ) → p * d ≤ n → 1 * E ≤ X * c → p * (E * d) ≤ X * n * c
grows X E c n d p g h =
    le_trans (le_of_eq (mul_left_comm p E d)) (le_trans (mul-le-mul (le_trans (le_of_eq (sym (one-mul E))) h) g) (le_of_eq (mul_right_comm X c n)))

-- X / E ≥ a / c, n / d ≤ p
falls : (X E a c n d p : ℕ) → n ≤ p * d → a * E ≤ X * c → a * (n * E) ≤ X * d * (c * p)
falls X E a c n d p g h =
    let l : a * (n * E) ≡ a * E * n = simp (mul_assoc, mul_comm, mul_left_comm) in
    let r : X * c * (p * d) ≡ X * d * (c * p) = simp (mul_assoc, mul_comm, mul_left_comm) in
    le_trans (le_of_eq l) (le_trans (mul-le-mul h g) (le_of_eq r))

-- the same with p = a * q taken off both sides: X / E ≥ a / c, n / d ≤ a * q gives 1 / (c * q)
cancels : (X E a c n d q : ℕ) → 0 < a → n ≤ a * q * d → a * E ≤ X * c → 1 * (n * E) ≤ X * d * (c * q)
cancels X E a c n d q A g h =
    let r : X * d * (c * (a * q)) ≡ X * d * (c * q) * a = simp (mul_assoc, mul_comm, mul_left_comm) in
    le_of_mul-le-mul_right
    (le_trans (le_of_eq (ap (λ (z : ℕ). z * a) (one-mul (n * E)) ∙ mul_comm (n * E) a)) (le_trans (falls X E a c n d (a * q) g h) (le_of_eq r)))
    A

-- 2 ^ k / 2 ^ a is in range
held-k : (k a : ℕ) → k ≤ 1023 → a ≤ 1074 → Held binary64 (2 ^ k) (2 ^ a)
held-k k a h g = held-pow binary64 k a (under k a 1074 g) (over k a 1023 h)
  where
    under : (k a b : ℕ) → a ≤ b → a ≤ k + b
    under k a b h = omega arith

    over : (k a b : ℕ) → k ≤ b → k ≤ a + b
    over k a b h = omega arith

-- ---- the operands: W is w / g, from 1 to 2 ^ 25, and F is n / d, from 2 ^ k to below 2 ^ (k + 1)
pub record Window (W w : ℕ) (g : ℤ) : Type 0 where
  pub is : of_int binary64 (pos W) ≡ fin false w g
  pub from : down g ≤ w * up g
  pub to : w * up g ≤ 2 ^ 25 * down g

pub record Factor (F : Float) (n : ℕ) (d : ℤ) (k : ℕ) : Type 0 where
  pub is : F ≡ fin false n d
  pub small : k ≤ 1023
  pub from : 2 ^ k * down d ≤ n * up d
  pub to : n * up d < 2 ^ suc k * down d

pub window : (W : ℕ) → 0 < W → W ≤ 2 ^ 25 → (w : ℕ) × (g : ℤ) × Window W w g
window W W1 W25 =
    let v = value-shape (of_int binary64 (pos W)) W 1 (of_int-val binary64 W (le_trans W25 (lit≤ tt))) in
    let w = v.0 in
    let g = v.1 in
    let e : w * up g ≡ W * down g = sym (mul-one (w * up g)) ∙ v.3 in (
      w,
      g,
      record {
        is = v.2;
        from = le_trans (le_of_eq (sym (one-mul (down g)))) (le_trans (mul-le-mul_right (down g) W1) (le_of_eq (sym e)));
        to = le_trans (le_of_eq e) (mul-le-mul_right (down g) W25);
      },
    )

high : (n : ℕ) (d : ℤ) → T (fits binary64 (fin false n d)) → 0 < n → n * up d < 2 ^ 1024 * down d
high zero d t p = absurd (lt_irrefl 0 p)
high (suc n) d t p = fits-high binary64 false n d t

factor : (F : Float) → T (fits binary64 F) → T (finite F) → T (le one F) → (n : ℕ) × (d : ℤ) × (k : ℕ) × Factor F n d k
factor F t i o =
    let s = ge-one F i o in
    let n = s.0 in
    let d = s.1 in
    let l = leading (n * up d) (down d) 1023 (down_pos d) s.3 (high n d (subst (λ (x : Float). T (fits binary64 x)) s.2 t) (ge-one-pos n d s.3)) in
    (n, d, l.0, record { is = s.2; small = l.1; from = l.2; to = l.3 })

-- the factor of an absolute limit
factor-one : Factor one 1 (pos 0) 0
factor-one = record { is = refl; small = zero-le; from = lit≤ tt; to = lit< tt }

-- ---- what the operations do to a bound from below of 2 ^ k / 2 ^ 900
module _ (W w : ℕ) (g : ℤ) (u : Window W w g) where
  w-pos : 0 < w
  w-pos = first_pos w (up g) (lt_of_lt_of_le (down_pos g) u.from)

  times-window : (x : Float) (k : ℕ) → k ≤ 1023 → Low x (2 ^ k) (2 ^ 900) → Low (mul binary64 x (of_int binary64 (pos W))) (2 ^ k) (2 ^ 900)
  times-window x k h l =
      subst (λ (y : Float). Low (mul binary64 x y) (2 ^ k) (2 ^ 900)) (sym u.is)
      (low-mul binary64 x (2 ^ k) (2 ^ 900) w g (2 ^ k) (2 ^ 900) w-pos (pow_pos 900) (held-k k 900 h (lit≤ tt))
      (λ X E i. keeps X E (2 ^ k) (2 ^ 900) (w * up g) (down g) u.from i) l)

  over-window : (x : Float) (k : ℕ) → k ≤ 1023 → Low x (2 ^ k) (2 ^ 900) → Low (div binary64 x (of_int binary64 (pos W))) (2 ^ k) (2 ^ 925)
  over-window x k h l =
      subst (λ (y : Float). Low (div binary64 x y) (2 ^ k) (2 ^ 925)) (sym u.is)
      (low-div binary64 x (2 ^ k) (2 ^ 900) w g (2 ^ k) (2 ^ 925) w-pos (pow_pos 925) (held-k k 925 h (lit≤ tt))
      (λ X E i. falls X E (2 ^ k) (2 ^ 900) (w * up g) (down g) (2 ^ 25) u.to i) l)

module _ (F : Float) (n : ℕ) (d : ℤ) (k : ℕ) (B : Factor F n d k) where
  n_pos : 0 < n
  n_pos = first_pos n (up d) (lt_of_lt_of_le (mul-pos (pow_pos k) (down_pos d)) B.from)

  times-factor : (x : Float) → Low x 1 (2 ^ 900) → Low (mul binary64 x F) (2 ^ k) (2 ^ 900)
  times-factor x l =
      subst (λ (y : Float). Low (mul binary64 x y) (2 ^ k) (2 ^ 900)) (sym B.is)
      (low-mul binary64 x 1 (2 ^ 900) n d (2 ^ k) (2 ^ 900) n_pos (pow_pos 900) (held-k k 900 B.small (lit≤ tt))
      (λ X E i. grows X E (2 ^ 900) (n * up d) (down d) (2 ^ k) B.from i) l)

  over-factor : (x : Float) → Low x (2 ^ k) (2 ^ 925) → Low (div binary64 x F) 1 (2 ^ 926)
  over-factor x l =
      subst (λ (y : Float). Low (div binary64 x y) 1 (2 ^ 926)) (sym B.is)
      (low-div binary64 x (2 ^ k) (2 ^ 925) n d 1 (2 ^ 926) n_pos (pow_pos 926) (held-k 0 926 zero-le (lit≤ tt))
      (λ X E i. cancels X E (2 ^ k) (2 ^ 925) (n * up d) (down d) 2 (pow_pos k)
      (le_trans (le_of_lt B.to) (le_of_eq (ap (λ (z : ℕ). z * down d) (pow-suc 2 k)))) i) l)

  -- a limit with that bound is above zero, and so is what is read back from it
  back : (hard : Float) (W : ℕ) → 0 < W → W ≤ 2 ^ 25 → Low hard (2 ^ k) (2 ^ 900) → T (lt nil (div binary64 (div binary64 hard (of_int binary64 (pos W))) F))
  back hard W p q l =
      let v = window W p q in
      let x = div binary64 hard (of_int binary64 (pos W)) in
      lt-of-low (div binary64 x F) 1 (2 ^ 926) (zero-lt-suc 0) (over-factor x (over-window W v.0 v.1 v.2 hard k B.small l))

-- ---- the two limits
pub absolute-back : (rate : Float) (W : ℕ) → T (le least rate) → 0 < W → W ≤ 2 ^ 25
    → T (lt nil (div binary64 (div binary64 (mul binary64 rate (of_int binary64 (pos W))) (of_int binary64 (pos W))) one))
absolute-back rate W r p q =
    let v = window W p q in
    back one 1 (pos 0) 0 factor-one (mul binary64 rate (of_int binary64 (pos W))) W p q
    (times-window W v.0 v.1 v.2 rate 0 zero-le (low-of-pow 899 rate r))

pub hard-back : (rate F : Float) (W : ℕ) → T (le least rate) → T (fits binary64 F) → T (finite F) → T (le one F) → 0 < W → W ≤ 2 ^ 25
    → T (lt nil (div binary64 (div binary64 (mul binary64 (mul binary64 rate F) (of_int binary64 (pos W))) (of_int binary64 (pos W))) F))
hard-back rate F W r t i o p q =
    let b = factor F t i o in
    let v = window W p q in
    let k = b.2 in
    let x = mul binary64 rate F in
    back F b.0 b.1 k b.3 (mul binary64 x (of_int binary64 (pos W))) W p q
    (times-window W v.0 v.1 v.2 x k b.3.small (times-factor F b.0 b.1 k b.3 rate (low-of-pow 899 rate r)))
