-- The bits of a word, by their places: bit s of x, and x with another bit there. Both take the lowest bit first, so each law is one induction over places.
-- Assumes nothing.
use Rattle.std.specs.Prelude.{◌≡◌, refl, ◌≢◌, ℕ, zero, suc, ◌+◌, ◌-◌, ◌*◌, ◌/◌, ◌%◌, ◌^◌, ◌≤◌, ◌<◌}
use Rattle.std.proofs.Common.{sym, ap, ◌∙◌, mul_assoc, pow-suc, div-one, one-add, arith, shl_exact, shr-shr}
use Rattle.std.proofs.lemmas.Nat.{mod-pow-add}

unfoldable pub bit_at : ℕ → ℕ → ℕ
bit_at x zero = x % 2
bit_at x (suc s) = bit_at (x / 2) s

-- b in the place of bit s
unfoldable pub with_bit : ℕ → ℕ → ℕ → ℕ
with_bit x zero b = x / 2 * 2 + b
with_bit x (suc s) b = with_bit (x / 2) s b * 2 + x % 2

pub bit-lt : (x s : ℕ) → bit_at x s < 2
unfolding bit_at
bit-lt x zero = omega arith
bit-lt x (suc s) = bit-lt (x / 2) s

pub bit-none : (s : ℕ) → bit_at 0 s ≡ 0
unfolding bit_at
bit-none zero = refl
bit-none (suc s) = bit-none s

-- ---- a bit that was written, and the others

pub bit-same : (x s b : ℕ) → b < 2 → bit_at (with_bit x s b) s ≡ b
unfolding bit_at with_bit
bit-same x zero b h = omega arith
bit-same x (suc s) b h =
    let e : (with_bit (x / 2) s b * 2 + x % 2) / 2 ≡ with_bit (x / 2) s b = omega arith in
    ap (λ (y : ℕ). bit_at y s) e ∙ bit-same (x / 2) s b h

pub bit-other : (x s b t : ℕ) → b < 2 → t ≢ s → bit_at (with_bit x s b) t ≡ bit_at x t
unfolding bit_at with_bit
bit-other x zero b zero h n = absurd (n refl)
bit-other x zero b (suc t) h n = let e : (x / 2 * 2 + b) / 2 ≡ x / 2 = omega arith in ap (λ (y : ℕ). bit_at y t) e
bit-other x (suc s) b zero h n = omega arith
bit-other x (suc s) b (suc t) h n =
    let e : (with_bit (x / 2) s b * 2 + x % 2) / 2 ≡ with_bit (x / 2) s b = omega arith in
    ap (λ (y : ℕ). bit_at y t) e ∙ bit-other (x / 2) s b t h (λ p. n (ap suc p))

-- no bit more than there were
pub with-lt : (k x s b : ℕ) → x < 2 ^ k → s < k → b < 2 → with_bit x s b < 2 ^ k
unfolding with_bit
with-lt zero x s b h l g = absurd (omega arith)
with-lt (suc k) x zero b h l g = omega (arith, h, pow-suc 2 k)
with-lt (suc k) x (suc s) b h l g =
    let i : with_bit (x / 2) s b < 2 ^ k = with-lt k (x / 2) s b (omega (arith, h, pow-suc 2 k)) (omega arith) g in
    omega (arith, i, pow-suc 2 k)

-- words with the same bits are the same
pub bits-same : (n x y : ℕ) → x ≤ n → y ≤ n → ((s : ℕ) → bit_at x s ≡ bit_at y s) → x ≡ y
unfolding bit_at
bits-same zero x y h k f = omega arith
bits-same (suc n) x y h k f =
    let e : x / 2 ≡ y / 2 = bits-same n (x / 2) (y / 2) (omega arith) (omega arith) (λ s. f (suc s)) in
    omega (arith, e, f 0)

-- ---- as a program takes them

-- shifted down
pub bit-shift : (x s : ℕ) → x / 2 ^ s % 2 ≡ bit_at x s
unfolding bit_at
bit-shift x zero = ap (λ (y : ℕ). y % 2) (div-one x)
bit-shift x (suc s) = ap (λ (y : ℕ). y % 2) (ap (λ (n : ℕ). x / 2 ^ n) (sym (one-add s)) ∙ sym (shr-shr x 1 s)) ∙ bit-shift (x / 2) s

-- taken off and another one put on
pub with-sum : (x s b : ℕ) → with_bit x s b + bit_at x s * 2 ^ s ≡ x + b * 2 ^ s
unfolding bit_at with_bit
with-sum x zero b = omega arith
with-sum x (suc s) b =
    let p : (c : ℕ) → c * 2 ^ suc s ≡ c * 2 ^ s * 2 = λ c. ap (λ (n : ℕ). c * n) (pow-suc 2 s) ∙ sym (mul_assoc c (2 ^ s) 2) in
    omega (arith, with-sum (x / 2) s b, p (bit_at (x / 2) s), p b)

pub bit-under : (x s : ℕ) → bit_at x s * 2 ^ s ≤ x
unfolding bit_at
bit-under x zero = omega arith
bit-under x (suc s) =
    let b = bit_at (x / 2) s in
    let p : b * 2 ^ suc s ≡ b * 2 ^ s * 2 = ap (λ (n : ℕ). b * n) (pow-suc 2 s) ∙ sym (mul_assoc b (2 ^ s) 2) in
    omega (arith, bit-under (x / 2) s, p)

-- so in words of 64 bits, where a shift up is cut
pub shift-whole : (s b : ℕ) → s < 64 → b < 2 → b * 2 ^ s % 18446744073709551616 ≡ b * 2 ^ s
shift-whole s b h l = shl_exact 1 s 64 l (omega arith)

pub record Put (x s b r : ℕ) : Type 0 where
  pub off : r * 2 ^ s % 18446744073709551616 ≤ x
  pub on : x - r * 2 ^ s % 18446744073709551616 + b * 2 ^ s % 18446744073709551616 ≡ with_bit x s b
  pub fits : with_bit x s b < 18446744073709551616

pub put-bit : (x s b r : ℕ) → x < 18446744073709551616 → s < 64 → b < 2 → r ≡ bit_at x s → Put x s b r
put-bit x s b r f h l e =
    let p = shift-whole s r h (omega (arith, e, bit-lt x s)) in
    let q = shift-whole s b h l in
    let u : r * 2 ^ s ≤ x = rw e (bit-under x s) in
    let v : with_bit x s b + r * 2 ^ s ≡ x + b * 2 ^ s = rw e (with-sum x s b) in
    record { off = omega (arith, p, u); on = omega (arith, p, q, u, v); fits = with-lt 64 x s b f h l }

-- the lowest n bits and the next one
pub low_bits : (x n : ℕ) → x % 2 ^ suc n ≡ bit_at x n * 2 ^ n + x % 2 ^ n
low_bits x n =
    ap (λ (k : ℕ). x % 2 ^ k) (sym (one-add n)) ∙ mod-pow-add x 1 n ∙ ap (λ (b : ℕ). b * 2 ^ n + x % 2 ^ n) (bit-shift x n)
