-- Fractions that a format holds: the value of each float that fits (`held-own`), and the powers of two in range (`held-pow`). Assumes nothing.
use Rattle.std.specs.Prelude.{◌≡◌, ℕ, zero, suc, ◌+◌, ◌-◌, ◌*◌, ◌%◌, ◌^◌, ◌≤◌, ◌<◌, Bool, false, ◌&&◌, ℤ, pos, negsuc, T, leb, ltb, eqb}
use Rattle.std.proofs.Common.{sym, ap, ◌∙◌, subst, le_of_eq, le_of_suc-le-suc, lt_of_lt_of_le, lt_of_not-le, lt_irrefl, zero-lt-suc, mul-one, one-mul, zero-mul, mul_comm, mul_assoc, mul-lt-mul_of_pos_right, arith, ltb→lt, leb→le, lit<, pow-add, pow_pos, pow_mono, shl_lt}
use Rattle.std.proofs.Math.Pow.{pow-lt}
use Rattle.std.specs.Float.{fin, Format, binary32, binary64}
use Rattle.std.specs.Float.Ieee.{prec, emax, low, up, down, fits}
use Rattle.std.specs.Float.Ieee.Digits.{back}
use Rattle.std.specs.Float.Ieee.Fits.{and_l, and_r, down_pos, reach}
use Rattle.std.specs.Float.Ieee.Exact.{round_exact}
use Rattle.common_laws.specs.Floats.Bounds.{Held}

pub pow_le_back : (a l : ℕ) → 2 ^ a ≤ 2 ^ l → a ≤ l
pow_le_back a l h = le_of_suc-le-suc (lt_of_not-le (λ (g : suc l ≤ a). lt_irrefl (2 ^ l) (lt_of_lt_of_le (pow-lt g) h)))

-- what `fits` says of a finite value that is not zero: its digits, how low and how high it lies
pub fits-digits : (f : Format) (s : Bool) (m : ℕ) (e : ℤ) → T (fits f (fin s (suc m) e)) → suc m < 2 ^ prec f
unfolding fits
fits-digits f s m e t =
    ltb→lt (suc m) (2 ^ prec f) (and_r (eqb (suc m % 2) 1) (ltb (suc m) (2 ^ prec f))
    (and_l (eqb (suc m % 2) 1 && ltb (suc m) (2 ^ prec f)) (leb (down e) (2 ^ low f))
    (and_l (eqb (suc m % 2) 1 && ltb (suc m) (2 ^ prec f) && leb (down e) (2 ^ low f)) (ltb (suc m * up e) (2 ^ suc (emax f) * down e)) t)))

pub fits_low : (f : Format) (s : Bool) (m : ℕ) (e : ℤ) → T (fits f (fin s (suc m) e)) → down e ≤ 2 ^ low f
unfolding fits
fits_low f s m e t =
    leb→le (down e) (2 ^ low f) (and_r (eqb (suc m % 2) 1 && ltb (suc m) (2 ^ prec f)) (leb (down e) (2 ^ low f))
    (and_l (eqb (suc m % 2) 1 && ltb (suc m) (2 ^ prec f) && leb (down e) (2 ^ low f)) (ltb (suc m * up e) (2 ^ suc (emax f) * down e)) t))

pub fits-high : (f : Format) (s : Bool) (m : ℕ) (e : ℤ) → T (fits f (fin s (suc m) e)) → suc m * up e < 2 ^ suc (emax f) * down e
unfolding fits
fits-high f s m e t =
    ltb→lt (suc m * up e) (2 ^ suc (emax f) * down e)
    (and_r (eqb (suc m % 2) 1 && ltb (suc m) (2 ^ prec f) && leb (down e) (2 ^ low f)) (ltb (suc m * up e) (2 ^ suc (emax f) * down e)) t)

-- ---- a value that fits
own-pos : (f : Format) (m a : ℕ) → m < 2 ^ prec f → m * 2 ^ a < 2 ^ suc (emax f) * 1 → Held f (m * 2 ^ a) 1
own-pos f m a p h =
    let l = low f in
    let e : m * 2 ^ (a + l) ≡ m * 2 ^ a * 2 ^ l = ap (λ (x : ℕ). m * x) (pow-add 2 a l) ∙ sym (mul_assoc m (2 ^ a) (2 ^ l)) in
    round_exact f false (m * 2 ^ a) 1 m (a + l) (zero-lt-suc 0) p
    (subst (λ (x : ℕ). x < 2 ^ (l + suc (emax f))) (sym e)
    (lt_of_lt_of_le (mul-lt-mul_of_pos_right h (pow_pos l))
    (le_of_eq (ap (λ (x : ℕ). x * 2 ^ l) (mul-one (2 ^ suc (emax f))) ∙ mul_comm (2 ^ suc (emax f)) (2 ^ l) ∙ sym (pow-add 2 l (suc (emax f)))))))
    (sym e ∙ sym (mul-one (m * 2 ^ (a + l))))

less : (p l b u : ℕ) → p ≤ u → p + (l - b) ≤ l + u
less p l b u h = omega arith

pub own-neg : (f : Format) (m b : ℕ) → m < 2 ^ prec f → b ≤ low f → Held f (m * 1) (2 ^ b)
own-neg f m b p h =
    let l = low f in
    round_exact f false (m * 1) (2 ^ b) m (l - b) (pow_pos b) p
    (lt_of_lt_of_le (shl_lt (prec f) (l - b) p) (pow_mono (less (prec f) l b (suc (emax f)) (reach f))))
    (ap (λ (x : ℕ). x * 2 ^ l) (mul-one m)
    ∙ ap (λ (x : ℕ). m * 2 ^ x) (sym (back l b h))
    ∙ ap (λ (x : ℕ). m * x) (pow-add 2 (l - b) b)
    ∙ sym (mul_assoc m (2 ^ (l - b)) (2 ^ b)))

zero_held : (f : Format) (u d : ℕ) → 0 < d → Held f (0 * u) d
zero_held f u d D =
    let z : 0 * u ≡ 0 = zero-mul u in
    round_exact f false (0 * u) d 0 0 D (pow_pos (prec f)) (pow_pos (low f + suc (emax f)))
    (ap (λ (x : ℕ). x * 2 ^ low f) z ∙ zero-mul (2 ^ low f) ∙ sym (zero-mul d))

pub held-own : (f : Format) (m : ℕ) (e : ℤ) → T (fits f (fin false m e)) → Held f (m * up e) (down e)
held-own f zero e t = zero_held f (up e) (down e) (down_pos e)
held-own f (suc m) (pos a) t = own-pos f (suc m) a (fits-digits f false m (pos a) t) (fits-high f false m (pos a) t)
held-own f (suc m) (negsuc b) t = own-neg f (suc m) (suc b) (fits-digits f false m (negsuc b) t) (pow_le_back (suc b) (low f) (fits_low f false m (negsuc b) t))

-- ---- 2 ^ i / 2 ^ j
pub held-pow : (f : Format) (i j : ℕ) → j ≤ i + low f → i ≤ j + emax f → Held f (2 ^ i) (2 ^ j)
held-pow f i j h k =
    let l = low f in
    round_exact f false (2 ^ i) (2 ^ j) 1 (i + l - j) (pow_pos j) (pow-lt (two_digits f))
    (subst (λ (x : ℕ). x < 2 ^ (l + suc (emax f))) (sym (one-mul (2 ^ (i + l - j)))) (pow-lt (high i j l (emax f) k)))
    (sym (pow-add 2 i l)
    ∙ ap (λ (x : ℕ). 2 ^ x) (sym (back (i + l) j h))
    ∙ pow-add 2 (i + l - j) j
    ∙ ap (λ (x : ℕ). x * 2 ^ j) (sym (one-mul (2 ^ (i + l - j)))))
  where
    two_digits : (f : Format) → 0 < prec f
    two_digits binary32 = lit< tt
    two_digits binary64 = lit< tt

    high : (i j l u : ℕ) → i ≤ j + u → i + l - j < l + suc u
    high i j l u k = omega arith
