-- Rust's `as u64` of an `f64`, as tests: below 1 it is 0, from 2 ^ 64 on it is 2 ^ 64 - 1.
-- Assumes nothing.
use Rattle.std.specs.Prelude.{◌≡◌, ℕ, ◌+◌, ◌-◌, ◌*◌, ◌/◌, ◌^◌, ◌<◌, ◌≤◌, min, Bool, true, false, not, ◌&&◌, ◌||◌, T, ◌⊎◌, ℤ, pos, ◌==◌, ◌≢◌, nat_lt, refl, Float}
use Rattle.std.proofs.Common.{sym, subst, inl, inr, le_of_eq, le_of_lt, eq-or-lt_of_le, mul-one, mul-pos, div-lt_iff_lt-mul, le-div_iff_mul-le, arith, ltb→lt, lt→ltb, nltb→le, eqb→eq}
use Rattle.std.proofs.Math.Dec.{eqb_refl}
use Rattle.std.specs.Float.{nan, inf, fin}
use Rattle.std.specs.Float.Ieee.{up, down, le, lt, to_unsigned}
use Rattle.std.specs.Float.Ieee.Fits.{up_pos, down_pos, and_l, and_r}
use Rattle.common.specs.Ranges.{one}

-- ---- the order of two numbers with the sign clear
or_split : (a b : Bool) → T (a || b) → T a ⊎ T b
or_split true b t = inl tt
or_split false b t = inr t

or_l : (a b : Bool) → T a → T (a || b)
or_l true b t = tt
or_l false b t = absurd t

or_r : (a b : Bool) → T b → T (a || b)
or_r true b t = tt
or_r false b t = t

pub lt-or-eq : (a b : ℕ) → T (nat_lt a b || (a == b && true)) → a ≤ b
lt-or-eq a b t = elim (or_split (nat_lt a b) (a == b && true) t) [ inl u ↦ le_of_lt (ltb→lt a b u) | inr u ↦ le_of_eq (eqb→eq a b (and_l (a == b) true u)) ]

pub of_le : (a b : ℕ) → a ≤ b → T (nat_lt a b || (a == b && true))
of_le a b h = elim (eq-or-lt_of_le h) [
  | inl p ↦ or_r (nat_lt a b) (a == b && true) (subst (λ (x : ℕ). T (a == x && true)) p (both (a == a) (eqb_refl a)))
  | inr q ↦ or_l (nat_lt a b)
      (a == b && true) (lt→ltb a b q)
]
  where
    both : (x : Bool) → T x → T (x && true)
    both true t = tt
    both false t = t

abbrev pub two_to64 : Float
two_to64 = fin false 1 (pos 64)

pub pos-ne : (a : ℕ) → 0 < a → a ≢ 0
pos-ne a h e = omega arith

some : (a b : ℕ) → 0 < a → 0 < a + b
some a b h = omega arith

one-pos : (d : ℤ) → 0 < 1 * 1 * down d
one-pos d = mul-pos (mul-pos (up_pos (pos 0)) (up_pos (pos 0))) (down_pos d)

-- ---- below 1
not-le : (a b : ℕ) → (nat_lt a b || (a == b && true)) ≡ false → b < a
not-le a b e = go (nat_lt b a) (ltb→lt b a) (nltb→le b a)
  where
    no : T (nat_lt a b || (a == b && true)) → ⊥
    no t = subst T e t

    go : (t : Bool) → (T t → b < a) → (T (not t) → a ≤ b) → b < a
    go true h k = h tt
    go false h k = absurd (no (of_le a b (k tt)))

pub none : (q c : ℕ) → q < 1 → min q c ≡ 0
none q c h = omega arith

under_one : (n : ℕ) (d : ℤ) → n * up d * 1 < 1 * 1 * down d → n * up d / down d < 1
under_one n d h = (div-lt_iff_lt-mul (down_pos d)).1 (subst (λ (a : ℕ). a < 1 * down d) (mul-one (n * up d)) h)

pub cut_small : (x : Float) → le one x ≡ false → to_unsigned 64 x ≡ 0
unfolding le to_unsigned
cut_small nan h = refl
cut_small (inf true) h = refl
cut_small (inf false) h = absurd (subst T h tt)
cut_small (fin true n d) h = refl
cut_small (fin false n d) h = none (n * up d / down d) (2 ^ 64 - 1) (under_one n d (not-le (1 * 1 * down d) (n * up d * 1) h))

-- ---- 2 ^ 64 and more
not-lt : (a b : ℕ) → nat_lt a b ≡ false → b ≤ a
not-lt a b e = nltb→le a b (subst (λ (t : Bool). T (not t)) (sym e) tt)

full : (q : ℕ) → 2 ^ 64 ≤ q → min q (2 ^ 64 - 1) ≡ 2 ^ 64 - 1
full q h = omega arith

over : (n : ℕ) (d : ℤ) → 1 * 2 ^ 64 * down d ≤ n * up d * 1 → 2 ^ 64 ≤ n * up d / down d
over n d h = (le-div_iff_mul-le (down_pos d)).1 (subst (λ (a : ℕ). 2 ^ 64 * down d ≤ a) (mul-one (n * up d)) h)

pub cut-large : (x : Float) → T (le one x) → lt x two_to64 ≡ false → to_unsigned 64 x ≡ 2 ^ 64 - 1
unfolding le lt to_unsigned
cut-large nan p h = absurd p
cut-large (inf true) p h = absurd p
cut-large (inf false) p h = refl
cut-large (fin true n d) p h =
    absurd (pos-ne (1 * 1 * down d) (one-pos d) (eqb→eq (1 * 1 * down d) 0 (and_r (1 * 1 * down d == n * up d * 1) (1 * 1 * down d == 0) p)))
cut-large (fin false n d) p h = full (n * up d / down d) (over n d (not-lt (n * up d * 1) (1 * 2 ^ 64 * down d) h))

pub over_minus_one : (x : Float) → T (le one x) → T (lt (fin true 1 (pos 0)) x)
unfolding le lt
over_minus_one nan h = absurd h
over_minus_one (inf true) h = absurd h
over_minus_one (inf false) h = tt
over_minus_one (fin true n d) h =
    absurd (pos-ne (1 * 1 * down d) (one-pos d) (eqb→eq (1 * 1 * down d) 0 (and_r (1 * 1 * down d == n * up d * 1) (1 * 1 * down d == 0) h)))
over_minus_one (fin false n d) h = lt→ltb 0 (1 * 1 * down d + n * up d * 1) (some (1 * 1 * down d) (n * up d * 1) (one-pos d))
