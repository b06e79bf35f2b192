-- A hard limit divided by a factor of 1 at least: no NaN, not negative, and no more than the hard one. Assumes nothing.
use Rattle.std.specs.Prelude.{◌≡◌, refl, ℕ, ◌*◌, ◌≤◌, ◌<◌, Bool, true, false, ℤ, pos, T, eqb, Float}
use Rattle.std.proofs.Common.{sym, subst, le_refl, le_trans, le_of_eq, lt_of_lt_of_le, mul-one, one-mul, mul_assoc, mul-le-mul_left, mul-le-mul_right, mul-pos, arith, eqb→eq}
use Rattle.std.specs.Float.{nan, inf, fin, Format}
use Rattle.std.specs.Float.Ieee.{up, down, round, div, le, fits}
use Rattle.std.specs.Float.Ieee.Fits.{up_pos, down_pos, and_r}
use Rattle.std.specs.Float.Ieee.Scale.{finite}
use Rattle.std.specs.Float.Ieee.Positive.{first_pos}
use Rattle.common.specs.Ranges.{one}
use Rattle.common_laws.specs.Floats.Bounds.{plain, round-plain, round-upp, le-of-bounds}
use Rattle.common.specs.Cut.{lt-or-eq}
use Rattle.common_laws.specs.Floats.Held.{held-own}
use Rattle.common_laws.specs.Floats.Ops.{div_is}

-- a finite F of 1 at least is `fin false n d` with down d ≤ n * up d
no-neg : (n : ℕ) (d : ℤ) → T (le one (fin true n d)) → ⊥
unfolding le
no-neg n d h = over (1 * 1 * down d) (mul-pos (mul-pos (up_pos (pos 0)) (up_pos (pos 0))) (down_pos d))
    (eqb→eq (1 * 1 * down d) 0 (and_r (eqb (1 * 1 * down d) (n * up d * 1)) (eqb (1 * 1 * down d) 0) h))
  where
    over : (a : ℕ) → 0 < a → a ≡ 0 → ⊥
    over a p e = omega arith

one-cross : (n : ℕ) (d : ℤ) → T (le one (fin false n d)) → down d ≤ n * up d
unfolding le
one-cross n d h =
    le_trans (le_of_eq (sym (one-mul (down d)))) (le_trans (lt-or-eq (1 * 1 * down d) (n * up d * 1) h) (le_of_eq (mul-one (n * up d))))

pub ge-one : (x : Float) → T (finite x) → T (le one x) → (n : ℕ) × (d : ℤ) × (x ≡ fin false n d) × (down d ≤ n * up d)
ge-one nan f h = absurd f
ge-one (inf s) f h = absurd f
ge-one (fin true n d) f h = absurd (no-neg n d h)
ge-one (fin false n d) f h = (n, d, refl, one-cross n d h)

pub ge-one-pos : (n : ℕ) (d : ℤ) → down d ≤ n * up d → 0 < n
ge-one-pos n d h = first_pos n (up d) (lt_of_lt_of_le (down_pos d) h)

div-inf : (f : Format) (n : ℕ) (d : ℤ) → div f (inf false) (fin false n d) ≡ inf false
unfolding div
div-inf f n d = refl

inf-le : T (le (inf false) (inf false))
unfolding le
inf-le = tt

-- m / n times de / dn: X = m * up e, E = down e, N = n * up d, D = down d
shrinks : (X E N D : ℕ) → D ≤ N → X * D * E ≤ X * (N * E)
shrinks X E N D h = le_trans (le_of_eq (mul_assoc X D E)) (mul-le-mul_left X (mul-le-mul_right E h))

pub divided : (f : Format) (h : Float) (n : ℕ) (d : ℤ) → down d ≤ n * up d → T (fits f h) → T (plain h) →
    T (plain (div f h (fin false n d))) × T (le (div f h (fin false n d)) h)
divided f nan n d g t p = absurd p
divided f (inf true) n d g t p = absurd p
divided f (inf false) n d g t p = subst (λ (z : Float). T (plain z) × T (le z (inf false))) (sym (div-inf f n d)) (tt, inf-le)
divided f (fin true m e) n d g t p = absurd p
divided f (fin false m e) n d g t p =
    let N : 0 < n = ge-one-pos n d g in
    let u = round-upp f (m * up e * down d) (n * up d * down e) (m * up e) (down e) (mul-pos (mul-pos N (up_pos d)) (down_pos e)) (down_pos e)
    (held-own f m e t)
    (shrinks (m * up e) (down e) (n * up d) (down d) g) in
    subst (λ (z : Float). T (plain z) × T (le z (fin false m e))) (sym (div_is f m e n d N)) (
      round-plain f (m * up e * down d) (n * up d * down e),
      le-of-bounds (round f false (m * up e * down d) (n * up d * down e)) (fin false m e) (m * up e) (down e) (down_pos e) u
          (tt, le_refl (m * up e * down e)),
    )

-- what is 1 at least and no more than a finite number is finite, which is how a program tests it
pub finite-of-le : (x : Float) (s : Bool) (m : ℕ) (e : ℤ) → T (le one x) → T (le x (fin s m e)) → T (finite x)
unfolding le
finite-of-le nan s m e p q = absurd p
finite-of-le (inf true) s m e p q = absurd p
finite-of-le (inf false) s m e p q = absurd q
finite-of-le (fin t n d) s m e p q = tt
