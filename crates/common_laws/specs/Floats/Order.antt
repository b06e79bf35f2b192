-- Cutting keeps the order of any two floats (`to_unsigned-mono`).
-- Assumes nothing.
use Rattle.std.specs.Prelude.{◌≡◌, refl, ℕ, ◌-◌, ◌*◌, ◌/◌, ◌^◌, ◌≤◌, ◌<◌, min, true, false, ℤ, pos, T, eqb, Float}
use Rattle.std.proofs.Common.{sym, ap, ◌∙◌, subst, inl, inr, zero-le, le_of_eq, zero-mul, mul-pos, div-lt_iff_lt-mul, eq-zero-or-pos, arith, eqb→eq}
use Rattle.std.specs.Float.{nan, inf, fin}
use Rattle.std.specs.Float.Ieee.{up, down, le, to_unsigned}
use Rattle.std.specs.Float.Ieee.Fits.{up_pos, down_pos, and_r}
use Rattle.std.specs.Float.Ieee.Nearest.{div_mono}
use Rattle.common.specs.Cut.{lt-or-eq, pos-ne, none}

min-le : (a c : ℕ) → min a c ≤ c
min-le a c = omega arith

min-mono : (a b c : ℕ) → a ≤ b → min a c ≤ min b c
min-mono a b c h = omega arith

first-zero : (n u : ℕ) → 0 < u → n * u ≡ 0 → n ≡ 0
first-zero n u U h = elim (eq-zero-or-pos n) [ inl z ↦ z | inr p ↦ absurd (pos-ne (n * u) (mul-pos p U) h) ]

zero-cut : (m : ℕ) (e : ℤ) (c : ℕ) → m ≡ 0 → min (m * up e / down e) c ≤ 0
zero-cut m e c z =
    le_of_eq (none (m * up e / down e) c
    ((div-lt_iff_lt-mul (down_pos e)).1
    (subst (λ (a : ℕ). a < 1 * down e) (sym (ap (λ (k : ℕ). k * up e) z ∙ zero-mul (up e))) (mul-pos (up_pos (pos 0)) (down_pos e)))))

pub to_unsigned-mono : (w : ℕ) (x y : Float) → T (le x y) → to_unsigned w x ≤ to_unsigned w y
unfolding le to_unsigned
to_unsigned-mono w nan y h = absurd h
to_unsigned-mono w (inf true) y h = zero-le
to_unsigned-mono w (inf false) nan h = absurd h
to_unsigned-mono w (inf false) (inf true) h = absurd h
to_unsigned-mono w (inf false) (inf false) h = le_of_eq refl
to_unsigned-mono w (inf false) (fin t n d) h = absurd h
to_unsigned-mono w (fin true m e) y h = zero-le
to_unsigned-mono w (fin false m e) nan h = absurd h
to_unsigned-mono w (fin false m e) (inf true) h = absurd h
to_unsigned-mono w (fin false m e) (inf false) h = min-le (m * up e / down e) (2 ^ w - 1)
to_unsigned-mono w (fin false m e) (fin true n d) h =
    zero-cut m e (2 ^ w - 1) (first-zero m (up e) (up_pos e) (first-zero (m * up e) (down d) (down_pos d)
    (eqb→eq (m * up e * down d) 0 (and_r (eqb (m * up e * down d) (n * up d * down e)) (eqb (m * up e * down d) 0) h))))
to_unsigned-mono w (fin false m e) (fin false n d) h =
    min-mono (m * up e / down e) (n * up d / down d) (2 ^ w - 1)
    (div_mono (m * up e) (down e) (n * up d) (down d) (down_pos e) (down_pos d) (lt-or-eq (m * up e * down d) (n * up d * down e) h))
