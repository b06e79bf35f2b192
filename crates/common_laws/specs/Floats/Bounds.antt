-- Bounds of a float by fractions. `Low x a c` says that x is a / c at least (an infinity is), `Upp x a c` that x is finite and a / c at most; of either x is
-- no NaN and has its sign clear.
-- `Held f a c` says that the format f holds a / c. A rounded fraction keeps the bounds that its format holds (`round-low`, `round-upp`). Assumes nothing.
use Rattle.std.specs.Prelude.{refl, ℕ, zero, suc, ◌+◌, ◌*◌, ◌^◌, ◌≤◌, ◌<◌, Bool, true, false, not, cond, ℤ, pos, T, ltb, Float}
use Rattle.std.proofs.Common.{sym, subst, le_of_eq, lt_of_lt_of_le, zero-lt-suc, zero-mul, mul-pos, lt_of_le_of_lt, true≢false, lt→ltb}
use Rattle.std.specs.Float.{nan, inf, fin, Format}
use Rattle.std.specs.Float.Ieee.{prec, emax, low, up, down, odd, units, round, le, lt}
use Rattle.std.specs.Float.Ieee.Fits.{down_pos, round_is}
use Rattle.std.specs.Float.Ieee.Exact.{HasValue}
use Rattle.std.specs.Float.Ieee.Back.{round_whole}
use Rattle.std.specs.Float.Ieee.Order.{transfer, round_mono, drop, kept}
use Rattle.std.specs.Float.Ieee.Positive.{through, first_pos}
use Rattle.common.specs.Cut.{lt-or-eq, of_le}
use Rattle.common.specs.Ranges.{nil}

-- no NaN, and the sign is clear
abbrev pub plain : Float → Bool
plain nan = false
plain (inf s) = not s
plain (fin s m e) = not s

abbrev pub Low : Float → ℕ → ℕ → Type 0
Low nan a c = ⊥
Low (inf s) a c = T (not s)
Low (fin s m e) a c = T (not s) × (a * down e ≤ m * up e * c)

abbrev pub Upp : Float → ℕ → ℕ → Type 0
Upp nan a c = ⊥
Upp (inf s) a c = ⊥
Upp (fin s m e) a c = T (not s) × (m * up e * c ≤ a * down e)

-- ---- what `round f s` makes is a finite number or an infinity with the sign s
pub odd_shape : (P : Float → Type 0) (s : Bool) → ((m : ℕ) (e : ℤ) → P (fin s m e)) → (d q k l : ℕ) → P (odd d s q k l)
unfolding odd
odd_shape P s h d zero k l = h zero (pos zero)
odd_shape P s h d (suc q) k l = h _ _

units-shape : (P : Float → Type 0) (f : Format) (s : Bool) → ((m : ℕ) (e : ℤ) → P (fin s m e)) → P (inf s) → (q k : ℕ) → P (units f s q k)
unfolding units
units-shape P f s h i q k = go (ltb (q * 2 ^ k) (2 ^ (low f + suc (emax f))))
  where
    go : (b : Bool) → P (cond b (odd (suc (prec f)) s q k (low f)) (inf s))
    go true = odd_shape P s h (suc (prec f)) q k (low f)
    go false = i

pub round-shape : (P : Float → Type 0) (f : Format) (s : Bool) (a c : ℕ) → ((m : ℕ) (e : ℤ) → P (fin s m e)) → P (inf s) → P (round f s a c)
round-shape P f s a c h i =
    subst P (sym (round_is f s a c)) (units-shape P f s h i (kept (prec f) (a * 2 ^ low f) c) (drop (prec f) (a * 2 ^ low f) c))

pub round-plain : (f : Format) (a c : ℕ) → T (plain (round f false a c))
round-plain f a c = round-shape (λ (x : Float). T (plain x)) f false a c (λ m e. tt) tt

pub low-of-le : (x y : Float) (a c : ℕ) → 0 < c → T (plain y) → HasValue x false a c → T (le x y) → Low y a c
unfolding le
low-of-le nan y a c C p v h = absurd v
low-of-le (inf s) y a c C p v h = absurd v
low-of-le (fin true m e) y a c C p v h = absurd (true≢false v.0)
low-of-le (fin false m e) nan a c C p v h = absurd p
low-of-le (fin false m e) (inf t) a c C p v h = p
low-of-le (fin false m e) (fin true n d) a c C p v h = absurd p
low-of-le (fin false m e) (fin false n d) a c C p v h = (
  tt,
  transfer a (n * up d) c (down d) (m * up e) (n * up d) (down e) (down d) (down_pos e) (down_pos d) (sym v.1) refl
      (lt-or-eq (m * up e * down d) (n * up d * down e) h),
)

pub upp-of-le : (x y : Float) (a c : ℕ) → 0 < c → T (plain y) → HasValue x false a c → T (le y x) → Upp y a c
unfolding le
upp-of-le nan y a c C p v h = absurd v
upp-of-le (inf s) y a c C p v h = absurd v
upp-of-le (fin true m e) y a c C p v h = absurd (true≢false v.0)
upp-of-le (fin false m e) nan a c C p v h = absurd p
upp-of-le (fin false m e) (inf true) a c C p v h = absurd p
upp-of-le (fin false m e) (inf false) a c C p v h = absurd h
upp-of-le (fin false m e) (fin true n d) a c C p v h = absurd p
upp-of-le (fin false m e) (fin false n d) a c C p v h = (
  tt,
  transfer (n * up d) a (down d) c (n * up d) (m * up e) (down d) (down e) (down_pos d) (down_pos e) refl (sym v.1)
      (lt-or-eq (n * up d * down e) (m * up e * down d) h),
)

pub le-of-bounds : (x y : Float) (a c : ℕ) → 0 < c → Upp x a c → Low y a c → T (le x y)
unfolding le
le-of-bounds nan y a c C p q = absurd p
le-of-bounds (inf s) y a c C p q = absurd p
le-of-bounds (fin true m e) y a c C p q = absurd p.0
le-of-bounds (fin false m e) nan a c C p q = absurd q
le-of-bounds (fin false m e) (inf true) a c C p q = absurd q
le-of-bounds (fin false m e) (inf false) a c C p q = tt
le-of-bounds (fin false m e) (fin true n d) a c C p q = absurd q.0
le-of-bounds (fin false m e) (fin false n d) a c C p q =
    of_le (m * up e * down d) (n * up d * down e) (through (m * up e) a (n * up d) (down e) c (down d) C p.1 q.1)

-- ---- which fractions a format holds
abbrev pub Held : Format → ℕ → ℕ → Type 0
Held f a c = HasValue (round f false a c) false a c

pub held_whole : (f : Format) (n : ℕ) → n ≤ 2 ^ prec f → Held f n 1
held_whole f n h = round_whole f false n h

pub round-low : (f : Format) (n d a c : ℕ) → 0 < d → 0 < c → Held f a c → a * d ≤ n * c → Low (round f false n d) a c
round-low f n d a c D C v h = low-of-le (round f false a c) (round f false n d) a c C (round-plain f n d) v (round_mono f a c n d C D h)

pub round-upp : (f : Format) (n d a c : ℕ) → 0 < d → 0 < c → Held f a c → n * c ≤ a * d → Upp (round f false n d) a c
round-upp f n d a c D C v h = upp-of-le (round f false a c) (round f false n d) a c C (round-plain f n d) v (round_mono f n d a c D C h)

-- ---- a bound from below that is above zero
pub lt-of-low : (x : Float) (a c : ℕ) → 0 < a → Low x a c → T (lt nil x)
unfolding lt
lt-of-low nan a c A l = absurd l
lt-of-low (inf true) a c A l = absurd l
lt-of-low (inf false) a c A l = tt
lt-of-low (fin true m e) a c A l = absurd l.0
lt-of-low (fin false m e) a c A l =
    let p : 0 < m * up e = first_pos (m * up e) c (lt_of_lt_of_le (mul-pos A (down_pos e)) l.1) in
    lt→ltb (0 * 1 * down e) (m * up e * 1) (lt_of_le_of_lt (le_of_eq (zero-mul (down e))) (mul-pos p (zero-lt-suc 0)))
