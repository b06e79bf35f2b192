-- The suppression factor 1 - (S / W) / p, with p the larger of T / W and L, lies from 0 to 1, so it is no NaN. S, T and L are counts up to 2 ^ prec, S ≤ T
-- and L ≤ T, W is a window, and p is above 0; where p is 0 the factor is 0.
-- `share_in` and `rest_in` say it of any floats a ≤ p. Assumes nothing.
use Rattle.std.specs.Prelude.{◌≡◌, refl, ℕ, ◌+◌, ◌-◌, ◌*◌, ◌^◌, ◌≤◌, ◌<◌, Bool, true, false, not, ◌||◌, cond, ℤ, pos, T, Float}
use Rattle.std.proofs.Common.{sym, ap, ◌∙◌, subst, zero-le, le_refl, le_trans, le_of_eq, lt_of_le_of_lt, mul-one, one-mul, zero-mul, mul_comm, mul_assoc, mul_left_comm, mul_right_comm, mul-le-mul, mul-le-mul_right, mul-pos, sub-le, zero-lt-suc, ltb→lt, lt→ltb, lit≤, pow_pos}
use Rattle.std.specs.Float.{nan, inf, fin, Format, binary32, binary64}
use Rattle.std.specs.Float.Ieee.{prec, emax, low, up, down, round, div, sub, le, lt, eq, of_int}
use Rattle.std.specs.Float.Ieee.Fits.{up_pos, down_pos}
use Rattle.std.specs.Float.Ieee.Exact.{HasValue}
use Rattle.std.specs.Float.Ieee.Order.{round_mono}
use Rattle.std.specs.Float.Ieee.Positive.{first_pos, through}
use Rattle.suppression.specs.Factor.{larger, Unit01, average, perceived, fresh_factor}
use Rattle.common.specs.Ranges.{nil, one}
use Rattle.common_laws.specs.Floats.Bounds.{Low, Upp, Held, held_whole, round-upp, round-low, lt-of-low, le-of-bounds}
use Rattle.common.specs.Cut.{lt-or-eq, of_le}
use Rattle.common_laws.specs.Floats.Held.{held-pow}
use Rattle.common_laws.specs.Floats.Soft.{ge-one-pos}
use Rattle.common_laws.specs.Floats.Ops.{div_is}
use Rattle.common_laws.specs.Floats.Values.{of_int_is, sub_at}

-- finite, with the sign clear
abbrev pub nonneg : Float → Bool
nonneg nan = false
nonneg (inf s) = false
nonneg (fin s m e) = not s

-- ---- the order
or_l : (a b : Bool) → T a → T (a || b)
or_l true b t = tt
or_l false b t = absurd t

pub lt→le : (x y : Float) → T (lt x y) → T (le x y)
unfolding le
lt→le x y h = or_l (lt x y) (eq x y) h

pub le-trans-nonneg : (x y z : Float) → T (nonneg x) → T (nonneg y) → T (nonneg z) → T (le x y) → T (le y z) → T (le x z)
unfolding le
le-trans-nonneg nan y z p q r h k = absurd p
le-trans-nonneg (inf s) y z p q r h k = absurd p
le-trans-nonneg (fin true m e) y z p q r h k = absurd p
le-trans-nonneg (fin false m e) nan z p q r h k = absurd q
le-trans-nonneg (fin false m e) (inf s) z p q r h k = absurd q
le-trans-nonneg (fin false m e) (fin true n d) z p q r h k = absurd q
le-trans-nonneg (fin false m e) (fin false n d) nan p q r h k = absurd r
le-trans-nonneg (fin false m e) (fin false n d) (inf s) p q r h k = absurd r
le-trans-nonneg (fin false m e) (fin false n d) (fin true o g) p q r h k = absurd r
le-trans-nonneg (fin false m e) (fin false n d) (fin false o g) p q r h k =
    of_le (m * up e * down g) (o * up g * down e)
    (through (m * up e) (n * up d) (o * up g) (down e) (down d) (down g) (down_pos d) (lt-or-eq (m * up e * down d) (n * up d * down e) h)
    (lt-or-eq (n * up d * down g) (o * up g * down d) k))

pub upp-nonneg : (x : Float) (a c : ℕ) → Upp x a c → T (nonneg x)
upp-nonneg nan a c u = absurd u
upp-nonneg (inf s) a c u = absurd u
upp-nonneg (fin s m e) a c u = u.0

held_one : (f : Format) → Held f 1 1
held_one f = held_whole f 1 (pow_pos (prec f))

-- ---- a / p for a ≤ p
pub share_in : (f : Format) (a p : Float) → T (nonneg a) → T (nonneg p) → T (lt nil p) → T (le a p) → Upp (div f a p) 1 1
unfolding lt le
share_in f nan p s t l h = absurd s
share_in f (inf b) p s t l h = absurd s
share_in f (fin true m e) p s t l h = absurd s
share_in f (fin false m e) nan s t l h = absurd t
share_in f (fin false m e) (inf b) s t l h = absurd t
share_in f (fin false m e) (fin true n d) s t l h = absurd t
share_in f (fin false m e) (fin false n d) s t l h =
    let X = m * up e * down d in
    let Y = n * up d * down e in
    let N : 0 < n = first_pos n (up d) (first_pos (n * up d) 1 (lt_of_le_of_lt zero-le (ltb→lt (0 * 1 * down d) (n * up d * 1) l))) in
    let Y+ : 0 < Y = mul-pos (mul-pos N (up_pos d)) (down_pos e) in
    subst (λ (z : Float). Upp z 1 1) (sym (div_is f m e n d N))
    (round-upp f X Y 1 1 Y+ (zero-lt-suc 0) (held_one f)
    (le_trans (le_of_eq (mul-one X)) (le_trans (lt-or-eq X Y h) (le_of_eq (sym (one-mul Y))))))

-- ---- 1 - q for q ≤ 1
pub unit_val : HasValue one false 1 1
unit_val = (refl, refl)

pub rest_in : (f : Format) (q : Float) → Upp q 1 1 → Upp (sub f one q) 1 1
rest_in f nan u = absurd u
rest_in f (inf s) u = absurd u
rest_in f (fin true n d) u = absurd u.0
rest_in f (fin false n d) u =
    let D : 0 < 1 * down d = mul-pos (zero-lt-suc 0) (down_pos d) in
    subst (λ (z : Float). Upp z 1 1) (sym (sub_at f one (fin false n d) 1 1 (n * up d) (down d) (zero-lt-suc 0) (down_pos d) unit_val (refl, refl) u.1))
    (round-upp f (1 * down d - n * up d * 1) (1 * down d) 1 1 D (zero-lt-suc 0) (held_one f)
    (le_trans (le_of_eq (mul-one (1 * down d - n * up d * 1))) (le_trans (sub-le (1 * down d) (n * up d * 1)) (le_of_eq (sym (one-mul (1 * down d)))))))

low-zero : (x : Float) → T (nonneg x) → Low x 0 1
low-zero nan t = absurd t
low-zero (inf s) t = absurd t
low-zero (fin s m e) t = (t, le_trans (le_of_eq (zero-mul (down e))) zero-le)

pub unit-of-upp : (x : Float) → Upp x 1 1 → Unit01 x
unit-of-upp x u = (
  le-of-bounds nil x 0 1 (zero-lt-suc 0) (tt, zero-le) (low-zero x (upp-nonneg x 1 1 u)),
  le-of-bounds x one 1 1 (zero-lt-suc 0) u (tt, le_refl 1),
)

-- ---- the counts, each rounded to the nearest float: S ≤ N is all that is asked of them
pub larger-cases : (P : Float → Type 0) (b l : Float) → P b → (T (lt b l) → P l) → P (larger b l)
larger-cases P b l p q = go (lt b l) q
  where
    go : (t : Bool) → (T t → P l) → P (cond t l b)
    go true h = h tt
    go false h = p

held-64 : (f : Format) → Held f (2 ^ 64) 1
held-64 f = held-pow f 64 0 zero-le (wide f)
  where
    wide : (f : Format) → 64 ≤ 0 + emax f
    wide binary32 = lit≤ tt
    wide binary64 = lit≤ tt

pub count-upp : (f : Format) (n : ℕ) → n ≤ 2 ^ 64 → Upp (of_int f (pos n)) (2 ^ 64) 1
count-upp f n h = subst (λ (z : Float). Upp z (2 ^ 64) 1) (sym (of_int_is f n))
    (round-upp f n 1 (2 ^ 64) 1 (zero-lt-suc 0) (zero-lt-suc 0) (held-64 f) (mul-le-mul_right 1 h))

pub count_low : (f : Format) (n : ℕ) → 0 < n → Low (of_int f (pos n)) 1 1
count_low f n h = subst (λ (z : Float). Low z 1 1) (sym (of_int_is f n))
    (round-low f n 1 1 1 (zero-lt-suc 0) (zero-lt-suc 0) (held_one f) (mul-le-mul_right 1 h))

pub count-mono : (f : Format) (a b : ℕ) → a ≤ b → T (le (of_int f (pos a)) (of_int f (pos b)))
count-mono f a b h =
    subst (λ (z : Float). T (le z (of_int f (pos b)))) (sym (of_int_is f a))
    (subst (λ (z : Float). T (le (round f false a 1) z)) (sym (of_int_is f b)) (round_mono f a 1 b 1 (zero-lt-suc 0) (zero-lt-suc 0) (mul-le-mul_right 1 h)))

-- a count from 1 on, as a float: n / d with d ≤ n
shaped : (x : Float) → Upp x (2 ^ 64) 1 → Low x 1 1 → (n : ℕ) × (d : ℤ) × (x ≡ fin false n d) × (down d ≤ n * up d) × (n * up d ≤ 2 ^ 64 * down d)
shaped nan u l = absurd u
shaped (inf s) u l = absurd u
shaped (fin true n d) u l = absurd u.0
shaped (fin false n d) u l = (
  n,
  d,
  refl,
  le_trans (le_of_eq (sym (one-mul (down d)))) (le_trans l.1 (le_of_eq (mul-one (n * up d)))),
  le_trans (le_of_eq (sym (mul-one (n * up d)))) u.1,
)

pub count-shape : (f : Format) (W : ℕ) → 0 < W → W ≤ 2 ^ 64 →
    (n : ℕ) × (d : ℤ) × (of_int f (pos W) ≡ fin false n d) × (down d ≤ n * up d) × (n * up d ≤ 2 ^ 64 * down d)
count-shape f W w v = shaped (of_int f (pos W)) (count-upp f W v) (count_low f W w)

-- x / w for w ≥ 1: it keeps a bound that the format holds, and the order
pub div-upp : (f : Format) (x : Float) (a c n : ℕ) (d : ℤ) → 0 < c → down d ≤ n * up d → Held f a c → Upp x a c → Upp (div f x (fin false n d)) a c
div-upp f nan a c n d C g v u = absurd u
div-upp f (inf s) a c n d C g v u = absurd u
div-upp f (fin true m e) a c n d C g v u = absurd u.0
div-upp f (fin false m e) a c n d C g v u =
    let N : 0 < n = ge-one-pos n d g in
    subst (λ (z : Float). Upp z a c) (sym (div_is f m e n d N))
    (round-upp f (m * up e * down d) (n * up d * down e) a c (mul-pos (mul-pos N (up_pos d)) (down_pos e)) C v
    (le_trans (le_of_eq (mul_right_comm (m * up e) (down d) c))
    (le_trans (mul-le-mul u.1 g) (le_of_eq (mul_right_comm a (down e) (n * up d) ∙ mul_assoc a (n * up d) (down e))))))

pub div-mono-left : (f : Format) (x y : Float) (n : ℕ) (d : ℤ) → 0 < n → T (nonneg x) → T (nonneg y) → T (le x y) →
    T (le (div f x (fin false n d)) (div f y (fin false n d)))
unfolding le
div-mono-left f nan y n d N p q h = absurd p
div-mono-left f (inf s) y n d N p q h = absurd p
div-mono-left f (fin true m e) y n d N p q h = absurd p
div-mono-left f (fin false m e) nan n d N p q h = absurd q
div-mono-left f (fin false m e) (inf s) n d N p q h = absurd q
div-mono-left f (fin false m e) (fin true o g) n d N p q h = absurd q
div-mono-left f (fin false m e) (fin false o g) n d N p q h =
    let k : m * up e * down g ≤ o * up g * down e = lt-or-eq (m * up e * down g) (o * up g * down e) h in
    let K = n * up d * down d in
    let l : m * up e * down d * (n * up d * down g) ≡ m * up e * down g * K = simp (mul_assoc, mul_comm, mul_left_comm) in
    let r : o * up g * down e * K ≡ o * up g * down d * (n * up d * down e) = simp (mul_assoc, mul_comm, mul_left_comm) in
    subst (λ (z : Float). T (le z (div f (fin false o g) (fin false n d)))) (sym (div_is f m e n d N))
    (subst (λ (z : Float). T (le (round f false (m * up e * down d) (n * up d * down e)) z)) (sym (div_is f o g n d N))
    (round_mono f (m * up e * down d) (n * up d * down e) (o * up g * down d) (n * up d * down g) (mul-pos (mul-pos N (up_pos d)) (down_pos e))
    (mul-pos (mul-pos N (up_pos d)) (down_pos g))
    (le_trans (le_of_eq l) (le_trans (mul-le-mul_right K k) (le_of_eq r)))))

-- what is larger than something is above zero
under-pos : (b l : Float) → T (nonneg b) → T (nonneg l) → T (lt b l) → T (lt nil l)
unfolding lt
under-pos nan l p q h = absurd p
under-pos (inf s) l p q h = absurd p
under-pos (fin true m e) l p q h = absurd p
under-pos (fin false m e) nan p q h = absurd q
under-pos (fin false m e) (inf s) p q h = absurd q
under-pos (fin false m e) (fin true n d) p q h = absurd q
under-pos (fin false m e) (fin false n d) p q h =
    let N : 0 < n * up d = first_pos (n * up d) (down e) (lt_of_le_of_lt zero-le (ltb→lt (m * up e * down d) (n * up d * down e) h)) in
    lt→ltb (0 * 1 * down d) (n * up d * 1) (lt_of_le_of_lt (le_of_eq (zero-mul (down d))) (mul-pos N (zero-lt-suc 0)))

-- x / w for x ≥ 1 and w ≤ 2 ^ 64 is above zero
div-pos : (f : Format) (x : Float) (n : ℕ) (d : ℤ) → 0 < n → n * up d ≤ 2 ^ 64 * down d → T (nonneg x) → Low x 1 1 → Low (div f x (fin false n d)) 1 (2 ^ 64)
div-pos f nan n d N g p l = absurd p
div-pos f (inf s) n d N g p l = absurd p
div-pos f (fin true m e) n d N g p l = absurd p
div-pos f (fin false m e) n d N g p l =
    let h : 1 * down e ≤ m * up e * 1 = l.1 in
    let L : 1 * (n * up d * down e) ≡ n * up d * (1 * down e) = simp (mul_assoc, mul_comm, mul_left_comm) in
    let R : 2 ^ 64 * down d * (m * up e) ≡ m * up e * down d * 2 ^ 64 =
    mul_comm (2 ^ 64 * down d) (m * up e) ∙ ap (λ (z : ℕ). m * up e * z) (mul_comm (2 ^ 64) (down d)) ∙ sym (mul_assoc (m * up e) (down d) (2 ^ 64)) in
    subst (λ (z : Float). Low z 1 (2 ^ 64)) (sym (div_is f m e n d N))
    (round-low f (m * up e * down d) (n * up d * down e) 1 (2 ^ 64) (mul-pos (mul-pos N (up_pos d)) (down_pos e)) (pow_pos 64)
    (held-pow f 0 64 (deep f) zero-le)
    (le_trans (le_of_eq L) (le_trans (mul-le-mul g (le_trans h (le_of_eq (mul-one (m * up e))))) (le_of_eq R))))
  where
    deep : (f : Format) → 64 ≤ 0 + low f
    deep binary32 = lit≤ tt
    deep binary64 = lit≤ tt

pub perceived-any : (S N W L : ℕ) → S ≤ N → 0 < N → N ≤ 2 ^ 64 → 0 < W → W ≤ 2 ^ 64 → L ≤ 2 ^ 64
    → T (nonneg (average S W)) × T (nonneg (perceived N W L)) × T (lt nil (perceived N W L)) × T (le (average S W) (perceived N W L))
perceived-any S N W L h N+ n w v k =
    let s = count-shape binary64 W w v in
    let c = s.0 in
    let d = s.1 in
    let one_up = s.3 in
    let C : 0 < c = ge-one-pos c d one_up in
    let x = of_int binary64 (pos S) in
    let y = of_int binary64 (pos N) in
    let l = of_int binary64 (pos L) in
    let X = count-upp binary64 S (le_trans h n) in
    let Y = count-upp binary64 N n in
    let a = div binary64 x (fin false c d) in
    let b = div binary64 y (fin false c d) in
    let A : T (nonneg a) = upp-nonneg a (2 ^ 64) 1 (div-upp binary64 x (2 ^ 64) 1 c d (zero-lt-suc 0) one_up (held-64 binary64) X) in
    let B : T (nonneg b) = upp-nonneg b (2 ^ 64) 1 (div-upp binary64 y (2 ^ 64) 1 c d (zero-lt-suc 0) one_up (held-64 binary64) Y) in
    let Λ : T (nonneg l) = upp-nonneg l (2 ^ 64) 1 (count-upp binary64 L k) in
    let ab : T (le a b) = div-mono-left binary64 x y c d C (upp-nonneg x (2 ^ 64) 1 X) (upp-nonneg y (2 ^ 64) 1 Y) (count-mono binary64 S N h) in
    let b+ : T (lt nil b) = lt-of-low b 1 (2 ^ 64) (zero-lt-suc 0) (div-pos binary64 y c d C s.4 (upp-nonneg y (2 ^ 64) 1 Y) (count_low binary64 N N+)) in
    let r = larger-cases (λ (z : Float). T (nonneg z) × T (lt nil z) × T (le a z)) b l (B, b+, ab)
    (λ t. (Λ, under-pos b l B Λ t, le-trans-nonneg a b l A B Λ ab (lt→le b l t))) in
    subst (λ (z : Float). T (nonneg (div binary64 x z)) × T (nonneg (larger (div binary64 y z) l)) × T (lt nil (larger (div binary64 y z) l)) × T
    (le (div binary64 x z) (larger (div binary64 y z) l))) (sym s.2)
    (A, r.0, r.1, r.2)

pub nil-upp : Upp nil 1 1
nil-upp = (tt, zero-le)

either-upp : (b : Bool) (x : Float) → Upp x 1 1 → Upp (cond b nil x) 1 1
either-upp true x u = nil-upp
either-upp false x u = u

pub fresh-upp : (S N W L : ℕ) → S ≤ N → 0 < N → N ≤ 2 ^ 64 → 0 < W → W ≤ 2 ^ 64 → L ≤ 2 ^ 64 → Upp (fresh_factor S N W L) 1 1
unfolding fresh_factor
fresh-upp S N W L h N+ n w v k =
    let r = perceived-any S N W L h N+ n w v k in
    let share = div binary64 (average S W) (perceived N W L) in
    either-upp (eq (perceived N W L) nil) (sub binary64 one share)
    (rest_in binary64 share (share_in binary64 (average S W) (perceived N W L) r.0 r.1 r.2 r.3))
