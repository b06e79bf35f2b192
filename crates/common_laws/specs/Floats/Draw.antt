-- For x from 0 to 1, (1 - x) * 2 ^ prec is a whole number k from 0 to 2 ^ prec, exactly: where 1 - x is 1 / 2 at least its unit is 2 ^ -prec, and where it
-- is less it is exact, since x is then a multiple of 2 ^ -prec.
-- So a draw below 2 ^ prec is compared with k as a number (`odds`, `draw-lt`). Assumes nothing.
use Rattle.std.specs.Prelude.{◌≡◌, refl, ℕ, zero, suc, ◌+◌, ◌-◌, ◌*◌, ◌/◌, ◌^◌, ◌≤◌, ◌<◌, Bool, true, false, not, ℤ, pos, negsuc, T, leb, ltb, eqb, Float}
use Rattle.std.proofs.Common.{sym, ap, ◌∙◌, subst, zero-le, le_trans, le_of_eq, lt_of_lt_of_le, lt_of_le_of_lt, lt_of_not-le, not-le_of_lt, lt_irrefl, mul-one, one-mul, zero-mul, add-zero, mul_comm, mul_assoc, mul_left_comm, mul_right_comm, mul-le-mul_left, mul-le-mul_right, mul-pos, mul-lt-mul_of_pos_right, lt_of_mul-lt-mul_right, le_of_mul-le-mul_right, le-div_iff_mul-le, zero-lt-suc, arith, true≢false, ltb→lt, lt→ltb, le→leb, leb→le, eqb→eq, lit≤, lit<, pow-add, pow_pos, pow_mono, shl_lt}
use Rattle.std.proofs.Math.Nat.{eq_of_mul-eq-mul_right, pow-succ'}
use Rattle.std.proofs.Math.Dec.{nleb→lt}
use Rattle.std.specs.Float.{nan, inf, fin, Format, binary32, binary64}
use Rattle.std.specs.Float.Ieee.{prec, emax, low, up, down, size, round, sum, mul, sub, le, lt, fits, of_int, to_unsigned, in_float}
use Rattle.std.specs.Float.Ieee.Digits.{size-lt, back}
use Rattle.std.specs.Float.Ieee.Fits.{down_pos, and_l}
use Rattle.std.specs.Float.Ieee.Exact.{HasValue, round_exact}
use Rattle.std.specs.Float.Ieee.Back.{unsigned_back}
use Rattle.std.specs.Float.Ieee.Order.{drop, kept}
use Rattle.std.specs.Float.Ieee.Scale.{finite, round_val, round_under, round_same}
use Rattle.suppression.specs.Factor.{Unit01, odds, chance}
use Rattle.common.specs.Ranges.{nil, one}
use Rattle.common_laws.specs.Floats.Bounds.{Upp, held_whole}
use Rattle.common.specs.Cut.{lt-or-eq}
use Rattle.common_laws.specs.Floats.Held.{fits-digits}
use Rattle.common_laws.specs.Floats.Values.{of_int-val, of_int_is, mul_at, sub_at}
use Rattle.common_laws.specs.Floats.Factor.{rest_in, unit_val}

-- ---- from one fraction to another of the same size
pub revalue : (x : Float) (a c b d : ℕ) → 0 < c → b * c ≡ a * d → HasValue x false a c → HasValue x false b d
revalue nan a c b d C h v = v
revalue (inf t) a c b d C h v = v
revalue (fin t m e) a c b d C h v = (
  v.0,
  eq_of_mul-eq-mul_right c C (m * up e * d) (b * down e)
      (mul_right_comm (m * up e) d c
      ∙ ap (λ (x : ℕ). x * d) v.1
      ∙ mul_right_comm a (down e) d
      ∙ ap (λ (x : ℕ). x * down e) (sym h)
      ∙ mul_right_comm b c (down e)),
)

-- ---- of a format: it reaches lower than it has digits
low-suc : (f : Format) → (k : ℕ) × (low f ≡ suc k)
low-suc binary32 = (148, refl)
low-suc binary64 = (1073, refl)

prec-low : (f : Format) → prec f ≤ low f
prec-low binary32 = lit≤ tt
prec-low binary64 = lit≤ tt

upp-finite : (x : Float) (a c : ℕ) → Upp x a c → T (finite x)
upp-finite nan a c u = absurd u
upp-finite (inf s) a c u = absurd u
upp-finite (fin s m e) a c u = tt

size-gt : (n j : ℕ) → 2 ^ j ≤ n → j < size n
size-gt n j h = lt_of_not-le (λ (g : size n ≤ j). not-le_of_lt (lt_of_lt_of_le (size-lt n) (pow_mono g)) h)

drop-ge : (l p z : ℕ) → l ≤ z → l - p ≤ z - p
drop-ge l p z h = omega arith

abbrev Part : Format → ℕ → ℕ → Type 0
Part f A C = (k : ℕ) × HasValue (round f false A C) false k (2 ^ prec f)

-- ---- a fraction from 1 / 2 to 1
half_up : (f : Format) (A C : ℕ) → 0 < C → C ≤ 2 * A → low f ≤ size (A * 2 ^ low f / C)
half_up f A C P h =
    let s = low-suc f in
    let k = s.0 in
    let e : A * 2 ^ low f ≡ 2 ^ k * (2 * A) = ap (λ (x : ℕ). A * 2 ^ x) s.1 ∙ ap (λ (x : ℕ). A * x) (pow-succ' 2 k) ∙
    simp (mul_assoc, mul_comm, mul_left_comm) in
    subst (λ (x : ℕ). x ≤ size (A * 2 ^ low f / C)) (sym s.1)
    (size-gt (A * 2 ^ low f / C) k ((le-div_iff_mul-le P).1 (le_trans (mul-le-mul_left (2 ^ k) h) (le_of_eq (sym e)))))

upper : (f : Format) (A C : ℕ) → 0 < C → C ≤ 2 * A → Upp (round f false A C) 1 1 → Part f A C
upper f A C P h u =
    let p = prec f in
    let l = low f in
    let j = l - p in
    let q = kept p (A * 2 ^ l) C in
    let r = drop p (A * 2 ^ l) C in
    let K = q * 2 ^ (r - j) in
    let g : q * 2 ^ r ≡ K * 2 ^ j =
    ap (λ (x : ℕ). q * 2 ^ x) (sym (back r j (drop-ge l p (size (A * 2 ^ l / C)) (half_up f A C P h)))) ∙ ap (λ (x : ℕ). q * x) (pow-add 2 (r - j) j) ∙
    sym (mul_assoc q (2 ^ (r - j)) (2 ^ j)) in
    let w : 2 ^ l ≡ 2 ^ j * 2 ^ p = ap (λ (x : ℕ). 2 ^ x) (sym (back l p (prec-low f))) ∙ pow-add 2 j p in (
      K,
      revalue (round f false A C) (q * 2 ^ r) (2 ^ l) K (2 ^ p) (pow_pos l)
          (ap (λ (x : ℕ). K * x) w ∙ sym (mul_assoc K (2 ^ j) (2 ^ p)) ∙ ap (λ (x : ℕ). x * 2 ^ p) (sym g))
          (round_val f A C (round_under f A C (upp-finite (round f false A C) 1 1 u))),
    )

-- ---- a multiple of 2 ^ -prec
lower : (f : Format) (A t : ℕ) → t ≤ prec f → A < 2 ^ t → Part f A (2 ^ t)
lower f A t h a =
    let p = prec f in
    let l = low f in
    let j = l - p in
    let q = A * 2 ^ (p - t) in
    let up_to : 2 ^ (p - t) * 2 ^ t ≡ 2 ^ p = sym (pow-add 2 (p - t) t) ∙ ap (λ (x : ℕ). 2 ^ x) (back p t h) in
    let whole : q * 2 ^ t ≡ A * 2 ^ p = mul_assoc A (2 ^ (p - t)) (2 ^ t) ∙ ap (λ (x : ℕ). A * x) up_to in
    let all : 2 ^ p * 2 ^ j ≡ 2 ^ l = mul_comm (2 ^ p) (2 ^ j) ∙ sym (pow-add 2 j p) ∙ ap (λ (x : ℕ). 2 ^ x) (back l p (prec-low f)) in
    let q-lt : q < 2 ^ p = subst (λ (x : ℕ). q < 2 ^ x) (join t p h) (shl_lt t (p - t) a) in
    let e : A * 2 ^ l ≡ q * 2 ^ j * 2 ^ t =
    ap (λ (x : ℕ). A * x) (sym all) ∙ sym (mul_assoc A (2 ^ p) (2 ^ j)) ∙ ap (λ (x : ℕ). x * 2 ^ j) (sym whole) ∙ mul_right_comm q (2 ^ t) (2 ^ j) in (
      q,
      revalue (round f false A (2 ^ t)) A (2 ^ t) q (2 ^ p) (pow_pos t) whole
          (round_exact f false A (2 ^ t) q j (pow_pos t) q-lt (lt_of_lt_of_le (shl_lt p j q-lt) (pow_mono (room p l (emax f) (prec-low f)))) e),
    )
  where
    join : (t p : ℕ) → t ≤ p → t + (p - t) ≡ p
    join t p h = omega arith

    room : (p l u : ℕ) → p ≤ l → p + (l - p) ≤ l + suc u
    room p l u h = omega arith

-- ---- x = fin false m e, at most 1: 1 - x is A / C with C = down e, A = C - m * up e
pow_lt_back : (i p : ℕ) → 2 ^ i < 2 ^ p → i < p
pow_lt_back i p h = lt_of_not-le (λ (g : p ≤ i). lt_irrefl (2 ^ i) (lt_of_lt_of_le h (pow_mono g)))

more-half : (C M P : ℕ) → 2 * (C - M) < C → M ≤ C → M < P → C < 2 * P
more-half C M P h k l = omega arith

below_suc : (b p : ℕ) → b < suc p → b ≤ p
below_suc b p h = omega arith

-- more than 1 / 2 has a denominator of 2 ^ prec at most
short : (f : Format) (m : ℕ) (e : ℤ) → T (fits f (fin false m e)) → m * up e ≤ down e → 2 * (down e - m * up e) < down e →
    (t : ℕ) × (t ≤ prec f) × (down e ≡ 2 ^ t)
short f m (pos a) t k h = (0, zero-le, refl)
short f zero (negsuc b) t k h = absurd (no (2 ^ suc b) (zero * 1) (zero-mul 1) h)
  where
    no : (C M : ℕ) → M ≡ 0 → 2 * (C - M) < C → ⊥
    no C M z h = omega arith
short f (suc m) (negsuc b) t k h = (
  suc b,
  below_suc (suc b) (prec f)
      (pow_lt_back (suc b) (suc (prec f))
      (lt_of_lt_of_le (more-half (2 ^ suc b) (suc m * 1) (2 ^ prec f) h k
      (subst (λ (x : ℕ). x < 2 ^ prec f) (sym (mul-one (suc m))) (fits-digits f false m (negsuc b) t)))
      (le_of_eq (sym (pow-succ' 2 (prec f)))))),
  refl,
)

rest_lt : (C M : ℕ) → 2 * (C - M) < C → C - M < C
rest_lt C M h = omega arith

part : (f : Format) (m : ℕ) (e : ℤ) → T (fits f (fin false m e)) → m * up e ≤ down e → Upp (round f false (down e - m * up e) (down e)) 1 1 →
    Part f (down e - m * up e) (down e)
part f m e t k u = go (leb (down e) (2 * (down e - m * up e))) (leb→le (down e) (2 * (down e - m * up e))) (nleb→lt (down e) (2 * (down e - m * up e)))
  where
    go : (b : Bool) → (T b → down e ≤ 2 * (down e - m * up e)) → (T (not b) → 2 * (down e - m * up e) < down e) → Part f (down e - m * up e) (down e)
    go true h n = upper f (down e - m * up e) (down e) (down_pos e) (h tt) u
    go false h n =
        let s = short f m e t k (n tt) in
        subst (λ (C : ℕ). Part f (down e - m * up e) C) (sym s.2)
        (lower f (down e - m * up e) s.0 s.1 (subst (λ (C : ℕ). down e - m * up e < C) s.2 (rest_lt (down e) (m * up e) (n tt))))

-- ---- what is k / 2 ^ prec and at most 1, times 2 ^ prec
abbrev pub Counted : Format → Float → Type 0
Counted f y = (k : ℕ) × (k ≤ 2 ^ prec f) × (y ≡ of_int f (pos k))

at_most : (g : Float) (k P : ℕ) → Upp g 1 1 → HasValue g false k P → k ≤ P
at_most nan k P u v = absurd u
at_most (inf s) k P u v = absurd u
at_most (fin s m e) k P u v =
    le_of_mul-le-mul_right
    (le_trans (le_of_eq (sym v.1))
    (le_trans (mul-le-mul_right P (le_trans (le_of_eq (sym (mul-one (m * up e)))) (le_trans u.1 (le_of_eq (one-mul (down e))))))
    (le_of_eq (mul_comm (down e) P))))
    (down_pos e)

counted : (f : Format) (g : Float) (k : ℕ) → Upp g 1 1 → HasValue g false k (2 ^ prec f) → Counted f (mul f g (fin false 1 (pos (prec f))))
counted f g k u v =
    let p = prec f in (
      k,
      at_most g k (2 ^ p) u v,
      mul_at f g (fin false 1 (pos p)) k (2 ^ p) (2 ^ p) 1 (pow_pos p) (zero-lt-suc 0) v (refl, ap (λ (x : ℕ). x * 1) (one-mul (2 ^ p)))
          ∙ round_same f false (k * 2 ^ p) (2 ^ p * 1) k 1 (mul-pos (pow_pos p) (zero-lt-suc 0)) (zero-lt-suc 0) (mul_assoc k (2 ^ p) 1)
          ∙ sym (of_int_is f k),
    )

-- 1 - x for x = fin false m e
rest-is : (f : Format) (m : ℕ) (e : ℤ) → m * up e * 1 ≤ 1 * down e → sub f one (fin false m e) ≡ round f false (down e - m * up e) (down e)
rest-is f m e h =
    sub_at f one (fin false m e) 1 1 (m * up e) (down e) (zero-lt-suc 0) (down_pos e) unit_val (refl, refl) h
    ∙ ap (λ (z : ℕ). round f false (1 * down e - z) (1 * down e)) (mul-one (m * up e))
    ∙ ap (λ (z : ℕ). round f false (z - m * up e) z) (one-mul (down e))

-- 1 - x is k / 2 ^ prec
abbrev pub Rest : Format → Float → Type 0
Rest f g = (k : ℕ) × Upp g 1 1 × HasValue g false k (2 ^ prec f)

rest-plus : (f : Format) (m : ℕ) (e : ℤ) → T (fits f (fin false m e)) → m * up e * 1 ≤ 1 * down e → Rest f (sub f one (fin false m e))
rest-plus f m e t h =
    let r = round f false (down e - m * up e) (down e) in
    let i = rest-is f m e h in
    let u : Upp r 1 1 = subst (λ (z : Float). Upp z 1 1) i (rest_in f (fin false m e) (tt, h)) in
    let k : m * up e ≤ down e = le_trans (le_of_eq (sym (mul-one (m * up e)))) (le_trans h (le_of_eq (one-mul (down e)))) in
    let s = part f m e t k u in
    subst (λ (z : Float). Rest f z) (sym i) (s.0, u, s.1)

-- 1 - -0
minus_is : (f : Format) (m : ℕ) (e : ℤ) → sub f one (fin true m e) ≡ round f false (1 * 1 * down e + m * up e * 1) (1 * down e)
unfolding sub sum
minus_is f m e = refl

rest-minus : (f : Format) (m : ℕ) (e : ℤ) → m * up e * 1 ≡ 0 → Rest f (sub f one (fin true m e))
rest-minus f m e z =
    let i : sub f one (fin true m e) ≡ round f false 1 1 =
    minus_is f m e ∙ round_same f false (1 * 1 * down e + m * up e * 1) (1 * down e) 1 1 (mul-pos (zero-lt-suc 0) (down_pos e)) (zero-lt-suc 0)
    (mul-one (1 * down e + m * up e * 1) ∙ ap (λ (x : ℕ). 1 * down e + x) z ∙ add-zero (1 * down e) ∙ sym (one-mul (1 * down e))) in
    let v : HasValue (round f false 1 1) false 1 1 = held_whole f 1 (pow_pos (prec f)) in
    subst (λ (x : Float). Rest f x) (sym i) (
      2 ^ prec f,
      upp-of (round f false 1 1) v,
      revalue (round f false 1 1) 1 1 (2 ^ prec f) (2 ^ prec f) (zero-lt-suc 0) (mul-one (2 ^ prec f) ∙ sym (one-mul (2 ^ prec f))) v,
    )
  where
    upp-of : (x : Float) → HasValue x false 1 1 → Upp x 1 1
    upp-of nan v = absurd v
    upp-of (inf s) v = absurd v
    upp-of (fin s m e) v = (subst (λ (t : Bool). T (not t)) (sym v.0) tt, le_of_eq v.1)

pub rest-value : (f : Format) (x : Float) → T (fits f x) → Unit01 x → Rest f (sub f one x)
unfolding le
rest-value f nan t u = absurd u.0
rest-value f (inf true) t u = absurd u.0
rest-value f (inf false) t u = absurd u.1
rest-value f (fin true m e) t u =
    rest-minus f m e
    (sym (eqb→eq (0 * 1 * down e) (m * up e * 1) (and_l (eqb (0 * 1 * down e) (m * up e * 1)) (eqb (0 * 1 * down e) 0) u.0)) ∙ zero-mul (down e))
rest-value f (fin false m e) t u = rest-plus f m e t (lt-or-eq (m * up e * 1) (1 * 1 * down e) u.1)

pub draw-counted : (f : Format) (x : Float) → T (fits f x) → Unit01 x → Counted f (mul f (sub f one x) (fin false 1 (pos (prec f))))
draw-counted f x t u = let r = rest-value f x t u in counted f (sub f one x) r.0 r.1 r.2

-- ---- the number
under_64 : (k : ℕ) → k ≤ 2 ^ 53 → k < 2 ^ 64
under_64 k h = lt_of_le_of_lt h (lit< tt)

in-float : (k : ℕ) → k ≤ 2 ^ 53 → T (in_float binary64 (pos k))
unfolding in_float
in-float k h = le→leb k (2 ^ 53) h

odds-at : (y : Float) (k : ℕ) → k ≤ 2 ^ 53 → y ≡ of_int binary64 (pos k) → to_unsigned 64 y ≡ k
odds-at y k h e = ap (to_unsigned 64) e ∙ (unsigned_back binary64 64 k (in-float k h) (under_64 k h)).1

-- (1 - x) * 2 ^ 53 is the whole number `odds x`, from 0 to 2 ^ 53
pub odds-exact : (x : Float) → T (fits binary64 x) → Unit01 x → (chance x ≡ of_int binary64 (pos (odds x))) × (odds x ≤ 2 ^ 53)
unfolding odds
odds-exact x t u =
    let y = chance x in
    let c : Counted binary64 y = draw-counted binary64 x t u in
    let e : to_unsigned 64 y ≡ c.0 = odds-at y c.0 c.1 c.2 in
    (c.2 ∙ ap (λ (k : ℕ). of_int binary64 (pos k)) (sym e), le_trans (le_of_eq e) c.1)

-- ---- the comparison of two whole numbers as floats
same_test : (a b : Bool) → (T a → T b) → (T b → T a) → a ≡ b
same_test true true p q = refl
same_test true false p q = absurd (p tt)
same_test false true p q = absurd (q tt)
same_test false false p q = refl

-- two fractions over the same c
pub values-lt : (x y : Float) (a b c : ℕ) → 0 < c → HasValue x false a c → HasValue y false b c → lt x y ≡ ltb a b
unfolding lt
values-lt nan y a b c C v w = absurd v
values-lt (inf s) y a b c C v w = absurd v
values-lt (fin true m e) y a b c C v w = absurd (true≢false v.0)
values-lt (fin false m e) nan a b c C v w = absurd w
values-lt (fin false m e) (inf s) a b c C v w = absurd w
values-lt (fin false m e) (fin true n d) a b c C v w = absurd (true≢false w.0)
values-lt (fin false m e) (fin false n d) a b c C v w =
    let E = down e in
    let D = down d in
    let X = m * up e * D in
    let Y = n * up d * E in
    let x : X * c ≡ a * (E * D) = mul_right_comm (m * up e) D c ∙ ap (λ (z : ℕ). z * D) v.1 ∙ mul_assoc a E D in
    let y : Y * c ≡ b * (E * D) = mul_right_comm (n * up d) E c ∙ ap (λ (z : ℕ). z * E) w.1 ∙ mul_assoc b D E ∙ ap (λ (z : ℕ). b * z) (mul_comm D E) in
    let P : 0 < E * D = mul-pos (down_pos e) (down_pos d) in
    same_test (ltb X Y) (ltb a b)
    (λ t. lt→ltb a b (lt_of_mul-lt-mul_right (E * D)
    (subst (λ (z : ℕ). z < b * (E * D)) x (subst (λ (z : ℕ). X * c < z) y (mul-lt-mul_of_pos_right (ltb→lt X Y t) C)))))
    (λ t. lt→ltb X Y (lt_of_mul-lt-mul_right c
    (subst (λ (z : ℕ). z < Y * c) (sym x) (subst (λ (z : ℕ). a * (E * D) < z) (sym y) (mul-lt-mul_of_pos_right (ltb→lt a b t) P)))))

pub whole-lt : (f : Format) (a b : ℕ) → a ≤ 2 ^ prec f → b ≤ 2 ^ prec f → lt (of_int f (pos a)) (of_int f (pos b)) ≡ ltb a b
whole-lt f a b p q = values-lt (of_int f (pos a)) (of_int f (pos b)) a b 1 (zero-lt-suc 0) (of_int-val f a p) (of_int-val f b q)

pub draw-lt : (x : Float) (d : ℕ) → T (fits binary64 x) → Unit01 x → d ≤ 2 ^ 53 → lt (of_int binary64 (pos d)) (chance x) ≡ ltb d (odds x)
draw-lt x d t u h =
    let o = odds-exact x t u in ap (λ (y : Float). lt (of_int binary64 (pos d)) y) o.0 ∙ whole-lt binary64 d (odds x) h o.1

-- the two ends
pub odds-nil : odds nil ≡ 2 ^ 53
unfolding odds to_unsigned mul sub
odds-nil = refl

pub odds-one : odds one ≡ 0
unfolding odds to_unsigned mul sub
odds-one = refl
