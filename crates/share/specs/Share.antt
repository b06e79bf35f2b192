-- floor(a * b / c), saturating: the declined count that a cut bucket keeps, without a product of 128 bits.
-- Assumes nothing.
use Rattle.std.specs.Prelude.{◌≡◌, ℕ, ◌+◌, ◌-◌, ◌*◌, ◌/◌, ◌%◌, ◌^◌, ◌≤◌, ◌<◌, min, Option, Some, None}
use Rattle.std.proofs.Common.{sym, ap, ◌∙◌, subst, add-mul, mul-add, mul_assoc, mul-one, one-mul, zero-mul, mul-zero, mul-le-mul_right, mul-le-mul_left, le_trans, div-le_self, div-add-mod', le-div_iff_mul-le, arith}
use Rattle.std.proofs.Math.Nat.{div-zero, div-eq_of_lt-le}
use Rattle.share.specs.declared.Share.{Share}

unfoldable pub mul_div : ℕ → ℕ → ℕ → ℕ
mul_div a b c = min (a * b / c) (2 ^ 64 - 1)

-- ---- a number as a multiple of c and a part below c

abbrev pub value : ℕ → Share → ℕ
value c s = s.whole * c + s.part

pub record Holds (c n : ℕ) (s : Share) : Type 0 where
  pub below : s.part < c
  pub exact : value c s ≡ n

-- the answer for the number n: n itself, or that its whole is more than a word holds
abbrev pub Comes : ℕ → ℕ → Option Share → Type 0
Comes c n (Some s) = Holds c n s
Comes c n None = 2 ^ 64 * c ≤ n

pub record Carry (a b k p : ℕ) (s : Share) : Type 0 where
  pub whole_is : s.whole ≡ a + b + k
  pub part-is : s.part ≡ p

-- the answer for the whole a + b + k beside the part p
abbrev pub Carried : ℕ → ℕ → ℕ → ℕ → Option Share → Type 0
Carried a b k p (Some s) = Carry a b k p s
Carried a b k p None = 2 ^ 64 ≤ a + b + k

pub record Parts (c : ℕ) (x y : Share) : Type 0 where
  pub first : x.part < c
  pub second : y.part < c

-- half as many of the unit, and twice that
pub record Halved (c n : ℕ) (unit half : Share) : Type 0 where
  pub unit-below : unit.part < c
  pub half-holds : Holds c (value c unit * (n / 2)) half

pub record Twice (c n : ℕ) (unit even : Share) : Type 0 where
  pub unit-below : unit.part < c
  pub even-holds : Holds c (value c unit * (n / 2) + value c unit * (n / 2)) even

-- an answer's case, from the enum's
pub comes-fits : (c n : ℕ) (r : Option Share) (s : Share) → r ≡ Some s → Comes c n r → Holds c n s
comes-fits c n r s e o = rw e at o

pub comes-over : (c n : ℕ) (r : Option Share) → r ≡ None → Comes c n r → 2 ^ 64 * c ≤ n
comes-over c n r e o = rw e at o

-- ---- sums

wholes : (a b k c : ℕ) → (a + b + k) * c ≡ a * c + b * c + k * c
wholes a b k c = add-mul (a + b) k c ∙ ap (λ (z : ℕ). z + k * c) (add-mul a b c)

pub carried-comes : (c n a b k p : ℕ) (r : Option Share) → p < c → (a + b + k) * c + p ≡ n → Carried a b k p r → Comes c n r
carried-comes c n a b k p (Some s) h e o = record { below = rw o.part-is h; exact = rw (o.whole_is, o.part-is) e }
carried-comes c n a b k p None h e o = let q : 2 ^ 64 * c ≤ (a + b + k) * c = mul-le-mul_right c o in omega arith

-- without a carry, and with one
pub sum_below : (c : ℕ) (x y : Share) (r : Option Share) → x.part < c - y.part → Carried x.whole y.whole 0 (x.part + y.part) r →
    Comes c (value c x + value c y) r
sum_below c x y r h o =
    let e = wholes x.whole y.whole 0 c in
    let z = zero-mul c in
    carried-comes c _ x.whole y.whole 0 (x.part + y.part) r (omega arith) (omega arith) o

pub sum-carried : (c : ℕ) (x y : Share) (r : Option Share) → Parts c x y → c - y.part ≤ x.part →
    Carried x.whole y.whole 1 (x.part - (c - y.part)) r → Comes c (value c x + value c y) r
sum-carried c x y r q h o =
    let e = wholes x.whole y.whole 1 c in
    carried-comes c _ x.whole y.whole 1 (x.part - (c - y.part)) r (omega arith) (omega arith) o

-- ---- products by halving

twice : (v h k : ℕ) → v * (h * 2 + k) ≡ v * h + v * h + v * k
twice v h k = let e = mul-add v (h * 2) k in let d = mul_assoc v h 2 in omega arith

halved : (v n : ℕ) → v * (n / 2) + v * (n / 2) + v * (n % 2) ≡ v * n
halved v n = sym (twice v (n / 2) (n % 2)) ∙ ap (λ (z : ℕ). v * z) (div-add-mod' n 2)

even-product : (v n : ℕ) → n % 2 ≡ 0 → v * (n / 2) + v * (n / 2) ≡ v * n
even-product v n e =
    let s = halved v n in
    let z : v * (n % 2) ≡ 0 = ap (λ (z : ℕ). v * z) e ∙ mul-zero v in
    omega arith

odd-product : (v n : ℕ) → (n % 2 ≡ 0 → ⊥) → v * (n / 2) + v * (n / 2) + v ≡ v * n
odd-product v n e =
    let s = halved v n in
    let o : n % 2 ≡ 1 = omega arith in
    let z : v * (n % 2) ≡ v = ap (λ (z : ℕ). v * z) o ∙ mul-one v in
    omega arith

pub half_over : (t v n : ℕ) → t ≤ v * (n / 2) → t ≤ v * n
half_over t v n h = le_trans h (mul-le-mul_left v (div-le_self n 2))

pub none-holds : (c v n : ℕ) → 0 < c → n ≡ 0 → Holds c (v * n) (record { whole = 0; part = 0 })
none-holds c v n p e = record { below = p; exact = let z = zero-mul c in let m = ap (λ (z : ℕ). v * z) e ∙ mul-zero v in omega arith }

-- the half and itself
pub double-over : (c n : ℕ) (unit half : Share) → Halved c n unit half → 2 ^ 64 * c ≤ value c half + value c half → 2 ^ 64 * c ≤ value c unit * n
double-over c n unit half h o =
    let v = value c unit in
    let s = halved v n in
    le_trans (rw h.half-holds.exact at o) (rest (v * (n / 2)) (v * (n % 2)) (v * n) s)
  where
    rest : (x y z : ℕ) → x + x + y ≡ z → x + x ≤ z
    rest x y z e = omega arith

pub double-holds : (c n : ℕ) (unit half even : Share) → Halved c n unit half → Holds c (value c half + value c half) even → Twice c n unit even
double-holds c n unit half even h d = record {
  unit-below = h.unit-below;
  even-holds = record { below = d.below; exact = d.exact ∙ ap (λ (z : ℕ). z + z) h.half-holds.exact };
}

-- an even number of units is that double, an odd one a unit more
pub even-comes : (c n : ℕ) (unit even : Share) → Twice c n unit even → n % 2 ≡ 0 → Holds c (value c unit * n) even
even-comes c n unit even d e = record { below = d.even-holds.below; exact = d.even-holds.exact ∙ even-product (value c unit) n e }

pub odd-comes : (c n : ℕ) (unit even : Share) (r : Option Share) → Twice c n unit even → (n % 2 ≡ 0 → ⊥) → Comes c (value c even + value c unit) r →
    Comes c (value c unit * n) r
odd-comes c n unit even r d e o =
    let v = value c unit in
    subst (λ (z : ℕ). Comes c z r) (ap (λ (z : ℕ). z + v) d.even-holds.exact ∙ odd-product v n e) o

-- ---- the quotient

-- a itself is the unit
pub unit-comes : (a b c : ℕ) (r : Option Share) → Comes c ((a / c * c + a % c) * b) r → Comes c (a * b) r
unit-comes a b c r o = subst (λ (z : ℕ). Comes c (z * b) r) (div-add-mod' a c) o

pub nothing : (a b : ℕ) → 0 ≡ mul_div a b 0
unfolding mul_div
nothing a b = rw (div-zero (a * b))

pub quotient : (a b c : ℕ) (s : Share) → s.whole < 2 ^ 64 → Holds c (a * b) s → s.whole ≡ mul_div a b c
unfolding mul_div
quotient a b c s f h =
    let m = add-mul s.whole 1 c in
    let o = one-mul c in
    let low : s.whole * c ≤ a * b = omega arith in
    let high : a * b < (s.whole + 1) * c = omega arith in
    let q = div-eq_of_lt-le c low high in
    omega arith

pub saturated : (a b c : ℕ) → 0 < c → 2 ^ 64 * c ≤ a * b → 2 ^ 64 - 1 ≡ mul_div a b c
unfolding mul_div
saturated a b c p h = let q = (le-div_iff_mul-le p).1 h in omega arith
