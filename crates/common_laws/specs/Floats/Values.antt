-- The operations by the fractions that their operands equal: `HasValue x false a c` says that x is finite, has its sign clear and is a / c. A zero is among
-- them. Assumes nothing.
use Rattle.std.specs.Prelude.{◌≡◌, refl, ℕ, ◌-◌, ◌*◌, ◌^◌, ◌≤◌, ◌<◌, true, false, ℤ, pos, Float}
use Rattle.std.proofs.Common.{sym, ap, ◌∙◌, subst, mul_comm, mul_assoc, mul_left_comm, mul-pos, true≢false}
use Rattle.std.proofs.Math.Nat.{mul-sub, mul-mul-mul_comm}
use Rattle.std.specs.Float.{nan, inf, fin, Format}
use Rattle.std.specs.Float.Ieee.{prec, up, down, round, mul, div, sub, of_int}
use Rattle.std.specs.Float.Ieee.Fits.{up_pos, down_pos}
use Rattle.std.specs.Float.Ieee.Exact.{HasValue}
use Rattle.std.specs.Float.Ieee.Order.{transfer}
use Rattle.std.specs.Float.Ieee.Scale.{round_same}
use Rattle.std.specs.Float.Ieee.Positive.{first_pos}
use Rattle.common_laws.specs.Floats.Bounds.{Upp, held_whole}
use Rattle.common_laws.specs.Floats.Ops.{div_is, mul_is, sub_is}

pub value-shape : (x : Float) (a c : ℕ) → HasValue x false a c → (m : ℕ) × (e : ℤ) × (x ≡ fin false m e) × (m * up e * c ≡ a * down e)
value-shape nan a c v = absurd v
value-shape (inf s) a c v = absurd v
value-shape (fin true m e) a c v = absurd (true≢false v.0)
value-shape (fin false m e) a c v = (m, e, refl, v.1)

pub upp-shape : (x : Float) (a c : ℕ) → Upp x a c → (m : ℕ) × (e : ℤ) × (x ≡ fin false m e) × (m * up e * c ≤ a * down e)
upp-shape nan a c v = absurd v
upp-shape (inf s) a c v = absurd v
upp-shape (fin true m e) a c v = absurd v.0
upp-shape (fin false m e) a c v = (m, e, refl, v.1)

-- an integer up to 2 ^ prec
pub of_int-val : (f : Format) (n : ℕ) → n ≤ 2 ^ prec f → HasValue (of_int f (pos n)) false n 1
unfolding of_int
of_int-val f n h = held_whole f n h

pub of_int_is : (f : Format) (n : ℕ) → of_int f (pos n) ≡ round f false n 1
unfolding of_int
of_int_is f n = refl

-- X / E is a / c and N / D is b / d
quot-cross : (X E N D a c b d : ℕ) → X * c ≡ a * E → N * d ≡ b * D → X * D * (b * c) ≡ a * d * (N * E)
quot-cross X E N D a c b d p q =
    let l : X * D * (b * c) ≡ X * c * (b * D) = simp (mul_assoc, mul_comm, mul_left_comm) in
    let r : a * E * (N * d) ≡ a * d * (N * E) = simp (mul_assoc, mul_comm, mul_left_comm) in
    l ∙ ap (λ (z : ℕ). z * (b * D)) p ∙ ap (λ (z : ℕ). a * E * z) (sym q) ∙ r

pub div-at : (f : Format) (x y : Float) (a c b d : ℕ) → 0 < c → 0 < d → 0 < b → HasValue x false a c → HasValue y false b d →
    div f x y ≡ round f false (a * d) (b * c)
div-at f x y a c b d C D B v w =
    let p = value-shape x a c v in
    let q = value-shape y b d w in
    let m = p.0 in
    let e = p.1 in
    let n = q.0 in
    let g = q.1 in
    let N : 0 < n = first_pos n (up g) (first_pos (n * up g) d (subst (λ (z : ℕ). 0 < z) (sym q.3) (mul-pos B (down_pos g)))) in
    ap (λ (z : Float). div f z y) p.2
    ∙ ap (λ (z : Float). div f (fin false m e) z) q.2
    ∙ div_is f m e n g N
    ∙ round_same f false (m * up e * down g) (n * up g * down e) (a * d) (b * c) (mul-pos (mul-pos N (up_pos g)) (down_pos e)) (mul-pos B C)
    (quot-cross (m * up e) (down e) (n * up g) (down g) a c b d p.3 q.3)

pub mul_at : (f : Format) (x y : Float) (a c b d : ℕ) → 0 < c → 0 < d → HasValue x false a c → HasValue y false b d → mul f x y ≡ round f false (a * b) (c * d)
mul_at f x y a c b d C D v w =
    let p = value-shape x a c v in
    let q = value-shape y b d w in
    let m = p.0 in
    let e = p.1 in
    let n = q.0 in
    let g = q.1 in
    ap (λ (z : Float). mul f z y) p.2
    ∙ ap (λ (z : Float). mul f (fin false m e) z) q.2
    ∙ mul_is f m e n g
    ∙ round_same f false (m * up e * (n * up g)) (down e * down g) (a * b) (c * d) (mul-pos (down_pos e) (down_pos g)) (mul-pos C D)
    (mul-mul-mul_comm (m * up e) (n * up g) c d ∙ ap (λ (z : ℕ). z * (n * up g * d)) p.3 ∙ ap (λ (z : ℕ). a * down e * z) q.3 ∙
    mul-mul-mul_comm a (down e) b (down g))

diff-cross : (X E N D a c b d : ℕ) → X * c ≡ a * E → N * d ≡ b * D → (X * D - N * E) * (c * d) ≡ (a * d - b * c) * (E * D)
diff-cross X E N D a c b d p q =
    let l : c * d * (X * D) ≡ X * c * (d * D) = simp (mul_assoc, mul_comm, mul_left_comm) in
    let l' : a * E * (d * D) ≡ E * D * (a * d) = simp (mul_assoc, mul_comm, mul_left_comm) in
    let r : c * d * (N * E) ≡ N * d * (c * E) = simp (mul_assoc, mul_comm, mul_left_comm) in
    let r' : b * D * (c * E) ≡ E * D * (b * c) = simp (mul_assoc, mul_comm, mul_left_comm) in
    mul_comm (X * D - N * E) (c * d)
    ∙ mul-sub (c * d) (X * D) (N * E)
    ∙ ap (λ (z : ℕ). z - c * d * (N * E)) (l ∙ ap (λ (z : ℕ). z * (d * D)) p ∙ l')
    ∙ ap (λ (z : ℕ). E * D * (a * d) - z) (r ∙ ap (λ (z : ℕ). z * (c * E)) q ∙ r')
    ∙ sym (mul-sub (E * D) (a * d) (b * c))
    ∙ mul_comm (E * D) (a * d - b * c)

-- x - y where y is no more than x
pub sub_at : (f : Format) (x y : Float) (a c b d : ℕ) → 0 < c → 0 < d → HasValue x false a c → HasValue y false b d → b * c ≤ a * d →
    sub f x y ≡ round f false (a * d - b * c) (c * d)
sub_at f x y a c b d C D v w h =
    let p = value-shape x a c v in
    let q = value-shape y b d w in
    let m = p.0 in
    let e = p.1 in
    let n = q.0 in
    let g = q.1 in
    ap (λ (z : Float). sub f z y) p.2
    ∙ ap (λ (z : Float). sub f (fin false m e) z) q.2
    ∙ sub_is f m e n g (transfer (n * up g) (m * up e) (down g) (down e) b a d c D C q.3 p.3 h)
    ∙ round_same f false (m * up e * down g - n * up g * down e) (down e * down g) (a * d - b * c) (c * d) (mul-pos (down_pos e) (down_pos g)) (mul-pos C D)
    (diff-cross (m * up e) (down e) (n * up g) (down g) a c b d p.3 q.3)
