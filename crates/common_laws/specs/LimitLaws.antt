-- The laws of limits that the limiters cite: a limit that a call stores is sound, the soft limit is no more than the hard one, two sound words are equal
-- exactly when their numbers are,
-- and the rate that is read back from a sound word is finite and above zero. Assumes nothing.
use Rattle.std.specs.Prelude.{◌≡◌, refl, Bool, true, false, not, ◌&&◌, cond, ◌||◌, ℕ, ◌+◌, ◌-◌, ◌*◌, ◌/◌, ◌^◌, ◌≤◌, ◌<◌, ℤ, pos, T, eqb, Float}
use Rattle.std.proofs.Common.{sym, ap, subst, ◌∙◌, true≢false, zero-le, le_trans, le_of_eq, le_antisymm, mul_right_comm, mul-pos, zero-lt-suc, arith, eqb→eq, lit≤, pow_pos, eq-eqb}
use Rattle.std.proofs.Math.Dec.{eqb_refl}
use Rattle.std.specs.Float.{nan, inf, fin, binary64}
use Rattle.std.specs.Float.Ieee.{prec, low, up, down, hid, size, mul, div, le, lt, eq, round, of_int, of_bits, to_bits, is_nan, fits, to_unsigned}
use Rattle.std.specs.Float.Ieee.Bits.{is_true, of_bits-to_bits, to_bits-of_bits, of_bits-fits}
use Rattle.std.specs.Float.Ieee.Fits.{and_l, and_r, down_pos, mul-fits, div-fits}
use Rattle.std.specs.Float.Ieee.Nearest.{div_mono}
use Rattle.std.specs.Float.Ieee.Scale.{finite}
use denote.Floats.{passes}
use Rattle.common.specs.Ranges.{nil, one, least, most, factor_ok, rate_ok}
use Rattle.common.specs.Limits.{absolute_limit, hard_limit, absolute_word, hard_word, cut_word, soft_word, divided_back, limit_ok, rate_back}
use Rattle.common_laws.specs.Floats.Bounds.{plain, round-shape, Low, held_whole, round-low, le-of-bounds}
use Rattle.common_laws.specs.Floats.Factor.{count-shape}
use Rattle.common_laws.specs.Floats.Ops.{mul_is}
use Rattle.common_laws.specs.Floats.Order.{to_unsigned-mono}
use Rattle.common_laws.specs.Floats.Soft.{ge-one, finite-of-le, divided}
use Rattle.common_laws.specs.Floats.Stored.{window, absolute-back, hard-back}

-- ---- what a factor in range is
pub record Factor (F : Float) : Type 0 where
  pub double : T (fits binary64 F)
  pub finite : T (finite F)
  pub from : T (le one F)

pub factor-in : (F : Float) → factor_ok F ≡ true → Factor F
unfolding factor_ok
factor-in F e =
    let t = passes (fits binary64 F && (le one F && le F most)) e in
    let r = and_r (fits binary64 F) (le one F && le F most) t in
    let l = and_l (le one F) (le F most) r in
    record {
      double = and_l (fits binary64 F) (le one F && le F most) t;
      finite = finite-of-le F false 9007199254740991 (pos 971) l (and_r (le one F) (le F most) r);
      from = l;
    }

-- ---- a stored limit is sound
rate-from : (rate : Float) → rate_ok rate ≡ true → T (le least rate)
unfolding rate_ok
rate-from rate e = and_l (le least rate) (le rate most) (passes (le least rate && le rate most) e)

stored : (W : ℕ) (F x : Float) → T (fits binary64 x) → T (lt nil (div binary64 (div binary64 x (of_int binary64 (pos W))) F)) →
    limit_ok W F (to_bits binary64 x) ≡ true
unfolding limit_ok
stored W F x t h = rw (of_bits-to_bits binary64 x t) (is_true _ h)

pub absolute-ok : (rate : Float) (W : ℕ) → rate_ok rate ≡ true → 1 ≤ W → W ≤ 33554432 → limit_ok W one (absolute_word rate W) ≡ true
unfolding absolute_word
absolute-ok rate W r p q = stored W one (absolute_limit rate W) (mul-fits binary64 rate _) (absolute-back rate W (rate-from rate r) p q)

pub hard-ok : (rate F : Float) (W : ℕ) → rate_ok rate ≡ true → factor_ok F ≡ true → 1 ≤ W → W ≤ 33554432 → limit_ok W F (hard_word rate F W) ≡ true
unfolding hard_word
hard-ok rate F W r f p q =
    let i = factor-in F f in
    stored W F (hard_limit rate F W) (mul-fits binary64 (mul binary64 rate F) _) (hard-back rate F W (rate-from rate r) i.double i.finite i.from p q)

-- ---- a rate of 1 per second: its absolute limit is at least 1, whatever the window
pub one-rate : rate_ok one ≡ true
unfolding rate_ok le
one-rate = refl

one-low : (W : ℕ) → 1 ≤ W → W ≤ 33554432 → Low (absolute_limit one W) 1 1
one-low W p q =
    let c = count-shape binary64 W p (le_trans q (lit≤ tt)) in
    let e : absolute_limit one W ≡ round binary64 false (1 * up (pos 0) * (c.0 * up c.1)) (down (pos 0) * down c.1) =
    ap (mul binary64 one) c.2 ∙ mul_is binary64 1 (pos 0) c.0 c.1 in
    subst (λ (x : Float). Low x 1 1) (sym e)
    (round-low binary64 (1 * up (pos 0) * (c.0 * up c.1)) (down (pos 0) * down c.1) 1 1 (mul-pos (down_pos (pos 0)) (down_pos c.1))
    (zero-lt-suc 0) (held_whole binary64 1 (pow_pos (prec binary64))) (omega (arith, c.3)))

one-cut : 1 ≤ to_unsigned 64 one
unfolding to_unsigned
one-cut = omega arith

pub one-limit : (W : ℕ) → 1 ≤ W → W ≤ 33554432 → 1 ≤ cut_word (absolute_word one W)
unfolding absolute_word cut_word
one-limit W p q =
    let x : Float = absolute_limit one W in
    let m : to_unsigned 64 one ≤ to_unsigned 64 x =
    to_unsigned-mono 64 one x (le-of-bounds one x 1 1 (zero-lt-suc 0) (tt, omega arith) (one-low W p q)) in
    subst (λ (y : Float). 1 ≤ to_unsigned 64 y) (sym (of_bits-to_bits binary64 x (mul-fits binary64 one (of_int binary64 (pos W))))) (omega (arith, one-cut, m))

-- ---- numbers that are no limit: a NaN, or the sign is set
abbrev minus : Float → Bool
minus nan = true
minus (inf s) = s
minus (fin s m e) = s

minus-or-plain : (x : Float) → minus x ≡ false → T (plain x)
minus-or-plain nan e = absurd (true≢false e)
minus-or-plain (inf s) e = subst (λ (t : Bool). T (not t)) (sym e) tt
minus-or-plain (fin s m e) h = subst (λ (t : Bool). T (not t)) (sym h) tt

pick : (b : Bool) (x y : Float) → T (minus x) → T (minus y) → T (minus (cond b x y))
pick true x y p q = p
pick false x y p q = q

div-minus : (x : Float) (n : ℕ) (d : ℤ) → T (minus x) → T (minus (div binary64 x (fin false n d)))
unfolding div
div-minus nan n d t = tt
div-minus (inf false) n d t = absurd t
div-minus (inf true) n d t = tt
div-minus (fin false m e) n d t = absurd t
div-minus (fin true m e) n d t =
    pick (eqb n 0) _ _ (pick (eqb m 0) nan (inf true) tt tt)
    (round-shape (λ (x : Float). T (minus x)) binary64 true (m * up e * down d) (n * up d * down e) (λ a b. tt) tt)

cut-minus : (x : Float) → T (minus x) → to_unsigned 64 x ≡ 0
unfolding to_unsigned
cut-minus nan t = refl
cut-minus (inf false) t = absurd t
cut-minus (inf true) t = refl
cut-minus (fin false m e) t = absurd t
cut-minus (fin true m e) t = refl

not-above : (x : Float) → T (minus x) → T (lt nil x) → ⊥
unfolding lt
not-above nan t h = h
not-above (inf false) t h = t
not-above (inf true) t h = h
not-above (fin false m e) t h = t
not-above (fin true m e) t h = h

-- ---- soft and hard
pub soft-le-hard : (F : Float) (n : ℕ) → factor_ok F ≡ true → soft_word F n ≤ cut_word n
unfolding soft_word cut_word
soft-le-hard F n f = go (minus x) refl
  where
    x : Float
    x = of_bits binary64 n

    go : (b : Bool) → minus (of_bits binary64 n) ≡ b → to_unsigned 64 (div binary64 (of_bits binary64 n) F) ≤ to_unsigned 64 (of_bits binary64 n)
    go true e =
        let i = factor-in F f in
        let s = ge-one F i.finite i.from in
        let z : T (minus (div binary64 (of_bits binary64 n) F)) =
        subst (λ (y : Float). T (minus (div binary64 (of_bits binary64 n) y))) (sym s.2) (div-minus (of_bits binary64 n) s.0 s.1 (passes _ e)) in
        le_trans (le_of_eq (cut-minus _ z)) zero-le
    go false e =
        let i = factor-in F f in
        let s = ge-one F i.finite i.from in
        let d = divided binary64 (of_bits binary64 n) s.0 s.1 s.3 (of_bits-fits binary64 n) (minus-or-plain (of_bits binary64 n) e) in
        subst (λ (y : Float). to_unsigned 64 (div binary64 (of_bits binary64 n) y) ≤ to_unsigned 64 (of_bits binary64 n)) (sym s.2)
        (to_unsigned-mono 64 _ _ d.1)

-- ---- a sound word
limit-plain : (W : ℕ) (F : Float) (n : ℕ) → 1 ≤ W → W ≤ 33554432 → factor_ok F ≡ true → limit_ok W F n ≡ true → T (plain (of_bits binary64 n))
unfolding limit_ok
limit-plain W F n p q f h = go (minus (of_bits binary64 n)) refl
  where
    go : (b : Bool) → minus (of_bits binary64 n) ≡ b → T (plain (of_bits binary64 n))
    go false e = minus-or-plain (of_bits binary64 n) e
    go true e =
        let i = factor-in F f in
        let s = ge-one F i.finite i.from in
        let v = window W p q in
        let a : T (minus (div binary64 (of_bits binary64 n) (of_int binary64 (pos W)))) =
        subst (λ (y : Float). T (minus (div binary64 (of_bits binary64 n) y))) (sym v.2.is) (div-minus (of_bits binary64 n) v.0 v.1 (passes _ e)) in
        let b : T (minus (divided_back W F n)) =
        subst (λ (y : Float). T (minus (div binary64 (div binary64 (of_bits binary64 n) (of_int binary64 (pos W))) y))) (sym s.2)
        (div-minus _ s.0 s.1 a) in
        absurd (not-above (divided_back W F n) b (passes _ h))

-- ---- the old rate
plain-under : (y : Float) (m : ℕ) (e : ℤ) → T (plain y) → T (le y (fin false m e)) → T (finite y)
unfolding le
plain-under nan m e p h = absurd p
plain-under (inf true) m e p h = absurd p
plain-under (inf false) m e p h = absurd h
plain-under (fin s a b) m e p h = tt

-- a quotient of a finite number by one of 1 at least
quotient : (x : Float) (n : ℕ) (d : ℤ) → down d ≤ n * up d → T (fits binary64 x) → T (plain x) → T (finite x) →
    T (plain (div binary64 x (fin false n d))) × T (finite (div binary64 x (fin false n d)))
quotient nan n d g t p i = absurd i
quotient (inf s) n d g t p i = absurd i
quotient (fin true m e) n d g t p i = absurd p
quotient (fin false m e) n d g t p i = let r = divided binary64 (fin false m e) n d g t p in (r.0, plain-under _ m e r.0 r.1)

finite-back : (W : ℕ) (F : Float) (n : ℕ) → 1 ≤ W → W ≤ 33554432 → factor_ok F ≡ true → T (plain (of_bits binary64 n)) → T (finite (of_bits binary64 n)) →
    T (finite (divided_back W F n))
finite-back W F n p q f a b =
    let i = factor-in F f in
    let s = ge-one F i.finite i.from in
    let v = window W p q in
    let x = of_bits binary64 n in
    let u = quotient x v.0 v.1 v.2.from (of_bits-fits binary64 n) a b in
    let y = div binary64 x (of_int binary64 (pos W)) in
    let k : T (plain y) × T (finite y) = subst (λ (z : Float). T (plain (div binary64 x z)) × T (finite (div binary64 x z))) (sym v.2.is) u in
    subst (λ (z : Float). T (finite (div binary64 y z))) (sym s.2) (quotient y s.0 s.1 s.3 (div-fits binary64 x _) k.0 k.1).1

finite-or-inf : (x : Float) → T (plain x) → eq x (inf false) ≡ false → T (finite x)
unfolding eq
finite-or-inf nan p e = absurd p
finite-or-inf (inf true) p e = absurd p
finite-or-inf (inf false) p e = absurd (true≢false e)
finite-or-inf (fin s m d) p e = tt

or-false : (a b : Bool) → a || b ≡ false → b ≡ false
or-false true b e = absurd (true≢false e)
or-false false b e = e

most-above : T (lt nil most)
unfolding lt
most-above = tt

-- where the Rust unwraps the rate it has worked out, there is one
pub rate-back-valid : (W : ℕ) (F : Float) (n : ℕ) → 1 ≤ W → W ≤ 33554432 → factor_ok F ≡ true → limit_ok W F n ≡ true →
    T (lt nil (rate_back W F n)) × T (finite (rate_back W F n))
unfolding rate_back limit_ok
rate-back-valid W F n p q f h = go (eq (of_bits binary64 n) most || eq (of_bits binary64 n) (inf false)) refl
  where
    go : (b : Bool) → (eq (of_bits binary64 n) most || eq (of_bits binary64 n) (inf false)) ≡ b →
        T (lt nil (cond b most (divided_back W F n))) × T (finite (cond b most (divided_back W F n)))
    go true e = (most-above, tt)
    go false e =
        let a = limit-plain W F n p q f h in
        (passes _ h, finite-back W F n p q f a (finite-or-inf (of_bits binary64 n) a (or-false (eq (of_bits binary64 n) most) _ e)))

-- ---- two limits are the same number exactly when their words are equal
quot-same : (a e b d l : ℕ) → 0 < e → 0 < d → a * d ≡ b * e → a * l / e ≡ b * l / d
quot-same a e b d l E D h =
    let r : a * l * d ≡ b * l * e = mul_right_comm a l d ∙ ap (λ (z : ℕ). z * l) h ∙ mul_right_comm b e l in
    le_antisymm (div_mono (a * l) e (b * l) d E D (le_of_eq r)) (div_mono (b * l) d (a * l) e D E (le_of_eq (sym r)))

bits-same : (x y : Float) → T (plain x) → T (plain y) → T (eq x y) → to_bits binary64 x ≡ to_bits binary64 y
unfolding eq to_bits
bits-same nan y p q h = absurd p
bits-same (inf true) y p q h = absurd p
bits-same (inf false) nan p q h = absurd q
bits-same (inf false) (inf true) p q h = absurd q
bits-same (inf false) (inf false) p q h = refl
bits-same (inf false) (fin s m e) p q h = absurd h
bits-same (fin true m e) y p q h = absurd p
bits-same (fin false m e) nan p q h = absurd q
bits-same (fin false m e) (inf s) p q h = absurd h
bits-same (fin false m e) (fin true n d) p q h = absurd q
bits-same (fin false m e) (fin false n d) p q h =
    let z : m * up e * 2 ^ low binary64 / down e ≡ n * up d * 2 ^ low binary64 / down d =
    quot-same (m * up e) (down e) (n * up d) (down d) (2 ^ low binary64) (down_pos e) (down_pos d)
    (eqb→eq (m * up e * down d) (n * up d * down e) (and_l (eqb (m * up e * down d) (n * up d * down e)) _ h)) in
    ap (λ (k : ℕ). 0 + (size k - prec binary64) * hid binary64 + k / 2 ^ (size k - prec binary64)) z

eq_self : (x : Float) → T (plain x) → T (eq x x)
unfolding eq
eq_self nan p = absurd p
eq_self (inf true) p = absurd p
eq_self (inf false) p = tt
eq_self (fin true m e) p = absurd p
eq_self (fin false m e) p = both (eqb (m * up e * down e) (m * up e * down e)) (eqb_refl (m * up e * down e))
  where
    both : (b : Bool) → T b → T (b && true)
    both true t = tt
    both false t = t

plain-no-nan : (x : Float) → T (plain x) → T (not (is_nan x))
unfolding is_nan
plain-no-nan nan p = absurd p
plain-no-nan (inf s) p = tt
plain-no-nan (fin s m e) p = tt

same_bool : (a b : Bool) → (T a → T b) → (T b → T a) → a ≡ b
same_bool true true p q = refl
same_bool true false p q = absurd (p tt)
same_bool false true p q = absurd (q tt)
same_bool false false p q = refl

pub same-limit : (W : ℕ) (F : Float) (n m : ℕ) → 1 ≤ W → W ≤ 33554432 → factor_ok F ≡ true → n < 2 ^ 64 → m < 2 ^ 64 → limit_ok W F n ≡ true →
    limit_ok W F m ≡ true
    → eq (of_bits binary64 n) (of_bits binary64 m) ≡ eqb n m
same-limit W F n m p q f a b h k =
    let x = limit-plain W F n p q f h in
    let y = limit-plain W F m p q f k in
    let back : (i : ℕ) → i < 2 ^ 64 → T (plain (of_bits binary64 i)) → to_bits binary64 (of_bits binary64 i) ≡ i =
    λ i l z. to_bits-of_bits binary64 i l (plain-no-nan (of_bits binary64 i) z) in
    same_bool (eq (of_bits binary64 n) (of_bits binary64 m)) (eqb n m)
    (λ t. passes (eqb n m) (eq-eqb n m (sym (back n a x) ∙ bits-same (of_bits binary64 n) (of_bits binary64 m) x y t ∙ back m b y)))
    (λ t. subst (λ (i : ℕ). T (eq (of_bits binary64 n) (of_bits binary64 i))) (eqb→eq n m t) (eq_self (of_bits binary64 n) x))
