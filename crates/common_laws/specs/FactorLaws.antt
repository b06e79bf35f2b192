-- The laws of the factor and the draw that the limiters cite: a factor that is worked out lies in 0 to 1, so its word is sound; the scaled chance is a
-- whole number and the comparison with a draw is exact; the perceived rate is zero exactly where nothing was counted, and the factor is 0 there.
-- Assumes nothing.
use Rattle.std.specs.Prelude.{◌≡◌, refl, Bool, true, false, ◌&&◌, cond, ℕ, zero, suc, ◌+◌, ◌*◌, ◌/◌, ◌%◌, ◌^◌, ◌≤◌, ◌<◌, ℤ, pos, T, leb, ltb, eqb, Float}
use Rattle.std.proofs.Common.{sym, ap, subst, ◌∙◌, zero-le, le_trans, le_of_lt, lt_of_lt_of_le, zero-mul, mul-one, mul-pos, zero-lt-suc, arith, lit≤, ltb→lt, eqb→eq, lt-ltb, le-ltb, ne_eqb, leb-false}
use Rattle.std.specs.Float.{nan, inf, fin, binary64}
use Rattle.std.specs.Float.Ieee.{prec, hid, ones, top, low, up, down, odd, round, sub, mul, div, le, lt, eq, of_int, of_fields, of_bits, to_bits, fits, to_unsigned}
use Rattle.std.specs.Float.Ieee.Bits.{of_bits-to_bits}
use Rattle.std.specs.Float.Ieee.Fits.{and_l, and_r, up_pos, down_pos, sub-fits}
use Rattle.std.specs.Float.Ieee.Back.{whole_unique}
use Rattle.std.specs.Float.Ieee.Positive.{first_pos}
use Rattle.std.specs.Float.Ieee.Scale.{round_same}
use denote.Floats.{passes}
use Rattle.common.specs.Ranges.{nil, one}
use Rattle.suppression.specs.Factor.{average, perceived, fresh_factor, Unit01, factor_word_ok, chance, odds, admitted}
use Rattle.common_laws.specs.Floats.Bounds.{plain, Upp, odd_shape}
use Rattle.common_laws.specs.Floats.Draw.{odds-exact, draw-lt, odds-nil, odds-one}
use Rattle.common_laws.specs.Floats.Factor.{perceived-any, nil-upp, fresh-upp, unit-of-upp}
use Rattle.common_laws.specs.Floats.Ops.{div_is}
use Rattle.common_laws.specs.Floats.Stored.{window}

-- ---- a word whose number has its sign clear is below 2 ^ 63
minus-fields : (y t : ℕ) → T (plain (of_fields binary64 true y t)) → ⊥
unfolding of_fields
minus-fields zero t p = odd_shape (λ (x : Float). T (plain x) → ⊥) true (λ m e h. h) (prec binary64) t 0 (low binary64) p
minus-fields (suc y) t p = go (eqb (suc y) (ones binary64)) (eqb t 0) p
  where
    go : (a b : Bool) → T (plain (cond a (cond b (inf true) nan) (odd (prec binary64) true (hid binary64 + t) y (low binary64)))) → ⊥
    go true true h = h
    go true false h = h
    go false b h = odd_shape (λ (x : Float). T (plain x) → ⊥) true (λ m e k. k) (prec binary64) (hid binary64 + t) y (low binary64) h

clear-word : (n : ℕ) → T (plain (of_bits binary64 n)) → n < 2 ^ 63
unfolding of_bits
clear-word n p = go (leb (top binary64) n) refl p
  where
    go : (b : Bool) → leb (top binary64) n ≡ b → T (plain (of_fields binary64 b (n % top binary64 / hid binary64) (n % hid binary64))) → n < 2 ^ 63
    go true e h = absurd (minus-fields (n % top binary64 / hid binary64) (n % hid binary64) h)
    go false e h = leb-false (top binary64) n e

-- ---- the perceived rate
no-rate : (x : Float) → T (lt nil x) → eq x nil ≡ false
unfolding lt eq
no-rate nan h = refl
no-rate (inf s) h = refl
no-rate (fin true m e) h = absurd h
no-rate (fin false m e) h = differs (m * up e * 1) (0 * 1 * down e) (ltb→lt (0 * 1 * down e) (m * up e * 1) h)
  where
    differs : (a b : ℕ) → b < a → eqb a b && true ≡ false
    differs a b l = rw (ne_eqb a b (λ z. omega arith))

zero-average : (W : ℕ) → 1 ≤ W → W ≤ 33554432 → average 0 W ≡ nil
unfolding of_int round
zero-average W p q =
    let v = window W p q in
    let w = v.0 in
    let g = v.1 in
    let c : 0 < w = first_pos w (up g) (lt_of_lt_of_le (down_pos g) v.2.from) in
    ap (div binary64 (of_int binary64 (pos 0))) v.2.is ∙
    div_is binary64 0 (pos 0) w g c ∙
    round_same binary64 false (0 * 1 * down g) (w * up g * 1) 0 1 (mul-pos (mul-pos c (up_pos g)) (zero-lt-suc 0)) (zero-lt-suc 0)
    (mul-one (0 * 1 * down g) ∙ zero-mul (down g) ∙ sym (zero-mul (w * up g * 1)))

zero-rate : (W : ℕ) → 1 ≤ W → W ≤ 33554432 → eq (perceived 0 W 0) nil ≡ true
unfolding of_int round lt eq
zero-rate W p q = rw (zero-average W p q)

some-rate : (total W last : ℕ) → 0 < total → last ≤ 2 ^ 53 → total ≤ 2 ^ 53 → 1 ≤ W → W ≤ 33554432 → eq (perceived total W last) nil ≡ false
some-rate total W last s l n p q =
    no-rate _ (perceived-any 0 total W last zero-le s (le_trans n (lit≤ tt)) p (le_trans q (lit≤ tt)) (le_trans l (lit≤ tt))).2

-- zero exactly where nothing was counted
pub rate-zero : (total W last : ℕ) → last ≤ total → total ≤ 2 ^ 53 → 1 ≤ W → W ≤ 33554432 → eq (perceived total W last) nil ≡ eqb total 0
rate-zero zero W zero l n p q = zero-rate W p q
rate-zero zero W (suc last) l n p q = absurd (omega arith)
rate-zero (suc total) W last l n p q =
    some-rate (suc total) W last (zero-lt-suc total) (le_trans l n) n p q ∙ sym (ne_eqb (suc total) 0 (λ z. omega arith))

-- ---- the fresh factor
upp-plain : (x : Float) → Upp x 1 1 → T (plain x)
upp-plain nan u = absurd u
upp-plain (inf s) u = absurd u
upp-plain (fin s m e) u = u.0

and3 : (a b c : Bool) → a ≡ true → T b → T c → a && (b && c) ≡ true
and3 true true true e p q = refl
and3 true true false e p q = absurd q
and3 true false c e p q = absurd p
and3 false b c e p q = e

pub record Counted (S total W last : ℕ) : Type 0 where
  pub soft : S ≤ total
  pub few : total ≤ 2 ^ 53
  pub from : 1 ≤ W
  pub to : W ≤ 33554432
  pub newest : last ≤ total

-- 0 where nothing was counted, so at a zero perceived rate ..
pub fresh-none : (S W : ℕ) → 1 ≤ W → W ≤ 33554432 → fresh_factor S 0 W 0 ≡ nil
unfolding fresh_factor
fresh-none S W p q = rw (zero-rate W p q)

-- .. and worked out everywhere else, with or without a count in the last second
pub fresh-some : (S total W last : ℕ) → 0 < total → Counted S total W last →
    fresh_factor S total W last ≡ sub binary64 one (div binary64 (average S W) (perceived total W last))
unfolding fresh_factor
fresh-some S total W last n k = rw (some-rate total W last n (le_trans k.newest k.few) k.few k.from k.to)

counted-upp : (S total W last : ℕ) → Counted S total W last → Upp (fresh_factor S total W last) 1 1
counted-upp S zero W zero k = subst (λ (x : Float). Upp x 1 1) (sym (fresh-none S W k.from k.to)) nil-upp
counted-upp S zero W (suc last) k = let n : suc last ≤ 0 = k.newest in absurd (omega arith)
counted-upp S (suc total) W last k =
    fresh-upp S (suc total) W last k.soft (zero-lt-suc total) (le_trans k.few (lit≤ tt)) k.from (le_trans k.to (lit≤ tt))
    (le_trans k.newest (le_trans k.few (lit≤ tt)))

pub fresh-unit : (S total W last : ℕ) → Counted S total W last → Unit01 (fresh_factor S total W last)
fresh-unit S total W last k = unit-of-upp (fresh_factor S total W last) (counted-upp S total W last k)

-- a factor that is stored is sound, and is the same when it is read again
word_ok : (x : Float) → T (fits binary64 x) → Upp x 1 1 → factor_word_ok (to_bits binary64 x) ≡ true
unfolding factor_word_ok
word_ok x t u =
    let b = of_bits-to_bits binary64 x t in
    let c = clear-word (to_bits binary64 x) (subst (λ (y : Float). T (plain y)) (sym b) (upp-plain x u)) in
    let v = unit-of-upp x u in
    rw b (and3 _ (le nil x) (le x one) (lt-ltb _ _ c) v.0 v.1)

either-fits : (b : Bool) (x : Float) → T (fits binary64 x) → T (fits binary64 (cond b nil x))
unfolding fits
either-fits true x t = tt
either-fits false x t = t

pub fresh-fits : (S total W last : ℕ) → T (fits binary64 (fresh_factor S total W last))
unfolding fresh_factor
fresh-fits S total W last =
    let share = div binary64 (average S W) (perceived total W last) in
    either-fits (eq (perceived total W last) nil) (sub binary64 one share) (sub-fits binary64 one share)

pub fresh_ok : (S total W last : ℕ) → Counted S total W last → factor_word_ok (to_bits binary64 (fresh_factor S total W last)) ≡ true
fresh_ok S total W last k = word_ok (fresh_factor S total W last) (fresh-fits S total W last) (counted-upp S total W last k)

-- ---- the draw
pub factor-unit : (n : ℕ) → factor_word_ok n ≡ true → Unit01 (of_bits binary64 n)
unfolding factor_word_ok
factor-unit n e =
    let r = and_r (ltb n (2 ^ 63)) _ (passes (ltb n (2 ^ 63) && (le nil (of_bits binary64 n) && le (of_bits binary64 n) one)) e) in
    (and_l (le nil (of_bits binary64 n)) _ r, and_r (le nil (of_bits binary64 n)) _ r)

-- "That product is a whole number": odds, from 0 to 2^53
pub chance-whole : (x : Float) → T (fits binary64 x) → Unit01 x → (chance x ≡ of_int binary64 (pos (odds x))) × (odds x ≤ 2 ^ 53)
chance-whole x t u = odds-exact x t u

-- the two numbers that are tested first
pub odds-minus : odds (fin true 0 (pos 0)) ≡ 2 ^ 53
unfolding odds to_unsigned mul sub
odds-minus = refl

zero-odds : (x : Float) → T (fits binary64 x) → T (eq x nil) → odds x ≡ 2 ^ 53
unfolding eq fits
zero-odds nan f h = absurd h
zero-odds (inf s) f h = absurd h
zero-odds (fin true m e) f h =
    ap odds (whole_unique binary64 (fin true m e) (fin true 0 (pos 0)) true 0 f tt
    (refl, eqb→eq (m * up e * 1) (0 * down e) (and_l (eqb (m * up e * 1) (0 * down e)) _ h)) (refl, refl)) ∙ odds-minus
zero-odds (fin false m e) f h =
    ap odds (whole_unique binary64 (fin false m e) nil false 0 f tt (refl, eqb→eq (m * up e * 1) (0 * down e) (and_l (eqb (m * up e * 1) (0 * down e)) _ h))
    (refl, refl)) ∙ odds-nil

one-pos : (e : ℤ) → 1 * down e ≡ 0 → ⊥
one-pos e h = let p = mul-pos (zero-lt-suc 0) (down_pos e) in omega (arith, p)

one-odds : (x : Float) → T (fits binary64 x) → T (eq x one) → odds x ≡ 0
unfolding eq fits
one-odds nan f h = absurd h
one-odds (inf s) f h = absurd h
one-odds (fin true m e) f h =
    let a = eqb→eq (m * up e * 1) (1 * down e) (and_l (eqb (m * up e * 1) (1 * down e)) _ h) in
    let z = eqb→eq (m * up e * 1) 0 (and_r (eqb (m * up e * 1) (1 * down e)) (eqb (m * up e * 1) 0) h) in
    absurd (one-pos e (sym a ∙ z))
one-odds (fin false m e) f h =
    ap odds (whole_unique binary64 (fin false m e) one false 1 f tt (refl, eqb→eq (m * up e * 1) (1 * down e) (and_l (eqb (m * up e * 1) (1 * down e)) _ h))
    (refl, refl)) ∙ odds-one

-- the draw decides by a comparison of whole numbers, at the factors 0 and 1 too
pub admitted-is : (x : Float) (draw : ℕ) → T (fits binary64 x) → Unit01 x → draw < 2 ^ 53 → admitted x draw ≡ ltb draw (odds x)
unfolding admitted
admitted-is x draw t u d = go (eq x nil) (eq x one) refl refl
  where
    go : (a b : Bool) → eq x nil ≡ a → eq x one ≡ b → cond a true (cond b false (lt (of_int binary64 (pos draw)) (chance x))) ≡ ltb draw (odds x)
    go true b p q = sym (ap (ltb draw) (zero-odds x t (passes _ p)) ∙ lt-ltb draw (2 ^ 53) d)
    go false true p q = sym (ap (ltb draw) (one-odds x t (passes _ q)) ∙ le-ltb draw 0 zero-le)
    go false false p q = draw-lt x draw t u (le_of_lt d)

-- "Factor 0 admits"
pub nil-admits : (draw : ℕ) → admitted nil draw ≡ true
unfolding admitted eq
nil-admits draw = refl

-- ---- the words of 0 and 1
abbrev pub nil_word : ℕ
nil_word = 0

abbrev pub one_word : ℕ
one_word = 4607182418800017408

pub nil-ok : factor_word_ok nil_word ≡ true
unfolding factor_word_ok le of_bits
nil-ok = refl

pub one_ok : factor_word_ok one_word ≡ true
unfolding factor_word_ok le of_bits
one_ok = refl

pub nil-word : of_bits binary64 nil_word ≡ nil
unfolding of_bits
nil-word = refl

pub one-word : of_bits binary64 one_word ≡ one
unfolding of_bits
one-word = refl
