-- The laws of keys: a key of at most 32 bytes packs into words that are right, and no two such keys pack into the same words.
-- Assumes nothing.
use Rattle.std.specs.Prelude.{◌≡◌, true, List, ℕ, zero, suc, ◌+◌, ◌-◌, ◌*◌, ◌^◌, ◌≤◌, ◌<◌, min, length, get_or}
use Rattle.std.proofs.Common.{sym, ap, ◌∙◌, add-zero, arith, ext_get_or, lt-ltb, le-leb}
use Rattle.std.proofs.Math.Nat.{pow-succ', one-le-pow}
use Rattle.std.proofs.Math.Decide.{dec_lt}
use Rattle.std.proofs.Math.ListN.{get_or-eq_default}
use Rattle.keys.specs.declared.Key.{Key}
use Rattle.keys.specs.Keys.{pack, key_of, unused_zero, key_fits}

-- ---- numbers by their bytes

-- n bytes, the first one lowest
unfoldable pub digits : (ℕ → ℕ) → ℕ → ℕ
digits f zero = 0
digits f (suc n) = f 0 + 256 * digits (λ i. f (suc i)) n

pub pack-digits : (key : List ℕ) (i : ℕ) → pack key i ≡ digits (λ j. get_or key (i + j) 0) 8
unfolding digits
pack-digits key i = rw (add-zero i) (omega arith)

-- bytes from m on are 0: so the number is below 256 to the m
pub digits-below : (n m : ℕ) (f : ℕ → ℕ) → ((j : ℕ) → f j < 256) → ((j : ℕ) → m ≤ j → j < n → f j ≡ 0) → digits f n < 256 ^ m
unfolding digits
digits-below zero m f h z = one-le-pow m 256 (omega arith)
digits-below (suc n) zero f h z =
    let r : digits (λ i. f (suc i)) n < 256 ^ 0 = digits-below n zero (λ i. f (suc i)) (λ j. h (suc j)) (λ j p q. z (suc j) (omega arith) (omega arith)) in
    omega (arith, z 0 (omega arith) (omega arith))
digits-below (suc n) (suc m) f h z =
    let r : digits (λ i. f (suc i)) n < 256 ^ m = digits-below n m (λ i. f (suc i)) (λ j. h (suc j)) (λ j p q. z (suc j) (omega arith) (omega arith)) in
    omega (arith, h 0, pow-succ' 256 m)

-- the same number: the same bytes
pub digits_same : (n : ℕ) (f g : ℕ → ℕ) → ((j : ℕ) → f j < 256) → ((j : ℕ) → g j < 256) → digits f n ≡ digits g n → (j : ℕ) → j < n → f j ≡ g j
unfolding digits
digits_same zero f g hf hg e j l = absurd (omega arith)
digits_same (suc n) f g hf hg e zero l =
    let r : digits (λ i. f (suc i)) n ≡ digits (λ i. g (suc i)) n = omega (arith, hf 0, hg 0) in
    omega arith
digits_same (suc n) f g hf hg e (suc j) l =
    let r : digits (λ i. f (suc i)) n ≡ digits (λ i. g (suc i)) n = omega (arith, hf 0, hg 0) in
    digits_same n (λ i. f (suc i)) (λ i. g (suc i)) (λ i. hf (suc i)) (λ i. hg (suc i)) r j (omega arith)

-- ---- keys

abbrev pub Bytes : List ℕ → Type 0
Bytes key = (i : ℕ) → get_or key i 0 < 256

packed-within : (key : List ℕ) (i : ℕ) → Bytes key → unused_zero (length key) i (pack key i) ≡ true
unfolding unused_zero
packed-within key i h =
    lt-ltb (pack key i) (256 ^ min 8 (length key - i))
    (rw (pack-digits key i) (digits-below 8 (min 8 (length key - i)) (λ j. get_or key (i + j) 0) (λ j. h (i + j))
    (λ j p q. get_or-eq_default key 0 (omega arith))))

-- a key of at most 32 bytes packs into a right key
pub key-fits : (m : ℕ) (key : List ℕ) → Bytes key → length key ≤ 32 → key_fits (key_of m key) ≡ true
unfolding key_fits key_of
key-fits m key h l = rw (le-leb (length key) 32 l, packed-within key 0 h, packed-within key 8 h, packed-within key 16 h, packed-within key 24 h)

-- word i of both the same: so are the bytes
packed-same : (a b : List ℕ) (i : ℕ) → Bytes a → Bytes b → pack a i ≡ pack b i → (j : ℕ) → j < 8 → get_or a (i + j) 0 ≡ get_or b (i + j) 0
packed-same a b i ha hb e j l =
    digits_same 8 (λ j. get_or a (i + j) 0) (λ j. get_or b (i + j) 0) (λ j. ha (i + j)) (λ j. hb (i + j)) (sym (pack-digits a i) ∙ e ∙ pack-digits b i) j l

-- no two keys of at most 32 bytes pack into the same words, nor does one key of the two parties
pub key-held : (m n : ℕ) (a b : List ℕ) → key_of m a ≡ key_of n b → m ≡ n
unfolding key_of
key-held m n a b e = ap (λ (k : Key). k.holder) e

pub key-injective : (m n : ℕ) (a b : List ℕ) → Bytes a → Bytes b → length a ≤ 32 → length b ≤ 32 → key_of m a ≡ key_of n b → a ≡ b
unfolding key_of
key-injective m n a b ha hb la lb e = ext_get_or 0 a b (ap (λ (k : Key). k.len) e) (λ j l. byte j (omega arith))
  where
    at : (i j : ℕ) → pack a i ≡ pack b i → i ≤ j → j < i + 8 → get_or a j 0 ≡ get_or b j 0
    at i j q h l =
        let n : i + (j - i) ≡ j = omega arith in
        rw n at (packed-same a b i ha hb q (j - i) (omega arith))

    byte : (j : ℕ) → j < 32 → get_or a j 0 ≡ get_or b j 0
    byte j l = one (dec_lt j 8)
      where
        three : Dec (j < 24) → 16 ≤ j → get_or a j 0 ≡ get_or b j 0
        three (yes p) h = at 16 j (ap (λ (k : Key). k.c) e) h (omega arith)
        three (no p) h = at 24 j (ap (λ (k : Key). k.d) e) (omega arith) (omega arith)

        two : Dec (j < 16) → 8 ≤ j → get_or a j 0 ≡ get_or b j 0
        two (yes p) h = at 8 j (ap (λ (k : Key). k.b) e) h (omega arith)
        two (no p) h = three (dec_lt j 24) (omega arith)

        one : Dec (j < 8) → get_or a j 0 ≡ get_or b j 0
        one (yes p) = at 0 j (ap (λ (k : Key). k.a) e) (omega arith) (omega arith)
        one (no p) = two (dec_lt j 16) (omega arith)
