-- What a byte of a line is. 01: "Each byte of a line is classed by its range: digit, small letter, separator or bad."
-- Assumes nothing.
use Rattle.std.specs.Prelude.{◌≡◌, refl, Bool, true, false, cond, ◌&&◌, ◌||◌, ◌⊎◌, ℕ, ◌+◌, ◌-◌, ◌≤◌, ◌<◌, leb, eqb}
use Rattle.std.proofs.Common.{ap, inl, inr, arith, le-leb, leb-true, ne_eqb}
use Rattle.std.proofs.lemmas.Bool.{false≢true, lt-leb}
use Rattle.fields.specs.declared.Class.{Class}
use Rattle.fields.specs.declared.Class.TheVariants.{Digit, Letter, Separator, Bad}

abbrev pub within : ℕ → ℕ → ℕ → Bool
within low high b = leb low b && leb b high

-- 0 to 9; a to z; a space or an equals sign; anything else
unfoldable pub class_of : ℕ → Class
class_of b =
    cond (within 48 57 b) (Digit (b - 48))
    (cond (within 97 122 b) Letter (cond (eqb b 32 || eqb b 61) Separator Bad))

-- what a digit counts
abbrev pub digit_in : Class → ℕ
digit_in (Digit d) = d
digit_in Letter = 0
digit_in Separator = 0
digit_in Bad = 0

abbrev pub digit_of : ℕ → ℕ
digit_of b = digit_in (class_of b)

-- whether a byte goes on a run: of digits, or of digits and small letters
abbrev pub counted : Bool → Class → Bool
counted letters (Digit d) = true
counted letters Letter = letters
counted letters Separator = false
counted letters Bad = false

abbrev pub counts : Bool → ℕ → Bool
counts letters b = counted letters (class_of b)

-- ---- the classes by their ranges

abbrev pub Outside : ℕ → ℕ → ℕ → Type 0
Outside low high b = (b < low) ⊎ (high < b)

pub inside : (low high b : ℕ) → low ≤ b → b ≤ high → within low high b ≡ true
inside low high b h k = simp (le-leb _ _ h, le-leb _ _ k)

pub outside : (low high b : ℕ) → Outside low high b → within low high b ≡ false
outside low high b (inl h) = simp (lt-leb _ _ h)
outside low high b (inr h) = simp (lt-leb _ _ h, and-false)
  where
    and-false : (t : Bool) → t && false ≡ false
    and-false true = refl
    and-false false = refl

pub class-digit : (b : ℕ) → 48 ≤ b → b ≤ 57 → class_of b ≡ Digit (b - 48)
unfolding class_of
class-digit b h k = rw (inside 48 57 b h k)

pub class-letter : (b : ℕ) → 97 ≤ b → b ≤ 122 → class_of b ≡ Letter
unfolding class_of
class-letter b h k = let l : 57 < b = omega arith in rw (outside 48 57 b (inr l), inside 97 122 b h k)

pub class-separator : (b : ℕ) → (b ≡ 32) ⊎ (b ≡ 61) → class_of b ≡ Separator
unfolding class_of
class-separator b (inl e) = ap class_of e
class-separator b (inr e) = ap class_of e

pub class-bad : (b : ℕ) → Outside 48 57 b → Outside 97 122 b → ((b ≡ 32) ⊎ (b ≡ 61) → ⊥) → class_of b ≡ Bad
unfolding class_of
class-bad b d l s =
    rw (outside 48 57 b d, outside 97 122 b l, ne_eqb b 32 (λ e. s (inl e)), ne_eqb b 61 (λ e. s (inr e)))

-- ---- digits

-- what a class of digits says of the byte
pub digit-class : (b d : ℕ) → class_of b ≡ Digit d → (48 ≤ b) × (b ≤ 57) × (d + 48 ≡ b)
unfolding class_of
digit-class b d e = go (leb 48 b) refl (leb b 57) refl (within 97 122 b) (eqb b 32 || eqb b 61) e
  where
    go : (s : Bool) → leb 48 b ≡ s → (t : Bool) → leb b 57 ≡ t → (u v : Bool) →
        cond (s && t) (Digit (b - 48)) (cond u Letter (cond v Separator Bad)) ≡ Digit d → (48 ≤ b) × (b ≤ 57) × (d + 48 ≡ b)
    go true p true q u v f = let k : b - 48 ≡ d = cc in let h = leb-true _ _ p in (h, leb-true _ _ q, omega arith)
    go true p false q true v f = absurd (let z : ◌≡◌ {A = ℕ} 0 1 = cc in omega arith)
    go true p false q false true f = absurd (let z : ◌≡◌ {A = ℕ} 0 1 = cc in omega arith)
    go true p false q false false f = absurd (let z : ◌≡◌ {A = ℕ} 0 1 = cc in omega arith)
    go false p t q true v f = absurd (let z : ◌≡◌ {A = ℕ} 0 1 = cc in omega arith)
    go false p t q false true f = absurd (let z : ◌≡◌ {A = ℕ} 0 1 = cc in omega arith)
    go false p t q false false f = absurd (let z : ◌≡◌ {A = ℕ} 0 1 = cc in omega arith)

-- a byte that goes on a run of digits is a digit, and counts its distance from 48
pub digit-range : (b : ℕ) → counts false b ≡ true → (48 ≤ b) × (b ≤ 57)
digit-range b e = go (class_of b) refl e
  where
    go : (c : Class) → class_of b ≡ c → counted false c ≡ true → (48 ≤ b) × (b ≤ 57)
    go (Digit d) p f = let r = digit-class b d p in (r.0, r.1)
    go Letter p f = absurd (false≢true f)
    go Separator p f = absurd (false≢true f)
    go Bad p f = absurd (false≢true f)

pub digit-counts : (l : Bool) (d : ℕ) → d < 10 → counts l (48 + d) ≡ true
digit-counts l d h = rw (class-digit (48 + d) (omega arith) (omega arith))

pub digit_value : (b : ℕ) → counts false b ≡ true → digit_of b + 48 ≡ b
digit_value b e =
    let r = digit-range b e in
    rw (class-digit b r.0 r.1) (omega arith)

pub digit-of : (d : ℕ) → d < 10 → digit_of (48 + d) ≡ d
digit-of d h = rw (class-digit (48 + d) (omega arith) (omega arith)) (omega arith)

-- any byte counts at most 9
pub digit-small : (b : ℕ) → digit_of b ≤ 9
digit-small b = go (class_of b) refl
  where
    go : (c : Class) → class_of b ≡ c → digit_in c ≤ 9
    go (Digit d) e = let r = digit-class b d e in omega arith
    go Letter e = omega arith
    go Separator e = omega arith
    go Bad e = omega arith
