-- Refusals: a list of numbers with their conditions, of which a call gives the first that holds; and what is printed of one.
-- Assumes nothing.
use Rattle.std.specs.Prelude.{◌≡◌, ℕ, ◌<◌, Bool, true, false, cond, List, [], ◌∷◌, ◌++◌, ◌≢◌, refl, Result, Ok, Err, eqb, if◌then◌else◌, ◌==◌, codes, decimal}
use Rattle.common.specs.declared.refusal.Refusal.{Refusal}
use Rattle.std.proofs.Common.{sym, ◌∙◌, arith}
use Rattle.std.proofs.Math.Decide.{ℕ_discrete}

-- the first number whose condition holds, or 0
unfoldable pub first : List (ℕ × Bool) → ℕ
first [] = 0
first (x ∷ xs) = cond x.1 x.0 (first xs)

-- the refusal of a number
abbrev pub refusal : ℕ → Refusal
refusal n = record { 0 = n }

-- the answer of a call that is refused with n
abbrev pub refuse : {A : Type 0} → ℕ → Result A Refusal
refuse n = Err (refusal n)

-- v, unless n turns away: 0 does not
abbrev pub unless : {A : Type 0} → ℕ → A → Result A Refusal
unless n v = cond (eqb n 0) (Ok v) (refuse n)

-- what a number comes to: with 0 the call goes on
abbrev pub ruled : ℕ → Result (Unit {0}) Refusal
ruled n = unless n tt

-- what is printed of a refusal: its words, and of a number without words the number
abbrev pub refusal_text : ℕ → List ℕ
refusal_text n =
    if n == 1 then codes "window out of its range" else (
    if n == 2 then codes "bucket out of its range" else (
    if n == 3 then codes "cache period out of its range" else (
    if n == 4 then codes "factor not finite, or below 1" else (
    if n == 5 then codes "room or table of wrong lengths, or unsound" else (
    if n == 6 then codes "reading below that of an earlier call" else (
    if n == 7 then codes "key over 32 bytes" else (
    if n == 8 then codes "rate out of its range" else (
    if n == 9 then codes "draw over 2^53 - 1" else (
    if n == 10 then codes "total would pass 2^53" else (
    if n == 11 then codes "no slot left of those promised" else (
    if n == 12 then codes "ring full" else (
    if n == 14 then codes "names no call" else (
    if n == 15 then codes "neither party" else (
    if n == 16 then codes "promises pass the slots" else (
    if n == 19 then codes "number of a shot out of its range" else (
    if n == 20 then codes "number of a shot below the last" else (
    if n == 21 then codes "table full" else (
    codes "refusal " ++ decimal n))))))))))))))))))

-- every number is above 0
abbrev pub Positive : List (ℕ × Bool) → Type 0
Positive [] = Unit {0}
Positive (x ∷ xs) = (0 < x.0) × Positive xs

-- no condition holds
abbrev pub AllFalse : List (ℕ × Bool) → Type 0
AllFalse [] = Unit {0}
AllFalse (x ∷ xs) = (x.1 ≡ false) × AllFalse xs

-- a refusal of the first list is a refusal of both
pub first_found : (xs ys : List (ℕ × Bool)) → (first xs ≢ 0) → first (xs ++ ys) ≡ first xs
unfolding first
first_found [] ys h = absurd (h refl)
first_found (x ∷ xs) ys h = go x.1 (first_found xs ys) h
  where
    go : (b : Bool) → ((first xs ≢ 0) → first (xs ++ ys) ≡ first xs) → (cond b x.0 (first xs) ≢ 0) →
        cond b x.0 (first (xs ++ ys)) ≡ cond b x.0 (first xs)
    go true f g = refl
    go false f g = f g

-- where the first list has none, the second decides
pub first-none : (xs ys : List (ℕ × Bool)) → Positive xs → first xs ≡ 0 → first (xs ++ ys) ≡ first ys
unfolding first
first-none [] ys p h = refl
first-none (x ∷ xs) ys p h = go x.1 (first-none xs ys p.1) h
  where
    go : (b : Bool) → (first xs ≡ 0 → first (xs ++ ys) ≡ first ys) → cond b x.0 (first xs) ≡ 0 → cond b x.0 (first (xs ++ ys)) ≡ first ys
    go true f g = absurd (omega (arith, p.0, g))
    go false f g = f g

-- where there is none in both, there is none in either
pub first-both : (xs ys : List (ℕ × Bool)) → Positive xs → first (xs ++ ys) ≡ 0 → (first xs ≡ 0) × (first ys ≡ 0)
first-both xs ys p e = go (ℕ_discrete (first xs) 0)
  where
    go : Dec (first xs ≡ 0) → (first xs ≡ 0) × (first ys ≡ 0)
    go (yes z) = (z, sym (first-none xs ys p z) ∙ e)
    go (no n) = absurd (n (sym (first_found xs ys n) ∙ e))

-- 0 is given exactly where no condition holds
pub all-false : (xs : List (ℕ × Bool)) → Positive xs → first xs ≡ 0 → AllFalse xs
unfolding first
all-false [] p h = tt
all-false (x ∷ xs) p h = go x.1 (all-false xs p.1) h
  where
    go : (b : Bool) → (first xs ≡ 0 → AllFalse xs) → cond b x.0 (first xs) ≡ 0 → (b ≡ false) × AllFalse xs
    go true f g = absurd (omega (arith, p.0, g))
    go false f g = (refl, f g)

pub none_first : (xs : List (ℕ × Bool)) → AllFalse xs → first xs ≡ 0
unfolding first
none_first [] h = refl
none_first (x ∷ xs) h = rw h.0 (none_first xs h.1)
