-- The log of a season: the pairs of controller and number that were admitted, newest first. What is asked of it, and the laws of that.
-- Assumes nothing.
use Rattle.std.specs.Prelude.{◌≡◌, refl, Bool, true, false, cond, ◌&&◌, ◌||◌, List, [], ◌∷◌, ℕ, ◌+◌, ◌≤◌, ◌<◌, max, eqb}
use Rattle.std.proofs.Common.{sym, subst, arith, eqb-true}
use Rattle.std.proofs.lemmas.Bool.{false≢true, eqb-false}
use Rattle.std.proofs.Math.Decide.{dec_lt}
use Rattle.demand3.proofs.History.{same-bytes}
use Rattle.season.specs.Log.{Pair, is_of, times, highest, named}

-- ---- the laws

-- an admitted number is at most the highest
pub times-highest : (key : List ℕ) (n : ℕ) (ps : List Pair) → 1 ≤ times key n ps → n ≤ highest key ps
times-highest key n [] h = absurd (omega arith)
times-highest key n (p ∷ ps) h = go (is_of key p) (eqb p.number n) refl h (times-highest key n ps)
  where
    go : (a b : Bool) → eqb p.number n ≡ b → 1 ≤ cond (a && b) 1 0 + times key n ps → (1 ≤ times key n ps → n ≤ highest key ps) →
        n ≤ cond a (max p.number (highest key ps)) (highest key ps)
    go true true e l f = omega (arith, eqb-true p.number n e)
    go true false e l f = omega (arith, f (omega arith))
    go false b e l f = f (omega arith)

-- the highest one, where there is one, was admitted
pub highest-times : (key : List ℕ) (n : ℕ) (ps : List Pair) → n ≡ highest key ps → 1 ≤ n → 1 ≤ times key n ps
highest-times key n [] e h = absurd (omega arith)
highest-times key n (p ∷ ps) e h = go (is_of key p) (eqb p.number n) refl e (highest-times key n ps)
  where
    go : (a b : Bool) → eqb p.number n ≡ b → n ≡ cond a (max p.number (highest key ps)) (highest key ps) →
        (n ≡ highest key ps → 1 ≤ n → 1 ≤ times key n ps) → 1 ≤ cond (a && b) 1 0 + times key n ps
    go true true q l f = omega arith
    go true false q l f = omega (arith, f (omega (arith, eqb-false p.number n q)) h)
    go false b q l f = omega (arith, f l h)

-- a number above the highest was not
pub above-times : (key : List ℕ) (n : ℕ) (ps : List Pair) → highest key ps < n → times key n ps ≡ 0
above-times key n ps h = go (dec_lt 0 (times key n ps))
  where
    go : Dec (0 < times key n ps) → times key n ps ≡ 0
    go (yes l) = absurd (omega (arith, times-highest key n ps l))
    go (no l) = omega arith

-- who has no number was not admitted at all
pub unnamed-highest : (key : List ℕ) (ps : List Pair) → named key ps ≡ false → highest key ps ≡ 0
unnamed-highest key [] e = refl
unnamed-highest key (p ∷ ps) e = go (is_of key p) e (unnamed-highest key ps)
  where
    go : (a : Bool) → a || named key ps ≡ false → (named key ps ≡ false → highest key ps ≡ 0) → cond a (max p.number (highest key ps)) (highest key ps) ≡ 0
    go true q f = absurd (false≢true (sym q))
    go false q f = f q

-- ---- a pair more, with a number above its controller's others

module _ (p : Pair) (ps : List Pair) (ahead : highest p.controller ps < p.number) (key : List ℕ) where
  -- of that controller the others are lower
  lower : is_of key p ≡ true → highest key ps < p.number
  lower e = subst (λ (k : List ℕ). highest k ps < p.number) (same-bytes p.controller key e) ahead

  -- it is logged once
  pub once_more : (n : ℕ) → times key n ps ≤ 1 → times key n (p ∷ ps) ≤ 1
  once_more n f = go (is_of key p) (eqb p.number n) refl refl
    where
      go : (a b : Bool) → is_of key p ≡ a → eqb p.number n ≡ b → cond (a && b) 1 0 + times key n ps ≤ 1
      go true true e q = omega (arith, above-times key n ps (omega (arith, lower e, eqb-true p.number n q)))
      go true false e q = omega arith
      go false b e q = omega arith

  -- and is the highest
  pub highest-more : highest key (p ∷ ps) ≡ cond (is_of key p) p.number (highest key ps)
  highest-more = go (is_of key p) refl
    where
      go : (a : Bool) → is_of key p ≡ a → cond a (max p.number (highest key ps)) (highest key ps) ≡ cond a p.number (highest key ps)
      go true e = omega (arith, lower e)
      go false e = refl
