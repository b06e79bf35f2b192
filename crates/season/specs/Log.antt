-- The log of a season: the pairs of controller and number that were admitted, newest first. What is asked of it, and the laws of that.
-- Assumes nothing.
use Rattle.std.specs.Prelude.{Bool, false, cond, ◌&&◌, ◌||◌, List, [], ◌∷◌, ℕ, ◌+◌, max, eqb}
use Rattle.demand3.specs.History.{same_bytes}

pub record Pair : Type 0 where
  pub controller : List ℕ
  pub number : ℕ

-- ---- what is asked of a log

-- the pair is of this controller
abbrev pub is_of : List ℕ → Pair → Bool
is_of key p = same_bytes p.controller key

-- how often the controller was admitted under the number
abbrev pub times : List ℕ → ℕ → List Pair → ℕ
times key n [] = 0
times key n (p ∷ ps) = cond (is_of key p && eqb p.number n) 1 0 + times key n ps

-- its highest number, or 0 where it has none
abbrev pub highest : List ℕ → List Pair → ℕ
highest key [] = 0
highest key (p ∷ ps) = cond (is_of key p) (max p.number (highest key ps)) (highest key ps)

-- the newest, or 0
abbrev pub newest : List ℕ → List Pair → ℕ
newest key [] = 0
newest key (p ∷ ps) = cond (is_of key p) p.number (newest key ps)

-- whether it was admitted at all
abbrev pub named : List ℕ → List Pair → Bool
named key [] = false
named key (p ∷ ps) = is_of key p || named key ps

-- how many different controllers were
abbrev pub controllers : List Pair → ℕ
controllers [] = 0
controllers (p ∷ ps) = cond (named p.controller ps) 0 1 + controllers ps
