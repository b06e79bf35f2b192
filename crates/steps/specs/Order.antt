-- What it means that a call is turned away by its table: with the first number, in the order of judging, whose condition holds, exactly then, and with
-- everything left as it was. One law gives it for every call. A table is a list of numbers with their conditions.
-- Assumes nothing.
use Rattle.std.specs.Prelude.{◌≡◌, Bool, true, false, ◌&&◌, ◌||◌, cond, List, [], ◌∷◌, ◌≢◌, ℕ, suc, ◌≤◌, ◌<◌, length, eqb}
use Rattle.answers.specs.Rows.{refused_row, number_of}

-- ---- the order of judging

-- document 01: "Lowest number first"; document 02, ticket 12: 19, 20, 21 "judged in that order before the limiter is asked"; ticket 6: 15 and 16 "judged
-- after 7 in that order"; ticket 2: 13 "is shown never to occur and its number is not used again"
abbrev pub order : List ℕ
order = 19 ∷ 20 ∷ 21 ∷ 1 ∷ 2 ∷ 3 ∷ 4 ∷ 5 ∷ 6 ∷ 7 ∷ 15 ∷ 16 ∷ 8 ∷ 9 ∷ 10 ∷ 11 ∷ 12 ∷ 14 ∷ []

-- how many stand before n in a list; all of them where it does not stand there
abbrev pub before : List ℕ → ℕ → ℕ
before [] n = 0
before (m ∷ ms) n = cond (eqb m n) 0 (suc (before ms n))

abbrev pub place : ℕ → ℕ
place n = before order n

-- n is the number of a refusal
abbrev pub Numbered : ℕ → Type 0
Numbered n = place n < length order

-- the condition of number n holds
unfoldable pub met : List (ℕ × Bool) → ℕ → Bool
met [] n = false
met (x ∷ xs) n = (eqb x.0 n && x.1) || met xs n

-- n is the first, in the order of judging, whose condition holds
pub record First (table : List (ℕ × Bool)) (n : ℕ) : Type 0 where
  pub holds : met table n ≡ true
  pub foremost : (m : ℕ) → met table m ≡ true → place n ≤ place m

-- a table's numbers stand in the order of judging, from place k on; one may stand twice
abbrev pub InOrder : ℕ → List (ℕ × Bool) → Type 0
InOrder k [] = k < length order
InOrder k (x ∷ xs) = (k ≤ place x.0) × InOrder (place x.0) xs

-- an answer with this row, and what is left of what was lent, are turned away by the table where its conditions say so, and not else
pub record TurnedBy {B : Type 0} (table : List (ℕ × Bool)) (row : List ℕ) (before after : B) : Type 0 where
  -- "judged in that order"; "Each gives its number with zeros elsewhere"
  pub given : (n : ℕ) → First table n → row ≡ refused_row n
  -- "Given exactly when"
  pub only : number_of row ≢ 0 → First table (number_of row)
  -- "one of the numbered refusals"
  pub numbered : number_of row ≢ 0 → Numbered (number_of row)
  -- "and the room, last reading included, stays as found"
  pub stays : number_of row ≢ 0 → after ≡ before

-- ---- the first of a table in order is the first in the order of judging

-- a number that is met in a table from place k on stands there, and is one of the order
pub record Within (k m : ℕ) : Type 0 where
  pub from : k ≤ place m
  pub listed : Numbered m
