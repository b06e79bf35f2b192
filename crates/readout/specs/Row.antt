-- A list written over the start of a row, as much of it as fits: the rest of the row stays.
-- Assumes nothing.
use Rattle.std.specs.Prelude.{List, ◌++◌, ℕ, min, length, take, drop}

-- the first k of xs, then ys from k on
abbrev pub up_to : {A : Type 0} → ℕ → List A → List A → List A
up_to k xs ys = take k xs ++ drop k ys

-- xs from the start of ys on, as many as fit
abbrev pub laid : {A : Type 0} → List A → List A → List A
laid xs ys = up_to (min (length xs) (length ys)) xs ys
