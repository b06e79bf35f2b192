-- Answer rows that go out as plain numbers. An answer's row is the one that `answers`' Rows gives it.
-- Assumes nothing.
use Rattle.std.specs.Prelude.{◌≡◌, List, ℕ}
use Rattle.answers.specs.Rows.{number_of}

-- a row was handed over
pub record Given (row : List ℕ) (n : ℕ) (a : List ℕ) : Type 0 where
  pub number : n ≡ number_of row
  pub answer : a ≡ row
