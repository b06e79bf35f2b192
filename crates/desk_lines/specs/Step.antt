-- What a line prints and what it leaves of the two memories that a program is lent: of `desk` the absolute room, then the suppressed one; of `shots` the
-- table, then the room.
-- Assumes nothing.
use Rattle.std.specs.Prelude.{◌≡◌, ℕ, List}
use Rattle.printing.specs.declared.AnswerLine.{AnswerLine}
use Rattle.told.specs.Told.{refused_line, bad_line}

-- what is printed, and both memories after the line
pub record Step : Type 0 where
  pub answer : AnswerLine
  pub first : List ℕ
  pub second : List ℕ

-- "`t` (0 on a bad line)": a bad line changes nothing
abbrev pub bad_step : List ℕ → List ℕ → Step
bad_step a b = record { answer = refused_line 0 bad_line; first = a; second = b }

-- the line to print and the memories left are these
pub record Answered (v : Step) (r : AnswerLine) (a b : List ℕ) : Type 0 where
  pub answer : r ≡ v.answer
  pub first : a ≡ v.first
  pub second : b ≡ v.second
