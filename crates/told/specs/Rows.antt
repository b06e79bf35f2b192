-- A line that was read, as a row of seven numbers: 0 or the refusal's number, which case it is (0 for a refusal), the reading, two values, and the totals.
-- The cases of a decision are numbered as in its own row. A double stands in a row by its bits, yes by 1.
-- Assumes nothing.
use Rattle.std.specs.Prelude.{List, [], ◌∷◌, ℕ, Result, Ok, Err}
use Rattle.answers.specs.Rows.{said, bits}
use Rattle.told.specs.Told.{no_stored}
use Rattle.told.specs.declared.Stored.{Stored}
use Rattle.told.specs.declared.Told.{Told}
use Rattle.told.specs.declared.Told.TheVariants.{Allowed, Rejected, Suppressed, Value, Refused}
use Rattle.told.specs.declared.ToldLine.{ToldLine}
use Rattle.common.specs.declared.refusal.Refusal.{Refusal}

abbrev pub row_of_seven : ℕ → ℕ → ℕ → ℕ → ℕ → Stored → List ℕ
row_of_seven number case t a b x = number ∷ case ∷ t ∷ a ∷ b ∷ x.total ∷ x.declined ∷ []

-- wait and left; the factor and yes or no; the factor; the refusal's number. 4 is a shot's `held`, which is no answer of `desk`.
unfoldable pub told_row : ℕ → Told → List ℕ
told_row t (Allowed x) = row_of_seven 0 1 t 0 0 x
told_row t (Rejected wait left x) = row_of_seven 0 2 t wait left x
told_row t (Suppressed factor admitted x) = row_of_seven 0 3 t (bits factor) (said admitted) x
told_row t (Value factor x) = row_of_seven 0 5 t (bits factor) 0 x
told_row t (Refused n) = row_of_seven 0 6 t n 0 no_stored

unfoldable pub line_row : Result ToldLine Refusal → List ℕ
line_row (Ok l) = told_row l.t l.told
line_row (Err e) = row_of_seven e.0 0 0 0 0 no_stored
