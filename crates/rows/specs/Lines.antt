-- The row of a line of `desk` that was read back.
-- Assumes nothing.
use Rattle.std.specs.Prelude.{◌≡◌, List, ℕ, Result}
use Rattle.std.proofs.Common.{subst}
use Rattle.told.specs.Range.{Reads}
use Rattle.told.specs.Rows.{line_row}
use Rattle.common.specs.declared.refusal.Refusal.{Refusal}
use Rattle.told.specs.declared.ToldLine.{ToldLine}
use Rattle.rows.specs.Plain.{Given}

-- what the line tells was handed over
pub record LineGiven (line : List ℕ) (n : ℕ) (a : List ℕ) : Type 0 where
  pub answer : Result ToldLine Refusal
  pub reads : Reads line answer
  pub given : Given (line_row answer) n a

pub line-given : (line : List ℕ) (r : Result ToldLine Refusal) (row : List ℕ) (n : ℕ) (a : List ℕ) → Reads line r → row ≡ line_row r → Given row n a → LineGiven line n a
line-given line r row n a p e g = record { answer = r; reads = p; given = subst (λ (x : List ℕ). Given x n a) e g }
