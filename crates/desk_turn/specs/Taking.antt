-- What the functions on a line leave, each as one record.
-- Assumes nothing.
use Rattle.std.specs.Prelude.{◌≡◌, List, ℕ, ◌+◌, ◌≤◌, Result}
use Rattle.printing.specs.Answers.{show_answer, longest}
use Rattle.printing.specs.Printing.{Put}
use Rattle.printing.specs.declared.AnswerLine.{AnswerLine}
use Rattle.common.specs.declared.refusal.Refusal.{Refusal}
use Rattle.settings.specs.declared.Settings.{Settings}
use Rattle.desk_turn.specs.declared.Program.{Program}
use Rattle.desk_turn.specs.declared.Turn.{Turn}
use Rattle.desk_turn.specs.Lines.{Effect, phase_in, prints_in}

-- a line's bytes without its newline
pub record PutAnswer (l : AnswerLine) (old : List ℕ) (at : ℕ) (new : List ℕ) (next : ℕ) : Type 0 where
  pub put : Put old at (show_answer l) new next
  pub short : next ≤ at + longest

-- the first line
pub record Begins (g : Program) (o : Result Settings Refusal) (old : List ℕ) (at : ℕ) (r : Turn) (new : List ℕ) : Type 0 where
  pub phase : r.phase ≡ phase_in g o
  pub put : Put old at (prints_in o) new r.next

-- any line
pub record Took (v : Effect) (old : List ℕ) (at : ℕ) (r : Turn) (a b new : List ℕ) : Type 0 where
  pub phase : r.phase ≡ v.phase
  pub first : a ≡ v.first
  pub second : b ≡ v.second
  pub put : Put old at v.prints new r.next
