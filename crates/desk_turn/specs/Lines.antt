-- `desk` or `shots` on a line: the phase after it, the memories after it, and what it prints. a and b are the words of the two memories: `desk`'s are the
-- absolute and the suppressed room, those of `shots` the table and the room.
-- Assumes nothing.
use Rattle.std.specs.Prelude.{List, [], ◌∷◌, ◌++◌, ℕ, Result, Ok, Err}
use Rattle.common.specs.declared.refusal.Refusal.{Refusal}
use Rattle.settings.specs.declared.Settings.{Settings}
use Rattle.printing.specs.Answers.{show_answer}
use Rattle.printing.specs.declared.AnswerLine.{AnswerLine}
use Rattle.desk_lines.specs.Step.{Step}
use Rattle.desk_step.specs.Desk as Calls
use Rattle.desk_step.specs.Desk.{opening_of}
use Rattle.shots_step.specs.Shots as Shot
use Rattle.told.specs.Told.{refused_line}
use Rattle.desk_turn.specs.declared.Program.{Program}
use Rattle.desk_turn.specs.declared.Program.TheVariants.{Desk, Shots}
use Rattle.desk_turn.specs.declared.Phase.{Phase}
use Rattle.desk_turn.specs.declared.Phase.TheVariants.{Waiting, Open, Ended}

abbrev pub newline : ℕ
newline = 10

-- room enough for a line with its newline
abbrev pub roomy : ℕ
roomy = 241

unfoldable pub shown : AnswerLine → List ℕ
shown l = show_answer l ++ (newline ∷ [])

-- ---- a line: the phase after it, the memories after it, and what it prints

pub record Effect : Type 0 where
  pub phase : Phase
  pub first : List ℕ
  pub second : List ℕ
  pub prints : List ℕ

-- nothing happens
abbrev pub idle : Phase → List ℕ → List ℕ → Effect
idle p a b = record { phase = p; first = a; second = b; prints = [] }

-- "A bad or missing settings line prints one line .. and ends."
abbrev pub phase_in : Program → Result Settings Refusal → Phase
phase_in g (Ok s) = Open g s
phase_in g (Err e) = Ended

abbrev pub prints_in : Result Settings Refusal → List ℕ
prints_in (Ok s) = []
prints_in (Err e) = shown (refused_line 0 e.0)

-- each program takes its lines by its own step
unfoldable pub stepped_by : Program → Settings → List ℕ → List ℕ → List ℕ → Step
stepped_by Desk s a b line = Calls.stepped s a b line
stepped_by Shots s a b line = Shot.stepped s a b line

-- "Otherwise a line per call", and one per shot
abbrev pub called : Program → Settings → Step → Effect
called g s v = record { phase = Open g s; first = v.first; second = v.second; prints = shown v.answer }

unfoldable pub turn : Phase → List ℕ → List ℕ → List ℕ → Effect
turn (Waiting g) a b line = record { phase = phase_in g (opening_of line); first = a; second = b; prints = prints_in (opening_of line) }
turn (Open g s) a b line = called g s (stepped_by g s a b line)
turn Ended a b line = idle Ended a b
