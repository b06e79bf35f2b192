-- Every line that `desk` prints reads back (document 02, ticket 1), on any input: from what `desk` prints (`desk_laws`). Between two lines its rooms are sound
-- and its one party's; so what it tells is in range, and the line is what is printed of that.
-- Assumes nothing.
use Rattle.std.specs.Prelude.{◌≡◌, List, [], ◌∷◌, ℕ, length, Ok}
use Rattle.common.specs.Refusals.{first}
use Rattle.settings.specs.Settings.{faults}
use Rattle.settings.specs.declared.Settings.{Settings}
use Rattle.rules.specs.declared.RoomKind.TheVariants.{Absolute, Suppressed}
use Rattle.printing.specs.Answers.{show_answer}
use Rattle.printing.specs.declared.AnswerLine.{AnswerLine}
use Rattle.told.specs.Range.{Reads}
use Rattle.told.specs.declared.ToldLine.{ToldLine}
use Rattle.desk_turn.specs.declared.Program.{Program}
use Rattle.desk_turn.specs.declared.Program.TheVariants as program
use Rattle.desk_turn.specs.declared.Phase.TheVariants.{Waiting, Open, Ended}
use Rattle.desk_feed.specs.Clauses.{new_first, new_second}
use Rattle.desk_laws.specs.Whole.{call_lines, printed}
use Rattle.desk_laws.specs.Lines.{Stand, texts}
use Rattle.desk_reads.specs.Range.{OwnRoom}

-- ---- the statement

-- what the line tells, and it reads as that
pub record ReadsBack (line : List ℕ) : Type 0 where
  pub tells : ToldLine
  pub reads : Reads line (Ok tells)

-- each of these lines does
abbrev pub EachReads : List (List ℕ) → Type 0
EachReads [] = Unit {0}
EachReads (line ∷ more) = ReadsBack line × EachReads more

-- every line of all that is printed for the input xs, cut at newlines
abbrev pub AllRead : Program → Type 0
AllRead g = (h xs : List ℕ) → length h ≡ 200 → EachReads (call_lines [] (printed g h xs))

-- ---- what is printed, as lines that tell something in range

abbrev pub EachTells : List AnswerLine → Type 0
EachTells [] = Unit {0}
EachTells (l ∷ ls) = ReadsBack (show_answer l) × EachTells ls

pub record Telling (bytes : List ℕ) : Type 0 where
  pub lines : List AnswerLine
  pub text : bytes ≡ texts lines
  pub each : EachTells lines

-- ---- `desk` between two lines

pub record DeskStands (s : Settings) (a b : List ℕ) : Type 0 where
  pub fine : first (faults s) ≡ 0
  pub absolute : OwnRoom Absolute s a
  pub suppressed : OwnRoom Suppressed s b

abbrev pub Stands : Stand
Stands (Waiting program.Desk) a b = (a ≡ new_first program.Desk) × (b ≡ new_second program.Desk)
Stands (Waiting program.Shots) a b = ⊥
Stands (Open program.Desk s) a b = DeskStands s a b
Stands (Open program.Shots s) a b = ⊥
Stands Ended a b = Unit {0}
