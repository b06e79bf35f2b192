-- What the code of a step knows at each return, joined to the definitions.
-- Assumes nothing.
use Rattle.std.specs.Prelude.{◌≡◌, List, ℕ, Result, Some}
use Rattle.std.proofs.Common.{subst}
use Rattle.printing.specs.declared.AnswerLine.{AnswerLine}
use Rattle.lines.specs.Laws.{KeyInside, key-inside}
use Rattle.shot_lines.specs.Laws.{ShotRead, shot-read}
use Rattle.shot_lines.specs.Reading.{shot_line as read_as, read_shot}
use Rattle.told.specs.declared.Stored.{Stored}
use Rattle.desk_lines.specs.Lines.{stored_of, shot_line}
use Rattle.desk_lines.specs.Step.{Answered}
use Rattle.desk_lines.specs.Stored.{line-is}
use Rattle.gateway.specs.Gateway.{Verdict, Told}
use Rattle.shots_step.specs.Shots.{lined}
use Rattle.common.specs.declared.refusal.Refusal.{Refusal}
use Rattle.answers.specs.declared.ShotOutcome.{ShotOutcome}

-- a shot's line
pub line-told : (t : ℕ) (key : List ℕ) (v : Verdict) (a : Result ShotOutcome Refusal) (w r : List ℕ) (x : Stored) (l : AnswerLine) →
    Told v a w r → x ≡ stored_of r key → l ≡ shot_line t a x → Answered (lined t key v) l w r
line-told t key v a w r x l o p q =
    record { answer = line-is (shot_line t) key v.answer a v.room r x l o.answer o.room p q; first = o.table; second = o.room }

-- the controller's part of a line
pub read-inside : (line : List ℕ) (t start end number rate draw : ℕ) → read_shot line ≡ Some (read_as t start end number rate draw) → KeyInside line start end
read-inside line t start end number rate draw e =
    let p = subst (ShotRead line) e (shot-read line) in
    key-inside line start end p.fits.keys p.ends
