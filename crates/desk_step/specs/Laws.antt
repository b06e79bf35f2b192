-- What the code of a step knows at each return, joined to the definitions.
-- Assumes nothing.
use Rattle.std.specs.Prelude.{◌≡◌, ℕ, List, Some}
use Rattle.std.proofs.Common.{subst}
use Rattle.judge.specs.Verdict.{Verdict, Told}
use Rattle.printing.specs.declared.AnswerLine.{AnswerLine}
use Rattle.lines.specs.Laws.{KeyInside, key-inside, CallRead, call-read}
use Rattle.lines.specs.Reading.{call_line, read_call}
use Rattle.lines.specs.declared.Op.{Op}
use Rattle.told.specs.declared.Stored.{Stored}
use Rattle.desk_step.specs.Desk.{lined}
use Rattle.desk_lines.specs.Lines.{stored_of}
use Rattle.desk_lines.specs.Stored.{line-is}

-- ---- a call's line

pub line-told : {A : Type 0} (f : A → Stored → AnswerLine) (key : List ℕ) (v : Verdict A) (d : A) (x : List ℕ) (y : Stored) (r : AnswerLine) →
    Told v d x → y ≡ stored_of x key → r ≡ f d y → Told (lined f key v) r x
line-told f key v d x y r o p q =
    record { answer = line-is f key v.answer d v.words x y r o.answer o.words p q; words = o.words }

-- ---- the key's part of a line

pub read-inside : (line : List ℕ) (t : ℕ) (op : Op) (start end rate n draw : ℕ) → read_call line ≡ Some (call_line t op start end rate n draw) →
    KeyInside line start end
read-inside line t op start end rate n draw e =
    let p = subst (CallRead line) e (call-read line) in
    key-inside line start end p.fits.keys p.ends
