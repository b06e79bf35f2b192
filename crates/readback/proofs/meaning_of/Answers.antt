-- `readback::meaning_of` meets its contract: the reading and the word are kept, so that whole lines are the same where their numbers are.
-- Assumes nothing.
use Rattle.std.proofs.Common.{◌≡◌, refl, sym, ap, ◌∙◌, eqb, Bool, true, false, ◌&&◌, Ok, Err, eq-eqb}
use denote.Enum.Bare.{sameb}
use Rattle.printing.specs.contracts.Answer.{the_type}
use Rattle.printing.specs.declared.Answer.{Answer}
use Rattle.printing.specs.declared.Answer.TheVariants as word
use Rattle.printing.specs.declared.AnswerLine.{AnswerLine}
use Rattle.common.specs.Refusals.{refusal}
use Rattle.told.specs.Told.{bad_line, line_of}
use Rattle.told.specs.declared.Told.{Told}
use Rattle.readback.specs.Laws.{time-is, word-is}
use Rattle.readback.specs.Meaning.{is_fit, told_by, same_numbers, meaning_of}
use Rattle.readback.proofs.meaning_of.Goals as goal
use Rattle.readback.proofs.meaning_of.Goals.{else-is_fit-via-then-is_fit+else-eq, else-is_fit-via-else-is_fit}

-- lines, as the derived `==` compares them
abbrev whole : AnswerLine → AnswerLine → Bool
whole a b =
    eqb a.t b.t && (eqb a.code b.code && (sameb the_type a.answer b.answer && (eqb a.factor b.factor && (eqb a.wait b.wait && (eqb a.left b.left &&
    (eqb a.total b.total && eqb a.declined b.declined))))))

same-word : (w : Answer) → sameb the_type w w ≡ true
same-word word.Allowed = refl
same-word word.Rejected = refl
same-word word.Yes = refl
same-word word.No = refl
same-word word.Value = refl
same-word word.Held = refl
same-word word.Refused = refl

module _ (l : AnswerLine) (told : Told) (is : told ≡ told_by l) where
  line-is : is_fit l.t told ≡ true → (a : AnswerLine) → a ≡ line_of (record { t = l.t; told = told }) → whole a l ≡ same_numbers a l
  unfolding same_numbers line_of told_by
  line-is fit a e =
      let t : a.t ≡ l.t = ap (λ (x : AnswerLine). x.t) e ∙ time-is l.t told in
      let f : is_fit l.t (told_by l) ≡ true = rw is at fit in
      let w : a.answer ≡ l.answer = ap (λ (x : AnswerLine). x.answer) e ∙ rw is (word-is l l.answer f) in
      rw (eq-eqb _ _ t, w, same-word l.answer)

  meant : is_fit l.t told ≡ true → (a : AnswerLine) → a ≡ line_of (record { t = l.t; told = told }) → whole a l ≡ true →
      Ok (record { t = l.t; told = told }) ≡ meaning_of l
  unfolding meaning_of
  meant fit a e s = let n : same_numbers a l ≡ true = sym (line-is fit a e) ∙ s in rw (← is, fit, ← e, n)

  other : is_fit l.t told ≡ true → (a : AnswerLine) → a ≡ line_of (record { t = l.t; told = told }) → whole a l ≡ false →
      Err (refusal bad_line) ≡ meaning_of l
  unfolding meaning_of
  other fit a e s = let n : same_numbers a l ≡ false = sym (line-is fit a e) ∙ s in rw (← is, fit, ← e, n)

  unfit : is_fit l.t told ≡ false → Err (refusal bad_line) ≡ meaning_of l
  unfolding meaning_of
  unfit fit = rw (← is, fit)

pub returns-then-eq : goal.returns-then-eq
returns-then-eq c =
    meant c.args.l c.told_by.result c.told_by.ensures (sym c.is_fit.ensures ∙ c.if-is_fit.true) c.line_of.result c.line_of.ensures (sym c.if-eq.ensures)

pub returns-else-is_fit : goal.returns-else-is_fit
returns-else-is_fit c =
    elim c.else-is_fit.branch [
      | else-is_fit-via-then-is_fit+else-eq w ↦ other c.args.l c.told_by.result c.told_by.ensures (sym c.is_fit.ensures ∙ w.if-is_fit.true) w.line_of.result
          w.line_of.ensures (sym w.if-eq.ensures)
      | else-is_fit-via-else-is_fit w ↦ unfit c.args.l c.told_by.result c.told_by.ensures (sym c.is_fit.ensures ∙ w.if-is_fit.false)
    ]
