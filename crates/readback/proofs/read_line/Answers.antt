-- What is found is what the line tells.
-- Assumes nothing.
use Rattle.std.proofs.Common.{sym, ap, ◌∙◌, ◌≡◌, subst, Option, Result, Err}
use Rattle.std.proofs.lemmas.Result.{err_from_is_err_and}
use Rattle.std.specs.Option.{ok_or}
use Rattle.common.specs.Refusals.{refusal}
use Rattle.common.specs.declared.refusal.Refusal.{Refusal}
use Rattle.printing.specs.declared.AnswerLine.{AnswerLine}
use Rattle.told.specs.Told.{bad_line}
use Rattle.told.specs.Range.{Reads}
use Rattle.told.specs.declared.ToldLine.{ToldLine}
use Rattle.readback.specs.Laws.{read_none, read_some}
use Rattle.readback.proofs.read_line.Goals as goal

-- an error that is handed on is the one that was made
made : (e f : Refusal) → e ≡ f → ◌≡◌ {A = Result AnswerLine Refusal} (Err f) (Err (refusal bad_line)) → ◌≡◌ {A = Result ToldLine Refusal} (Err e) (Err (refusal bad_line))
made e f p q = let r : f ≡ refusal bad_line = cc in ap (λ (x : Refusal). Err x) (p ∙ r)

pub returns-in_err-ok_or : goal.returns-in_err-ok_or
returns-in_err-ok_or c =
    let p = err_from_is_err_and c.from_residual.result c.from_residual.ensures.1 in
    let v = c.in_err-ok_or.ensures.value ∙ ap (λ (o : Option AnswerLine). ok_or o (refusal bad_line)) c.in_err-ok_or.ensures.ok_part in
    subst (Reads c.args.line.now) (sym (p.1 ∙ made _ _ p.2 v)) (read_none c.args.line.now (sym c.read_answer.ensures ∙ c.in_err-ok_or.ensures.ok_part))

pub returns : goal.returns
returns c =
    read_some _ _ _ (sym c.read_answer.ensures ∙ c.in_ok-ok_or.ensures.ok_part) c.meaning_of.ensures
