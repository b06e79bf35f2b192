-- The room is the limiter's; the table has the number if it is admitted.
-- Assumes nothing.
use Rattle.std.proofs.Common.{◌≡◌, ◌∙◌, ap, sym, cond, Bool, List, ℕ}
use Rattle.parties.specs.Parties.{sent}
use Rattle.rules.specs.Suppressed.{admits}
use Rattle.table.specs.Table.{remembered}
use Rattle.gateway.proofs.Laws.{asked-told}
use Rattle.gateway.proofs.ask.Goals as goal
use Rattle.gateway.proofs.ask.Goals.{then-is_admitted, else-is_admitted}

pub returns : goal.returns
returns c =
    let a = c.args in
    let d = c.is_admitted in
    let i = c.inc-decision in
    let by : Bool → List ℕ = λ z. cond z (remembered a.table.now a.controller.now a.number) a.table.now in
    let kept : c.if-is_admitted.table ≡ by (admits i.result) =
    elim c.if-is_admitted.branch [
      | then-is_admitted w ↦ w.table-is ∙ w.remember.ensures ∙ ap by (sym w.if-is_admitted.true ∙ d.ensures)
      | else-is_admitted w ↦ w.table-is ∙ ap by (sym w.if-is_admitted.false ∙ d.ensures)
    ] in
    rw c.as_shot.ensures
    (asked-told a.settings a.table.now a.room.now a.reading (sent a.caller a.controller.now) a.number a.rate a.draw i.result _ _ i.ensures kept)
