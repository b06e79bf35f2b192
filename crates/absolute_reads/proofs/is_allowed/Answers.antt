-- The slot judged is the key's as a first look leaves it, and what it planned can be carried out.
-- Assumes nothing.
use mathlib.Core.Path.{sym, ap, subst, ◌∙◌}
use mathlib.Core.Bool.{Bool}
use Prim.Native.Nat.{ℕ}
use Rattle.settings.specs.Clock.{ticks_in}
use Rattle.parties.specs.Parties.{sent}
use Rattle.change.specs.Words.{Applies, applied}
use Rattle.absolute_test.specs.Test.{evicts, allowed_at, decided_at}
use Rattle.absolute_verdicts.specs.Told.{ask-window, ask-bucket, ask-refused, ask-fits, ask-done}
use Rattle.absolute_reads.proofs.is_allowed.Goals as goal

pub returns-in-Err : goal.returns-in-Err
returns-in-Err c =
    let a = c.args in
    rw c.number.ensures (ask-refused a.settings a.room.now a.reading (sent a.caller a.key.now) c.in-Err.r c.in-Err.ensures)

pub decided-answer-requires : goal.decided-answer-requires
decided-answer-requires c =
    let a = c.args in
    ask-window a.settings a.room.now a.reading (sent a.caller a.key.now) c.in-Ok.j c.in-Ok.ensures

pub join_ticks-join-requires : goal.join_ticks-join-requires
join_ticks-join-requires c =
    let a = c.args in
    ask-bucket a.settings a.room.now a.reading (sent a.caller a.key.now) c.in-Ok.j c.in-Ok.ensures

pub apply-requires : goal.apply-requires
apply-requires c =
    let a = c.args in
    subst (λ (ticks : ℕ). Applies a.room.now c.in-Ok.j.slot.at ticks a.reading c.ask_change.result) (sym c.join_ticks-join.ensures)
    (ask-fits a.settings a.room.now a.reading (sent a.caller a.key.now) c.in-Ok.j c.in-Ok.ensures c.evicts-again.result c.ask_change.result
    c.ask_change.ensures)

pub returns : goal.returns
returns c =
    let a = c.args in
    let slot = c.in-Ok.j.slot in
    let may = c.allows.ensures ∙ ap (λ (limit : ℕ). allowed_at limit slot) c.cut_limit-limit.ensures in
    ask-done a.settings a.room.now a.reading (sent a.caller a.key.now) c.in-Ok.j c.in-Ok.ensures
    c.evicts-again.result (c.evicts-again.ensures ∙ ap (λ (limit : ℕ). evicts limit slot) c.cut_limit-limit.ensures)
    c.ask_change.result c.ask_change.ensures c.apply.new.w
    (c.apply.ensures ∙ ap (λ (ticks : ℕ). applied a.room.now slot.at (sent a.caller a.key.now) ticks a.reading c.ask_change.result)
    c.join_ticks-join.ensures)
    c.decided-answer.result
    (c.decided-answer.ensures ∙ ap (λ (allowed : Bool). decided_at (ticks_in a.settings) a.settings.window_size a.reading allowed slot) may)
