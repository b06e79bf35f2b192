-- Refusals 1 to 7, 15 and 16; then the change is carried out.
use Rattle.std.proofs.Common.{rules, ◌≡◌, Err, false, sym, ap, subst, ◌∙◌, ℕ}
use Rattle.std.proofs.Math.Path.{refl}
use Rattle.parties.specs.Parties.{sent}
use Rattle.change.specs.Words.{Applies, applied}
use Rattle.suppressed_verdicts.specs.Laws.{not-early, slot-found, proper-found, slot-in-room, get-early, get-applies, get-done}
use Rattle.suppressed_reads.proofs.get.Goals as goal

pub returns-in_err-judged : goal.returns-in_err-judged
returns-in_err-judged c =
    let a = c.args in
    let key = sent a.caller a.key.now in
    let e : c.from_residual.result ≡ Err c.in_err-judged.field-0.0 = search rules in
    rw e (get-early false a.settings a.room.now a.reading key _ c.in_err-judged.ensures)

pub ask-asked-requires : goal.ask-asked-requires
ask-asked-requires c =
    let a = c.args in
    let key = sent a.caller a.key.now in (
      slot-in-room false a.settings a.room.now a.reading key c.in_ok-judged.judged c.in_ok-judged.ensures refl,
      (proper-found false a.settings a.room.now a.reading key c.in_ok-judged.judged c.in_ok-judged.ensures).cache-high,
    )

pub join_ticks-requires : goal.join_ticks-requires
join_ticks-requires c =
    let a = c.args in
    let key = sent a.caller a.key.now in
    (proper-found false a.settings a.room.now a.reading key c.in_ok-judged.judged c.in_ok-judged.ensures).bucket-high

pub apply-requires : goal.apply-requires
apply-requires c =
    let a = c.args in
    let key = sent a.caller a.key.now in
    subst (λ (ticks : ℕ). Applies a.room.now c.in_ok-judged.judged.slot.at ticks a.reading c.get_change.result) (sym c.join_ticks.ensures)
    (get-applies a.settings a.room.now a.reading key
    (not-early false a.settings a.room.now a.reading key c.in_ok-judged.judged c.in_ok-judged.ensures) c.in_ok-judged.judged.slot
    (slot-found false a.settings a.room.now a.reading key c.in_ok-judged.judged c.in_ok-judged.ensures)
    c.ask-asked.result.caching c.get_change.result c.get_change.ensures)

pub returns : goal.returns
returns c =
    let a = c.args in
    let key = sent a.caller a.key.now in
    get-done a.settings a.room.now a.reading key
    (not-early false a.settings a.room.now a.reading key c.in_ok-judged.judged c.in_ok-judged.ensures) c.in_ok-judged.judged.slot
    (slot-found false a.settings a.room.now a.reading key c.in_ok-judged.judged c.in_ok-judged.ensures)
    c.ask-asked.result c.ask-asked.ensures c.snapshot_of-snapshot.result c.get_change.result c.apply.new.w c.snapshot_of-snapshot.ensures
    c.get_change.ensures
    (c.apply.ensures ∙
    ap (λ (ticks : ℕ). applied a.room.now c.in_ok-judged.judged.slot.at key ticks a.reading c.get_change.result) c.join_ticks.ensures)
