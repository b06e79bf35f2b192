-- Refusals 1 to 7, 15 and 16, then 11; then the change is carried out.
use Rattle.std.proofs.Common.{rules, ◌≡◌, Err, true, sym, ap, subst, ◌∙◌, ℕ}
use Rattle.rules.specs.declared.RoomKind.TheVariants.{Suppressed}
use Rattle.parties.specs.Parties.{sent, none_left}
use Rattle.judge.specs.Judge.{early, looked_in}
use Rattle.change.specs.Words.{Applies, applied}
use Rattle.suppressed_verdicts.specs.Laws.{not-early, slot-found, none_found, room-found, proper-found, in-room, factor-early}
use Rattle.suppressed_verdicts.specs.Laws.{factor-full, factor-applies, factor-done}
use Rattle.suppressed_reads.proofs.get_suppression_factor.Goals as goal
use Rattle.suppressed_reads.proofs.get_suppression_factor.Goals.{In_ok-judged}

-- ---- what is known past 1 to 7, 15 and 16

none-early : (c : goal.In_ok-judged) → let a = c.args in
    early Suppressed a.settings a.room.now a.reading (sent a.caller a.key.now) ≡ 0
none-early c =
    let a = c.args in
    not-early true a.settings a.room.now a.reading (sent a.caller a.key.now) c.in_ok-judged.judged c.in_ok-judged.ensures

slot_is : (c : goal.In_ok-judged) → let a = c.args in
    c.in_ok-judged.judged.slot ≡ looked_in a.settings a.room.now a.reading (sent a.caller a.key.now)
slot_is c =
    let a = c.args in
    slot-found true a.settings a.room.now a.reading (sent a.caller a.key.now) c.in_ok-judged.judged c.in_ok-judged.ensures

none-left : (c : goal.In_ok-judged) → let a = c.args in
    c.in_ok-judged.judged.none ≡ none_left a.room.now a.caller
none-left c =
    let a = c.args in
    none_found true a.settings a.room.now a.reading (sent a.caller a.key.now) c.in_ok-judged.judged c.in_ok-judged.ensures

-- ---- the needs

pub returns-in_err-judged : goal.returns-in_err-judged
returns-in_err-judged c =
    let a = c.args in
    let key = sent a.caller a.key.now in
    let e : c.from_residual.result ≡ Err c.in_err-judged.field-0.0 = search rules in
    rw e (factor-early true a.settings a.room.now a.reading key _ c.in_err-judged.ensures)

pub place-at-requires : goal.place-at-requires
place-at-requires c =
    let a = c.args in
    let key = sent a.caller a.key.now in
    room-found true a.settings a.room.now a.reading key c.in_ok-judged.judged c.in_ok-judged.ensures

pub returns-then-lacks_slot : goal.returns-then-lacks_slot
returns-then-lacks_slot c =
    let p = none-early (goal.at.returns-then-lacks_slot c).In_ok-judged in
    let i = slot_is (goal.at.returns-then-lacks_slot c).In_ok-judged in
    let n = none-left (goal.at.returns-then-lacks_slot c).In_ok-judged in
    let a = c.args in
    let key = sent a.caller a.key.now in
    let j = c.in_ok-judged.judged in
    factor-full a.settings a.room.now a.reading key p
    j.slot i
    c.place-at.result c.place-at.ensures j.none n c.lacks_slot.result c.lacks_slot.ensures c.if-lacks_slot.true

pub ask-asked-requires : goal.ask-asked-requires
ask-asked-requires c =
    let p = none-early (goal.at.ask-asked-requires c).In_ok-judged in
    let i = slot_is (goal.at.ask-asked-requires c).In_ok-judged in
    let a = c.args in
    let key = sent a.caller a.key.now in
    let j = c.in_ok-judged.judged in (
      in-room a.settings a.room.now a.reading key p j.slot i,
      (proper-found true a.settings a.room.now a.reading key j c.in_ok-judged.ensures).cache-high,
    )

pub join_ticks-join-requires : goal.join_ticks-join-requires
join_ticks-join-requires c =
    let a = c.args in
    let key = sent a.caller a.key.now in
    (proper-found true a.settings a.room.now a.reading key c.in_ok-judged.judged c.in_ok-judged.ensures).bucket-high

pub apply-requires : goal.apply-requires
apply-requires c =
    let a = c.args in
    let key = sent a.caller a.key.now in
    let j = c.in_ok-judged.judged in
    subst (λ (ticks : ℕ). Applies a.room.now c.place-at.result ticks a.reading c.factor_change-change.result) (sym c.join_ticks-join.ensures)
    (factor-applies a.settings a.room.now a.reading key (none-early (goal.at.apply-requires c).In_ok-judged)
    j.slot (slot_is (goal.at.apply-requires c).In_ok-judged)
    c.place-at.result c.place-at.ensures j.none (none-left (goal.at.apply-requires c).In_ok-judged) c.lacks_slot.result c.lacks_slot.ensures
    c.if-lacks_slot.false c.ask-asked.result.caching c.factor_change-change.result c.factor_change-change.ensures)

pub returns : goal.returns
returns c =
    let a = c.args in
    let key = sent a.caller a.key.now in
    let j = c.in_ok-judged.judged in
    factor-done a.settings a.room.now a.reading key (none-early (goal.at.returns c).In_ok-judged)
    j.slot (slot_is (goal.at.returns c).In_ok-judged)
    c.place-at.result c.place-at.ensures j.none (none-left (goal.at.returns c).In_ok-judged) c.lacks_slot.result c.lacks_slot.ensures
    c.if-lacks_slot.false c.ask-asked.result c.ask-asked.ensures c.factor_change-change.result c.apply.new.w c.factor_change-change.ensures
    (c.apply.ensures ∙
    ap (λ (ticks : ℕ). applied a.room.now c.place-at.result key ticks a.reading c.factor_change-change.result) c.join_ticks-join.ensures)
