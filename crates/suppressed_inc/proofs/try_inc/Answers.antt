-- Refusals 1 to 7, 15 and 16, then 8 to 12; then the change is carried out.
-- Assumes nothing.
use Rattle.std.proofs.Common.{rules, ◌≡◌, Err, true, refl, sym, ap, subst, ◌∙◌, ℕ}
use Rattle.common.proofs.Ruled.{ruled-ok, ruled-err}
use Rattle.settings.specs.Settings.{Proper}
use Rattle.room.specs.Room.{Room}
use Rattle.parties.specs.Parties.{sent, none_left}
use Rattle.rules.specs.declared.RoomKind.TheVariants.{Suppressed}
use Rattle.judge.specs.Judge.{early, looked_in}
use Rattle.judge.proofs.Laws.{refused-is, standing-left, fault-early, no-fault, opened-is, looked-is}
use Rattle.change.specs.Words.{Applies, applied}
use Rattle.suppressed_verdicts.specs.Laws.{in-room, inc-early, inc-late, inc-total, inc-applies, inc-done}
use Rattle.suppressed_inc.proofs.try_inc.Goals as goal
use Rattle.suppressed_inc.proofs.try_inc.Goals.{After-open_at-x, In_ok-fault, In_ok-misfit}

-- ---- what is known past 1 to 5, of the slot opened, and past 1 to 7, 15 and 16

passed : (c : goal.In_ok-fault) → let a = c.args in Room a.room.now × Proper a.settings
passed c =
    let a = c.args in
    let key = sent a.caller a.key.now in
    no-fault Suppressed a.settings a.room.now a.reading key (ruled-ok _ c.in_ok-fault.ensures)

slot_is : (c : goal.After-open_at-x) → let a = c.args in
    c.open_at-x.result ≡ looked_in a.settings a.room.now a.reading (sent a.caller a.key.now)
slot_is c =
    let a = c.args in
    let key = sent a.caller a.key.now in
    looked-is Suppressed a.settings a.room.now a.reading key _ _ _ c.open_at-x.result c.open_at-x.ensures
    c.look_ticks-look.ensures c.window_ticks-window.ensures c.address-addressed.ensures

none-early : (c : goal.In_ok-misfit) → let a = c.args in
    early Suppressed a.settings a.room.now a.reading (sent a.caller a.key.now) ≡ 0
none-early c =
    ruled-ok _ c.in_ok-misfit.ensures

none-left : (c : goal.In_ok-misfit) → let a = c.args in
    c.standing_of-standing.result.none ≡ none_left a.room.now a.caller
none-left c =
    let a = c.args in
    let key = sent a.caller a.key.now in
    let y = c.standing_of-standing in
    standing-left Suppressed a.settings a.room.now a.reading key y.result y.ensures (none-early c)

-- ---- the needs

pub returns-in_err-fault : goal.returns-in_err-fault
returns-in_err-fault c =
    let a = c.args in
    let key = sent a.caller a.key.now in
    let e : c.from_residual.result ≡ Err c.in_err-fault.field-0.0 = search rules in
    let o = ruled-err _ _ c.in_err-fault.ensures in
    rw e (inc-early true a.settings a.room.now a.reading key _
    (refused-is Suppressed a.settings a.room.now a.reading key true _ _ (fault-early Suppressed a.settings a.room.now a.reading key _ refl o.0) o.0 o.1) a.rate a.count a.draw)

pub misfit-requires : goal.misfit-requires
misfit-requires c =
    let a = c.args in
    let key = sent a.caller a.key.now in
    let q = (passed (goal.at.misfit-requires c).In_ok-fault) in (
      record {
        room = q.0;
        reading = a.reading;
        look = c.look_ticks-look.result;
        is = opened-is Suppressed a.settings a.room.now a.reading key _ _ _ c.open_at-x.result c.open_at-x.ensures
            c.window_ticks-window.ensures c.address-addressed.ensures;
      },
      q.1,
      c.standing_of-standing.ensures,
    )

pub returns-in_err-misfit : goal.returns-in_err-misfit
returns-in_err-misfit c =
    let a = c.args in
    let key = sent a.caller a.key.now in
    let e : c.from_residual-in_err-misfit.result ≡ Err c.in_err-misfit.field-0.0 = search rules in
    let o = ruled-err _ _ c.in_err-misfit.ensures in
    rw e (inc-early true a.settings a.room.now a.reading key _
    (refused-is Suppressed a.settings a.room.now a.reading key true _ _ refl o.0 o.1) a.rate a.count a.draw)

pub returns-in_err-inc_late : goal.returns-in_err-inc_late
returns-in_err-inc_late c =
    let p = none-early (goal.at.returns-in_err-inc_late c).In_ok-misfit in
    let i = slot_is (goal.at.returns-in_err-inc_late c).After-open_at-x in
    let n = none-left (goal.at.returns-in_err-inc_late c).In_ok-misfit in
    let m = c.standing_of-standing in
    let a = c.args in
    let key = sent a.caller a.key.now in
    let x = c.open_at-x.result in
    let e : c.from_residual-in_err-inc_late.result ≡ Err c.in_err-inc_late.field-0.0 = search rules in
    let o = ruled-err _ _ c.in_err-inc_late.ensures in
    rw (e, o.1) (inc-late a.settings a.room.now a.reading key p x i c.place-at.result c.place-at.ensures
    m.result.none n c.lacks_slot-lacks.result c.lacks_slot-lacks.ensures a.rate a.count a.draw c.ring_of-ring.result _ c.ring_of-ring.ensures
    refl o.0)

pub forecast-forecast-requires : goal.forecast-forecast-requires
forecast-forecast-requires c =
    let p = none-early (goal.at.forecast-forecast-requires c).In_ok-misfit in
    let i = slot_is (goal.at.forecast-forecast-requires c).After-open_at-x in
    let n = none-left (goal.at.forecast-forecast-requires c).In_ok-misfit in
    let m = c.standing_of-standing in
    let a = c.args in
    let key = sent a.caller a.key.now in
    let x = c.open_at-x.result in
    inc-total a.settings a.room.now a.reading key p x i c.place-at.result c.place-at.ensures
    m.result.none n c.lacks_slot-lacks.result c.lacks_slot-lacks.ensures a.rate a.count a.draw c.ring_of-ring.result _ c.ring_of-ring.ensures
    refl (ruled-ok _ c.in_ok-inc_late.ensures)

pub decide-outcome-requires : goal.decide-outcome-requires
decide-outcome-requires c =
    let p = none-early (goal.at.decide-outcome-requires c).In_ok-misfit in
    let i = slot_is (goal.at.decide-outcome-requires c).After-open_at-x in
    let a = c.args in
    let key = sent a.caller a.key.now in
    let x = c.open_at-x.result in
    let q = (passed (goal.at.decide-outcome-requires c).In_ok-fault) in
    (in-room a.settings a.room.now a.reading key p x i, q.1.cache-high)

pub apply-requires : goal.apply-requires
apply-requires c =
    let p = none-early (goal.at.apply-requires c).In_ok-misfit in
    let i = slot_is (goal.at.apply-requires c).After-open_at-x in
    let n = none-left (goal.at.apply-requires c).In_ok-misfit in
    let m = c.standing_of-standing in
    let a = c.args in
    let key = sent a.caller a.key.now in
    let x = c.open_at-x.result in
    subst (λ (n : ℕ). Applies a.room.now c.place-at.result n a.reading c.inc_change-change.result) (sym c.join_ticks-join.ensures)
    (inc-applies a.settings a.room.now a.reading key p x i c.place-at.result c.place-at.ensures
    m.result.none n c.lacks_slot-lacks.result c.lacks_slot-lacks.ensures a.rate a.count a.draw c.ring_of-ring.result _ c.ring_of-ring.ensures
    refl (ruled-ok _ c.in_ok-inc_late.ensures) c.decide-outcome.result c.limit_for-limit.result c.forecast-forecast.result
    c.limit_for-limit.ensures c.forecast-forecast.ensures
    c.decide-outcome.ensures c.inc_change-change.result c.inc_change-change.ensures)

pub returns : goal.returns
returns c =
    let p = none-early (goal.at.returns c).In_ok-misfit in
    let i = slot_is (goal.at.returns c).After-open_at-x in
    let n = none-left (goal.at.returns c).In_ok-misfit in
    let m = c.standing_of-standing in
    let a = c.args in
    let key = sent a.caller a.key.now in
    let x = c.open_at-x.result in
    inc-done a.settings a.room.now a.reading key p x i c.place-at.result c.place-at.ensures
    m.result.none n c.lacks_slot-lacks.result c.lacks_slot-lacks.ensures a.rate a.count a.draw c.ring_of-ring.result _ c.ring_of-ring.ensures
    refl (ruled-ok _ c.in_ok-inc_late.ensures) c.decide-outcome.result c.limit_for-limit.result c.forecast-forecast.result
    c.limit_for-limit.ensures c.forecast-forecast.ensures
    c.decide-outcome.ensures c.inc_change-change.result c.apply.new.w c.inc_change-change.ensures
    (c.apply.ensures ∙
    ap (λ (n : ℕ). applied a.room.now c.place-at.result key n a.reading c.inc_change-change.result) c.join_ticks-join.ensures)
