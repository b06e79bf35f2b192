-- The slot opened is the key's, what it planned can be carried out, and every refusal is settled before that.
-- Assumes nothing.
use Rattle.std.proofs.Common.{rules, ◌≡◌, Err, refl, sym, ap, ap₂, subst, ◌∙◌, false, ℕ}
use Rattle.common.specs.Limits.{absolute_word}
use Rattle.common.specs.Ranges.{rate_ok}
use Rattle.common.specs.Refusals.{first}
use Rattle.common.proofs.Ruled.{ruled-ok, ruled-err}
use Rattle.room.specs.Room.{Room, ring_of}
use Rattle.parties.specs.Parties.{sent}
use Rattle.settings.specs.Settings.{window_in, Proper}
use Rattle.settings.specs.Clock.{ticks_in}
use Rattle.rules.specs.declared.RoomKind.TheVariants.{Absolute}
use Rattle.opened.specs.Slot.{pick_slot, first_look}
use Rattle.judge.proofs.Laws.{refused-is, passed_is, standing-left, fault-early, no-fault, opened-is, plain-is}
use Rattle.change.specs.Words.{Applies, applied}
use Rattle.plan.specs.Plan.{lacks_at}
use Rattle.absolute_test.specs.Test.{allowed_at, decided_at}
use Rattle.absolute_opened.specs.Opened.{clears_at, inc_refusals, inc_change}
use Rattle.absolute_verdicts.specs.Opened.{look_in}
use Rattle.absolute_verdicts.specs.Told.{Finds, inc-refused, inc-late, inc-fits, inc-done}
use Rattle.absolute_inc.proofs.try_inc.Goals as goal
use Rattle.absolute_inc.proofs.try_inc.Goals.{After-inc_change-change, After-clears-out, In_ok-fault}

-- ---- what is known past 1 to 5, past the other refusals, and once the slot is looked at

passed : (c : goal.In_ok-fault) → let a = c.args in Room a.room.now × Proper a.settings
passed c =
    let a = c.args in
    no-fault Absolute a.settings a.room.now a.reading (sent a.caller a.key.now) (ruled-ok _ c.in_ok-fault.ensures)

-- the number of what turns it away then
abbrev turns : (c : goal.After-clears-out) → ℕ
turns c =
    let a = c.args in
    first (inc_refusals (ring_of a.room.now) c.join_ticks-join.result a.reading a.count (rate_ok a.rate.0) c.allows_first-may.result
    (lacks_at c.standing_of-standing.result.none c.open_at-x.result) c.clears-out.result c.open_at-x.result)

found : (c : goal.After-clears-out) → let a = c.args in
    Finds a.settings a.room.now a.reading (sent a.caller a.key.now) a.rate a.count
    (record { none = c.standing_of-standing.result.none; slot = c.open_at-x.result }) c.place-at.result
    c.allows_first-may.result c.clears-out.result (turns c)
found c =
    let a = c.args in
    let key = sent a.caller a.key.now in
    let slot = c.open_at-x.result in
    let y = c.standing_of-standing in
    let e = ruled-ok _ c.in_ok-misfit.ensures in
    record {
      goes = passed_is Absolute a.settings a.room.now a.reading key false y.result.none slot e
          (standing-left Absolute a.settings a.room.now a.reading key y.result y.ensures e)
          (plain-is Absolute a.settings a.room.now a.reading key _ _ slot c.open_at-x.ensures c.window_ticks-window.ensures c.address-address.ensures);
      place_is = c.place-at.ensures;
      may-is = c.allows_first-may.ensures ∙
          ap₂ (λ (limit look : ℕ). allowed_at limit (first_look look a.reading slot)) c.cut_limit-limit.ensures c.look_ticks-look.ensures;
      out-is = c.clears-out.ensures ∙
          ap₂ (λ (ticks limit : ℕ). clears_at (ring_of a.room.now) ticks a.reading a.count limit slot) c.join_ticks-join.ensures
          c.cut_limit-limit.ensures;
      number_is = ap (λ (ticks : ℕ). first (inc_refusals (ring_of a.room.now) ticks a.reading a.count (rate_ok a.rate.0) c.allows_first-may.result
          (lacks_at y.result.none slot) c.clears-out.result slot)) c.join_ticks-join.ensures;
    }

looked : (c : goal.After-inc_change-change) → let a = c.args in
    c.looked_unless-looked.result ≡ pick_slot c.allows_first-may.result c.open_at-x.result (look_in a.settings a.reading c.open_at-x.result)
looked c =
    let a = c.args in
    let slot = c.open_at-x.result in
    c.looked_unless-looked.ensures ∙
    ap (λ (look : ℕ). pick_slot c.allows_first-may.result slot (first_look look a.reading slot)) c.look_ticks-look.ensures

made : (c : goal.After-inc_change-change) → let a = c.args in
    let slot = c.open_at-x.result in
    c.inc_change-change.result ≡
    inc_change (absolute_word a.rate.0 (window_in a.settings)) a.count c.allows_first-may.result c.clears-out.result slot
    (pick_slot c.allows_first-may.result slot (look_in a.settings a.reading slot))
made c =
    let a = c.args in
    c.inc_change-change.ensures ∙
    ap (inc_change (absolute_word a.rate.0 (window_in a.settings)) a.count c.allows_first-may.result c.clears-out.result c.open_at-x.result)
    (looked c)

-- ---- the needs

pub returns-in_err-fault : goal.returns-in_err-fault
returns-in_err-fault c =
    let a = c.args in
    let key = sent a.caller a.key.now in
    let r = c.in_err-fault.field-0 in
    let e : c.from_residual.result ≡ Err c.in_err-fault.field-0.0 = search rules in
    let o = ruled-err _ _ c.in_err-fault.ensures in
    rw e (inc-refused a.settings a.room.now a.reading key a.rate a.count _
    (refused-is Absolute a.settings a.room.now a.reading key false _ _ (fault-early Absolute a.settings a.room.now a.reading key _ refl o.0) o.0 o.1))

pub misfit-requires : goal.misfit-requires
misfit-requires c =
    let a = c.args in
    let k = (passed (goal.at.misfit-requires c).In_ok-fault) in (
      record {
        room = k.0;
        reading = a.reading;
        look = c.window_ticks-window.result;
        is = opened-is Absolute a.settings a.room.now a.reading (sent a.caller a.key.now) _ _ _ c.open_at-x.result c.open_at-x.ensures
            c.window_ticks-window.ensures c.address-address.ensures;
      },
      k.1,
      c.standing_of-standing.ensures,
    )

pub returns-in_err-misfit : goal.returns-in_err-misfit
returns-in_err-misfit c =
    let a = c.args in
    let key = sent a.caller a.key.now in
    let e : c.from_residual-in_err-misfit.result ≡ Err c.in_err-misfit.field-0.0 = search rules in
    let o = ruled-err _ _ c.in_err-misfit.ensures in
    rw e (inc-refused a.settings a.room.now a.reading key a.rate a.count _
    (refused-is Absolute a.settings a.room.now a.reading key false _ _ refl o.0 o.1))

pub returns-in_err-late : goal.returns-in_err-late
returns-in_err-late c =
    let e : c.from_residual-in_err-late.result ≡ Err c.in_err-late.field-0.0 = search rules in
    let o = ruled-err _ _ c.in_err-late.ensures in
    rw (e, o.1) (inc-late (found (goal.at.returns-in_err-late c).After-clears-out) o.0)

pub apply-requires : goal.apply-requires
apply-requires c =
    let f = found (goal.at.apply-requires c).After-clears-out in
    let a = c.args in
    subst (λ (ticks : ℕ). Applies a.room.now c.place-at.result ticks a.reading c.inc_change-change.result) (sym c.join_ticks-join.ensures)
    (inc-fits f (ruled-ok _ c.in_ok-late.ensures) c.inc_change-change.result (made (goal.at.apply-requires c).After-inc_change-change))

pub returns : goal.returns
returns c =
    let f = found (goal.at.returns c).After-clears-out in
    let a = c.args in
    inc-done f (ruled-ok _ c.in_ok-late.ensures) c.inc_change-change.result (made (goal.at.returns c).After-inc_change-change) c.apply.new.w
    (c.apply.ensures ∙
    ap (λ (ticks : ℕ). applied a.room.now c.place-at.result (sent a.caller a.key.now) ticks a.reading c.inc_change-change.result)
    c.join_ticks-join.ensures)
    c.decided-answer.result
    (c.decided-answer.ensures ∙
    ap (decided_at (ticks_in a.settings) a.settings.window_size a.reading c.allows_first-may.result) (looked (goal.at.returns c).After-inc_change-change))
