-- The settings and lengths, then the rest.
-- Assumes nothing.
use mathlib.Core.Path.{◌∙◌, ap, refl}
use Prim.Native.Nat.{ℕ}
use Rattle.parties.specs.Parties.{sent}
use Rattle.opened.specs.Slot.{first_look}
use Rattle.judge.specs.Judge.{slot_in}
use Rattle.std.proofs.Common.{rules, ◌≡◌, Err}
use Rattle.common.proofs.Ruled.{ruled-ok, ruled-err}
use Rattle.judge.proofs.Laws.{refused-is, passed_is, standing-left, fault-early, no-fault, opened-is, slot-by}
use Rattle.judge.proofs.judge.Goals as goal

pub returns-in_err-fault : goal.returns-in_err-fault
returns-in_err-fault c =
    let s = c.args.settings in
    let w = c.args.w.now in
    let key = sent c.args.caller c.args.key.now in
    let t = c.args.reading in
    let e : c.from_residual.result ≡ Err c.in_err-fault.field-0.0 = search rules in
    let o = ruled-err _ _ c.in_err-fault.ensures in
    e ∙ refused-is c.args.kind s w t key c.args.first _ _ (fault-early c.args.kind s w t key _ refl o.0) o.0 o.1

pub misfit-requires : goal.misfit-requires
misfit-requires c =
    let s = c.args.settings in
    let w = c.args.w.now in
    let key = sent c.args.caller c.args.key.now in
    let t = c.args.reading in
    let o = no-fault c.args.kind s w t key (ruled-ok _ c.in_ok-fault.ensures) in
    let x = c.open_at-x in
    let l = c.look_of-look in
    let n = c.window_ticks-window in (
      record {
        room = o.0;
        reading = t;
        look = l.result;
        is = opened-is c.args.kind s w t key l.result n.result c.address.result x.result x.ensures n.ensures
            c.address.ensures;
      },
      o.1,
      c.standing_of-standing.ensures,
    )

pub returns-in_err-misfit : goal.returns-in_err-misfit
returns-in_err-misfit c =
    let s = c.args.settings in
    let w = c.args.w.now in
    let key = sent c.args.caller c.args.key.now in
    let t = c.args.reading in
    let e : c.from_residual-in_err-misfit.result ≡ Err c.in_err-misfit.field-0.0 = search rules in
    let o = ruled-err _ _ c.in_err-misfit.ensures in
    e ∙ refused-is c.args.kind s w t key c.args.first _ _ refl o.0 o.1

pub returns : goal.returns
returns c =
    let s = c.args.settings in
    let w = c.args.w.now in
    let key = sent c.args.caller c.args.key.now in
    let t = c.args.reading in
    let x = c.open_at-x in
    let i = c.address in
    let l = c.look_of-look in
    let n = c.window_ticks-window in
    let z = c.standing_of-standing in
    let e = ruled-ok _ c.in_ok-misfit.ensures in
    passed_is c.args.kind s w t key c.args.first z.result.none x.result e (standing-left c.args.kind s w t key z.result z.ensures e)
    (opened-is c.args.kind s w t key l.result n.result i.result x.result x.ensures n.ensures i.ensures ∙
    ap (λ (look : ℕ). first_look look t (slot_in s w t key)) l.ensures ∙ slot-by c.args.kind s w t key c.args.first)
