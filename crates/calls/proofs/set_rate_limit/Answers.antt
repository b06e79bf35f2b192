-- A refused call leaves the room; another stores the limit of a known series, and gives the old rate.
use mathlib.Core.Path.{◌∙◌, sym, ap, subst, refl}
use Prim.Native.Nat.{ℕ}
use Rattle.settings.specs.Clock.{join_ticks}
use Rattle.change.specs.declared.Change.{Change}
use Rattle.change.specs.Words.{applied, Applies}
use Rattle.opened.specs.declared.Slot.{Slot}
use Rattle.calls.specs.Calls.{judged-passed, judged-applies, judged-early, judged-own, judged-done}
use Rattle.parties.specs.Parties.{sent}
use Rattle.std.proofs.Common.{rules, ◌≡◌, Ok, Err}
use Rattle.common.specs.Refusals.{refuse}
use Rattle.common.proofs.Ruled.{ruled-ok, ruled-err}
use Rattle.judge.proofs.Verdict.{told-as, told-on}
use Rattle.shared_opened.specs.Opened.{limiting}
use Rattle.calls.specs.Opened.{limits, rate_own_of}
use Rattle.calls.specs.Applies.{rate-applies}
use Rattle.calls.specs.Seen.{rate-opened}
use Rattle.calls.proofs.set_rate_limit.Goals as goal

pub returns-in_err-j : goal.returns-in_err-j
returns-in_err-j c =
    let a = c.args in
    let e : c.from_residual.result ≡ Err c.in_err-j.field-0.0 = search rules in
    told-on e (told-as (rate-opened a.kind a.settings a.room.now a.reading (sent a.caller a.key.now) a.rate)
    (judged-early refuse a.kind a.settings a.room.now a.reading (sent a.caller a.key.now)
    (rate_own_of a.rate)
    (limits a.kind a.settings a.room.now a.reading (sent a.caller a.key.now) a.rate) _ c.in_err-j.ensures))

pub returns-in_err-check_rate : goal.returns-in_err-check_rate
returns-in_err-check_rate c =
    let a = c.args in
    let e : c.from_residual-in_err-check_rate.result ≡ Err c.in_err-check_rate.field-0.0 = search rules in
    let o = ruled-err _ _ c.in_err-check_rate.ensures in
    told-on (e ∙ ap Err o.1) (told-as (rate-opened a.kind a.settings a.room.now a.reading (sent a.caller a.key.now) a.rate)
    (judged-own a.kind a.settings a.room.now a.reading (sent a.caller a.key.now) c.in_ok-j.j c.in_ok-j.ensures refuse
    (rate_own_of a.rate)
    (limits a.kind a.settings a.room.now a.reading (sent a.caller a.key.now) a.rate) _ refl o.0))

pub join_ticks-requires : goal.join_ticks-requires
join_ticks-requires c =
    let a = c.args in
    (judged-passed a.kind a.settings a.room.now a.reading (sent a.caller a.key.now) c.in_ok-j.j c.in_ok-j.ensures
    ).settings.bucket-high

pub apply-requires : goal.apply-requires
apply-requires c =
    let a = c.args in
    let limit = c.limit_of.result in
    subst (λ (ticks : ℕ). Applies a.room.now c.in_ok-j.j.slot.at ticks a.reading c.limiting-change.result) (sym c.join_ticks.ensures)
    (subst (λ (change : Change). Applies a.room.now c.in_ok-j.j.slot.at (join_ticks a.settings) a.reading change) (sym c.limiting-change.ensures)
    (judged-applies a.kind a.settings a.room.now a.reading (sent a.caller a.key.now) c.in_ok-j.j c.in_ok-j.ensures
    (λ (x : Slot). limiting x limit)
    (rate-applies a.kind a.settings a.room.now a.reading (sent a.caller a.key.now) limit
    (judged-passed a.kind a.settings a.room.now a.reading (sent a.caller a.key.now) c.in_ok-j.j c.in_ok-j.ensures))))

pub returns : goal.returns
returns c =
    let a = c.args in
    let x = c.in_ok-j.j.slot in
    told-as (rate-opened a.kind a.settings a.room.now a.reading (sent a.caller a.key.now) a.rate)
    (judged-done a.kind a.settings a.room.now a.reading (sent a.caller a.key.now) c.in_ok-j.j c.in_ok-j.ensures refuse
    (rate_own_of a.rate)
    (limits a.kind a.settings a.room.now a.reading (sent a.caller a.key.now) a.rate) _ _
    (ruled-ok _ c.in_ok-check_rate.ensures)
    (record {
      answer = ap Ok c.old_rate.ensures;
      words = c.apply.ensures ∙
          ap (λ (ticks : ℕ). applied a.room.now x.at (sent a.caller a.key.now) ticks a.reading c.limiting-change.result)
          c.join_ticks.ensures ∙
          ap (applied a.room.now x.at (sent a.caller a.key.now) (join_ticks a.settings) a.reading)
          (c.limiting-change.ensures ∙ ap (limiting x) c.limit_of.ensures);
    }))
