-- A refused call leaves the room; another frees the slot, and gives what it held.
use mathlib.Core.Path.{◌∙◌, sym, ap, subst}
use Prim.Native.Nat.{ℕ}
use Rattle.settings.specs.Clock.{join_ticks}
use Rattle.change.specs.declared.Change.{Change}
use Rattle.change.specs.Words.{applied, Applies}
use Rattle.calls.specs.Calls.{judged-passed, judged-applies, judged-early, judged-done}
use Rattle.shared_opened.specs.Opened.{deleting}
use Rattle.parties.specs.Parties.{sent}
use Rattle.std.proofs.Common.{rules, ◌≡◌, Ok, Err}
use Rattle.common.specs.Refusals.{refuse}
use Rattle.judge.proofs.Verdict.{told-as, told-on}
use Rattle.calls.specs.Opened.{deletes, no_own, none-own}
use Rattle.calls.specs.Applies.{delete-applies}
use Rattle.calls.specs.Seen.{delete-opened}
use Rattle.calls.proofs.delete.Goals as goal

pub returns-in_err-j : goal.returns-in_err-j
returns-in_err-j c =
    let a = c.args in
    let e : c.from_residual.result ≡ Err c.in_err-j.field-0.0 = search rules in
    told-on e (told-as (delete-opened a.kind a.settings a.room.now a.reading (sent a.caller a.key.now))
    (judged-early refuse a.kind a.settings a.room.now a.reading (sent a.caller a.key.now) no_own
    (deletes a.settings a.room.now a.reading (sent a.caller a.key.now)) _ c.in_err-j.ensures))

pub join_ticks-join-requires : goal.join_ticks-join-requires
join_ticks-join-requires c =
    let a = c.args in
    (judged-passed a.kind a.settings a.room.now a.reading (sent a.caller a.key.now) c.in_ok-j.j c.in_ok-j.ensures
    ).settings.bucket-high

pub apply-requires : goal.apply-requires
apply-requires c =
    let a = c.args in
    subst (λ (ticks : ℕ). Applies a.room.now c.in_ok-j.j.slot.at ticks a.reading c.deleting.result) (sym c.join_ticks-join.ensures)
    (subst (λ (change : Change). Applies a.room.now c.in_ok-j.j.slot.at (join_ticks a.settings) a.reading change) (sym c.deleting.ensures)
    (judged-applies a.kind a.settings a.room.now a.reading (sent a.caller a.key.now) c.in_ok-j.j c.in_ok-j.ensures deleting
    (delete-applies a.kind a.settings a.room.now a.reading (sent a.caller a.key.now)
    (judged-passed a.kind a.settings a.room.now a.reading (sent a.caller a.key.now) c.in_ok-j.j c.in_ok-j.ensures))))

pub returns : goal.returns
returns c =
    let a = c.args in
    let x = c.in_ok-j.j.slot in
    told-as (delete-opened a.kind a.settings a.room.now a.reading (sent a.caller a.key.now))
    (judged-done a.kind a.settings a.room.now a.reading (sent a.caller a.key.now) c.in_ok-j.j c.in_ok-j.ensures refuse no_own
    (deletes a.settings a.room.now a.reading (sent a.caller a.key.now)) _ _ (none-own x)
    (record {
      answer = ap Ok c.deleted.ensures;
      words = c.apply.ensures ∙
          ap (λ (ticks : ℕ). applied a.room.now x.at (sent a.caller a.key.now) ticks a.reading c.deleting.result)
          c.join_ticks-join.ensures ∙
          ap (applied a.room.now x.at (sent a.caller a.key.now) (join_ticks a.settings) a.reading) c.deleting.ensures;
    }))
