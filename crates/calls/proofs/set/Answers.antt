-- A refused call leaves the room; another carries the change out, and gives the outcome.
use mathlib.Core.Path.{◌∙◌, sym, ap, subst, refl}
use mathlib.Core.Bool.{Bool, not, ◌&&◌}
use Prim.Native.Nat.{ℕ}
use Rattle.change.specs.Words.{applied, Applies}
use Rattle.parties.specs.Parties.{sent, none_left}
use Rattle.std.proofs.Common.{rules, ◌≡◌, Ok, Err}
use Rattle.common.specs.Refusals.{refuse}
use Rattle.common.proofs.Ruled.{ruled-ok, ruled-err}
use Rattle.judge.proofs.Verdict.{told-as, told-on}
use Rattle.calls.specs.Calls.{judged-passed, judged-early}
use Rattle.calls.specs.Opened.{set_own_of, sets}
use Rattle.calls.specs.Seen.{set-opened}
use Rattle.calls.specs.SetLaws.{set-refused, set-carried, set-done}
use Rattle.calls.proofs.set.Goals as goal

pub returns-in_err-j : goal.returns-in_err-j
returns-in_err-j c =
    let a = c.args in
    let own = set_own_of a.kind a.settings (none_left a.room.now a.caller) a.rate a.comparator a.count a.mode in
    let e : c.from_residual.result ≡ Err c.in_err-j.field-0.0 = search rules in
    told-on e (told-as (set-opened a.kind a.settings a.room.now a.reading (sent a.caller a.key.now) a.rate a.comparator a.count a.mode)
    (judged-early refuse a.kind a.settings a.room.now a.reading (sent a.caller a.key.now) own
    (sets a.kind a.settings a.room.now a.reading (sent a.caller a.key.now) a.rate a.comparator a.count a.mode) _ c.in_err-j.ensures))

pub place-at-requires : goal.place-at-requires
place-at-requires c =
    let a = c.args in
    (judged-passed a.kind a.settings a.room.now a.reading (sent a.caller a.key.now) c.in_ok-j.j c.in_ok-j.ensures
    ).room

pub returns-in_err-check_set : goal.returns-in_err-check_set
returns-in_err-check_set c =
    let a = c.args in
    let none = c.lacks_unless-none.ensures ∙ ap (λ (lacks : Bool). not c.idle-still.result && lacks) c.lacks_slot.ensures in
    let e : c.from_residual-in_err-check_set.result ≡ Err c.in_err-check_set.field-0.0 = search rules in
    let o = ruled-err _ _ c.in_err-check_set.ensures in
    told-on (e ∙ ap Err o.1) (set-refused a.kind a.settings a.room.now a.reading (sent a.caller a.key.now) a.rate a.comparator a.count a.mode
    c.in_ok-j.j c.in_ok-j.ensures c.limit_of-limit.result c.idle-still.result c.place-at.result c.lacks_unless-none.result
    (record { limit_is = c.limit_of-limit.ensures; still-is = c.idle-still.ensures; place_is = c.place-at.ensures; none_is = none }) _ refl o.0)

pub join_ticks-join-requires : goal.join_ticks-join-requires
join_ticks-join-requires c =
    let a = c.args in
    (judged-passed a.kind a.settings a.room.now a.reading (sent a.caller a.key.now) c.in_ok-j.j c.in_ok-j.ensures
    ).settings.bucket-high

pub apply-requires : goal.apply-requires
apply-requires c =
    let a = c.args in
    let none = c.lacks_unless-none.ensures ∙ ap (λ (lacks : Bool). not c.idle-still.result && lacks) c.lacks_slot.ensures in
    subst (λ (ticks : ℕ). Applies a.room.now c.place-at.result ticks a.reading c.setting-change.result) (sym c.join_ticks-join.ensures)
    (set-carried a.kind a.settings a.room.now a.reading (sent a.caller a.key.now) a.rate a.comparator a.count a.mode
    c.in_ok-j.j c.in_ok-j.ensures c.limit_of-limit.result c.idle-still.result c.place-at.result c.lacks_unless-none.result
    (record { limit_is = c.limit_of-limit.ensures; still-is = c.idle-still.ensures; place_is = c.place-at.ensures; none_is = none })
    (ruled-ok _ c.in_ok-check_set.ensures) c.setting-change.result c.setting-change.ensures)

pub returns : goal.returns
returns c =
    let a = c.args in
    let none = c.lacks_unless-none.ensures ∙ ap (λ (lacks : Bool). not c.idle-still.result && lacks) c.lacks_slot.ensures in
    set-done a.kind a.settings a.room.now a.reading (sent a.caller a.key.now) a.rate a.comparator a.count a.mode
    c.in_ok-j.j c.in_ok-j.ensures c.limit_of-limit.result c.idle-still.result c.place-at.result c.lacks_unless-none.result
    (record { limit_is = c.limit_of-limit.ensures; still-is = c.idle-still.ensures; place_is = c.place-at.ensures; none_is = none })
    (ruled-ok _ c.in_ok-check_set.ensures) c.setting-change.result c.setting-change.ensures _ _ c.outcome.ensures
    (c.apply.ensures ∙
    ap (λ (ticks : ℕ). applied a.room.now c.place-at.result (sent a.caller a.key.now) ticks a.reading c.setting-change.result)
    c.join_ticks-join.ensures)
