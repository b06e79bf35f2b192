-- Held, stopped, or the limiter's.
-- Assumes nothing.
use Rattle.std.proofs.Common.{rules, ◌≡◌, Err, refl, sym, ◌∙◌}
use Rattle.common.proofs.Ruled.{unless-ok, unless-err}
use Rattle.parties.specs.Parties.{sent}
use Rattle.gateway.proofs.Laws.{Past, told-as, stopped, not_stopped, stands, shot-again, shot-passed}
use Rattle.gateway.proofs.shot.Goals as goal
use Rattle.gateway.proofs.shot.Goals.{In_ok-at}

past : (c : goal.In_ok-at) → let a = c.args in
    let key = sent a.caller a.controller.now in
    Past a.settings a.table.now a.room.now a.reading key a.number a.rate a.draw c.look-seen.result c.look-seen.ensures
past c =
    let a = c.args in
    let key = sent a.caller a.controller.now in
    not_stopped a.settings a.table.now a.room.now a.reading key a.number a.rate a.draw c.look-seen.result
    c.look-seen.ensures (sym (unless-ok _ _ _ c.in_ok-at.ensures).0)

pub returns-then-is_again : goal.returns-then-is_again
returns-then-is_again c =
    let x = c.look-seen in
    let a = c.args in
    let key = sent a.caller a.controller.now in
    shot-again a.settings a.table.now a.room.now a.reading key a.number a.rate a.draw x.result x.ensures
    (sym c.is_again.ensures ∙ c.if-is_again.true)

pub returns-in_err-at : goal.returns-in_err-at
returns-in_err-at c =
    let a = c.args in
    let key = sent a.caller a.controller.now in
    let e : c.from_residual.result ≡ Err c.in_err-at.field-0.0 = search rules in
    let o = unless-err _ _ _ c.in_err-at.ensures in
    rw (e, o.1) (stopped a.settings a.table.now a.room.now a.reading key a.number a.rate a.draw c.look-seen.result c.look-seen.ensures _ refl o.0)

pub ask-requires : goal.ask-requires
ask-requires c =
    let a = c.args in
    let key = sent a.caller a.controller.now in
    rw (unless-ok _ _ _ c.in_ok-at.ensures).1
    (stands a.settings a.table.now a.room.now a.reading key a.number a.rate a.draw c.look-seen.result
    c.look-seen.ensures (past (goal.at.ask-requires c).In_ok-at))

pub returns : goal.returns
returns c =
    let a = c.args in
    let key = sent a.caller a.controller.now in
    told-as
    (shot-passed a.settings a.table.now a.room.now a.reading key a.number a.rate a.draw c.look-seen.result
    c.look-seen.ensures (past (goal.at.returns c).In_ok-at) (sym c.is_again.ensures ∙ c.if-is_again.false))
    c.ask.ensures
