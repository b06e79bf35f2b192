-- The slot judged is the key's, and what it planned can be carried out.
-- Assumes nothing.
use Rattle.std.proofs.Common.{rules, ◌≡◌, Err, ap, sym, subst, ◌∙◌}
use Prim.Native.Nat.{ℕ}
use Rattle.parties.specs.Parties.{sent}
use Rattle.change.specs.Words.{Applies, applied}
use Rattle.absolute_verdicts.specs.Told.{bucket-fits, get_refused, get-fits, get-done}
use Rattle.absolute_reads.proofs.get.Goals as goal

pub returns-in_err-j : goal.returns-in_err-j
returns-in_err-j c =
    let a = c.args in
    let e : c.from_residual.result ≡ Err c.in_err-j.field-0.0 = search rules in
    rw e (get_refused a.settings a.room.now a.reading (sent a.caller a.key.now) _ c.in_err-j.ensures)

pub join_ticks-join-requires : goal.join_ticks-join-requires
join_ticks-join-requires c =
    let a = c.args in
    bucket-fits a.settings a.room.now a.reading (sent a.caller a.key.now) _ c.in_ok-j.ensures

pub apply-requires : goal.apply-requires
apply-requires c =
    let a = c.args in
    subst (λ (ticks : ℕ). Applies a.room.now c.in_ok-j.j.slot.at ticks a.reading c.get_change.result) (sym c.join_ticks-join.ensures)
    (get-fits a.settings a.room.now a.reading (sent a.caller a.key.now) _ c.in_ok-j.ensures c.get_change.result c.get_change.ensures)

pub returns : goal.returns
returns c =
    let a = c.args in
    let key = sent a.caller a.key.now in
    get-done a.settings a.room.now a.reading key _ c.in_ok-j.ensures c.get_change.result c.get_change.ensures c.apply.new.w
    (c.apply.ensures ∙
    ap (λ (ticks : ℕ). applied a.room.now c.in_ok-j.j.slot.at key ticks a.reading c.get_change.result) c.join_ticks-join.ensures)
