-- Settings first, then the lengths, whose the slots are, the reading, and the caller.
-- Assumes nothing.
use mathlib.Core.Path.{◌≡◌, ◌∙◌, sym, refl}
use mathlib.Core.Bool.{true}
use borrow.Author.Tests.{not-true, not-false}
use Rattle.base.specs.Decides.{decided, undecided, not_so}
use Rattle.common.specs.Refusals.{first}
use Rattle.settings.specs.Settings.{faults}
use Rattle.room.specs.Room.{Room}
use Rattle.room.specs.Laws.{sized-room}
use Rattle.parties.specs.Parties.{ours}
use Rattle.parties.proofs.Laws.{census-ours, census-counts}
use Rattle.clearing.specs.Clear.{clear-fault, clear-lengths, clear-stray, clear-reading, clear-late}
use native.Mathlib.Omega.{arith}
use Rattle.std.proofs.Common.{rules, ap, Err}
use Rattle.common.specs.Refusals.{ruled}
use Rattle.common.proofs.Ruled.{ruled-ok, ruled-err, ruled-at}
use Rattle.std.proofs.Common.{not}
use Rattle.clearing.proofs.judge.Goals as goal
use Rattle.clearing.proofs.judge.Goals.{Else-not-held, Else-not-sized}

fine : (c : goal.Else-not-sized) → let a = c.args in (first (faults a.settings) ≡ 0) × Room a.w.now
fine c =
    let k = c.sized in
    (ruled-ok _ c.in_ok-check.ensures, decided k.result (ap not c.if-not-sized.false) k.ensures)

theirs : (c : goal.Else-not-held) → ours c.args.w.now ≡ true
theirs c =
    let a = c.args in
    sym (census-ours a.w.now c.census-held.result c.census-held.ensures) ∙ not-false c.census-held.result.ours c.if-not-held.false

pub returns-in_err-check : goal.returns-in_err-check
returns-in_err-check c =
    let a = c.args in
    let e : c.from_residual.result ≡ Err c.in_err-check.field-0.0 = search rules in
    let o = ruled-err _ _ c.in_err-check.ensures in
    e ∙ ap Err o.1 ∙ ruled-at _ _ (clear-fault a.settings a.w.now a.reading a.caller _ refl o.0) o.0

pub returns-then-not-sized : goal.returns-then-not-sized
returns-then-not-sized c =
    let a = c.args in
    let p = ruled-ok _ c.in_ok-check.ensures in
    let k = c.sized in
    ruled-at 5 _ (clear-lengths a.settings a.w.now a.reading a.caller p
    (not_so _ (λ z. undecided k.result (ap not c.if-not-sized.true) k.ensures (sized-room a.w.now z)))) (λ z. omega (arith, z))

pub census-held-requires : goal.census-held-requires
census-held-requires c =
    let k = c.sized in decided k.result (ap not c.if-not-sized.false) k.ensures

-- ---- what is known past the lengths, and past 5

pub bounds-w-2 : goal.bounds-w-2
bounds-w-2 c =
    let f = (fine (goal.at.bounds-w-2 c).Else-not-sized) in omega (arith, f.1.long)

pub returns-then-not-held : goal.returns-then-not-held
returns-then-not-held c =
    let a = c.args in
    let f = (fine (goal.at.returns-then-not-held c).Else-not-sized) in
    ruled-at 5 _ (clear-stray a.settings a.w.now a.reading a.caller f.0 f.1
    (sym (census-ours a.w.now c.census-held.result c.census-held.ensures) ∙ not-true c.census-held.result.ours c.if-not-held.true)) (λ z. omega (arith, z))

pub returns-then-reading-w : goal.returns-then-reading-w
returns-then-reading-w c =
    let a = c.args in
    let f = (fine (goal.at.returns-then-reading-w c).Else-not-sized) in
    ruled-at 6 _ (clear-reading a.settings a.w.now a.reading a.caller f.0 f.1 (theirs (goal.at.returns-then-reading-w c).Else-not-held) c.if-reading-w.true) (λ z. omega (arith, z))

pub check-requires-2 : goal.check-requires-2
check-requires-2 c =
    let a = c.args in
    ((fine (goal.at.check-requires-2 c).Else-not-sized).1, census-counts a.w.now c.census-held.result c.census-held.ensures (theirs (goal.at.check-requires-2 c).Else-not-held))

pub returns : goal.returns
returns c =
    let a = c.args in
    let f = (fine (goal.at.returns c).Else-not-sized) in
    c.check-2.ensures ∙ ap ruled (sym (clear-late a.settings a.w.now a.reading a.caller f.0 f.1 (theirs (goal.at.returns c).Else-not-held) c.if-reading-w.false))
