-- Each refusal is met where those before it are not.
-- Assumes nothing.
use mathlib.Core.Path.{◌≡◌, sym, ap, ◌∙◌}
use native.Mathlib.Omega.{arith}
use Rattle.common.specs.Refusals.{ruled}
use Rattle.common.proofs.Ruled.{ruled-at}
use mathlib.Core.Bool.{true}
use borrow.Author.Tests.{not-true, not-false}
use Rattle.parties.specs.Parties.{ours}
use Rattle.parties.proofs.Laws.{census-ours, census-counts}
use Rattle.cleanup.specs.Cleanup.{all_pass}
use Rattle.cleanup.specs.Laws.{number-stray, number-unsound, number-reading, number-late}
use Rattle.cleanup.proofs.judge_room.Goals as goal
use Rattle.cleanup.proofs.judge_room.Goals.{Else-not-all_pass, Else-not-held}

-- ---- what is known past 5

theirs : (c : goal.Else-not-held) → ours c.args.w.now ≡ true
theirs c =
    let a = c.args in
    sym (census-ours a.w.now c.census-held.result c.census-held.ensures) ∙ not-false c.census-held.result.ours c.if-not-held.false

passes : (c : goal.Else-not-all_pass) → let a = c.args in all_pass a.kind a.settings a.w.now ≡ true
passes c =
    let p = c.all_pass in sym p.ensures ∙ c.if-not-all_pass.false

-- ---- the needs

pub returns-then-not-held : goal.returns-then-not-held
returns-then-not-held c =
    let a = c.args in
    ruled-at 5 _ (number-stray a.kind a.settings a.w.now a.reading a.caller c.requires.1 c.requires.0
    (sym (census-ours a.w.now c.census-held.result c.census-held.ensures) ∙ not-true c.census-held.result.ours c.if-not-held.true)) (λ z. omega (arith, z))

pub returns-then-not-all_pass : goal.returns-then-not-all_pass
returns-then-not-all_pass c =
    let a = c.args in
    ruled-at 5 _ (number-unsound a.kind a.settings a.w.now a.reading a.caller c.requires.1 c.requires.0 (theirs (goal.at.returns-then-not-all_pass c).Else-not-held)
    (sym c.all_pass.ensures ∙ c.if-not-all_pass.true)) (λ z. omega (arith, z))

pub returns-then-reading-w : goal.returns-then-reading-w
returns-then-reading-w c =
    let a = c.args in
    ruled-at 6 _ (number-reading a.kind a.settings a.w.now a.reading a.caller c.requires.1 c.requires.0 (theirs (goal.at.returns-then-reading-w c).Else-not-held) (passes (goal.at.returns-then-reading-w c).Else-not-all_pass) c.if-reading-w.true) (λ z. omega (arith, z))

pub check-requires : goal.check-requires
check-requires c =
    (c.requires.0, census-counts c.args.w.now c.census-held.result c.census-held.ensures (theirs (goal.at.check-requires c).Else-not-held))

pub returns : goal.returns
returns c =
    let a = c.args in
    c.check.ensures ∙
    ap ruled (sym (number-late a.kind a.settings a.w.now a.reading a.caller c.requires.1 c.requires.0 (theirs (goal.at.returns c).Else-not-held) (passes (goal.at.returns c).Else-not-all_pass)
    c.if-reading-w.false))
