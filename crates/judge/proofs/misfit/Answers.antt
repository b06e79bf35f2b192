-- Each refusal is met where those before it are not.
-- Assumes nothing.
use mathlib.Core.Path.{◌≡◌, ◌∙◌, sym, ap}
use mathlib.Core.Bool.{true}
use Rattle.parties.specs.Parties.{sent, ours}
use Rattle.parties.proofs.Laws.{standing-ours, standing-turns}
use Rattle.common.specs.Refusals.{ruled}
use Rattle.common.proofs.Ruled.{ruled-at}
use native.Mathlib.Omega.{arith}
use Rattle.opened.specs.Sound.{addressed, sound_at}
use Rattle.judge.proofs.Laws.{early-stray, early-unsound, early-reading, early-key, early-late}
use borrow.Author.Tests.{not-true, not-false}
use Rattle.judge.proofs.misfit.Goals as goal
use Rattle.judge.proofs.misfit.Goals.{Else-not-standing, Else-not-sound_at}

-- ---- what is known past 5

theirs : (c : goal.Else-not-standing) → ours c.args.w.now ≡ true
theirs c =
    sym (standing-ours c.args.w.now c.args.caller c.args.standing c.requires.2) ∙ not-false _ c.if-not-standing.false

fits : (c : goal.Else-not-sound_at) → sound_at c.args.kind c.args.settings c.args.w.now (addressed c.args.w.now (sent c.args.caller c.args.key.now)) ≡ true
fits c =
    let e = c.sound_at in sym e.ensures ∙ c.if-not-sound_at.false

-- ---- the needs

pub returns-then-not-standing : goal.returns-then-not-standing
returns-then-not-standing c =
    ruled-at 5 _ (sym (early-stray c.args.kind c.args.settings c.args.w.now c.args.reading (sent c.args.caller c.args.key.now) c.requires.1
    c.requires.0.room (sym (standing-ours c.args.w.now c.args.caller c.args.standing c.requires.2) ∙ not-true _ c.if-not-standing.true))) (λ z. omega (arith, z))

pub sound_at-requires : goal.sound_at-requires
sound_at-requires c =
    c.requires.0

pub returns-then-not-sound_at : goal.returns-then-not-sound_at
returns-then-not-sound_at c =
    let e = c.sound_at in
    ruled-at 5 _ (sym (early-unsound c.args.kind c.args.settings c.args.w.now c.args.reading (sent c.args.caller c.args.key.now) c.requires.1
    c.requires.0.room (theirs (goal.at.returns-then-not-sound_at c).Else-not-standing) (sym e.ensures ∙ c.if-not-sound_at.true))) (λ z. omega (arith, z))

pub returns-then-reading-w : goal.returns-then-reading-w
returns-then-reading-w c =
    ruled-at 6 _ (sym (early-reading c.args.kind c.args.settings c.args.w.now c.args.reading (sent c.args.caller c.args.key.now) c.requires.1
    c.requires.0.room (theirs (goal.at.returns-then-reading-w c).Else-not-standing) (fits (goal.at.returns-then-reading-w c).Else-not-sound_at) c.if-reading-w.true)) (λ z. omega (arith, z))

pub returns-then-key-gt-LONGEST_KEY : goal.returns-then-key-gt-LONGEST_KEY
returns-then-key-gt-LONGEST_KEY c =
    ruled-at 7 _ (sym (early-key c.args.kind c.args.settings c.args.w.now c.args.reading (sent c.args.caller c.args.key.now) c.requires.1
    c.requires.0.room (theirs (goal.at.returns-then-key-gt-LONGEST_KEY c).Else-not-standing) (fits (goal.at.returns-then-key-gt-LONGEST_KEY c).Else-not-sound_at) c.if-reading-w.false c.if-key-gt-LONGEST_KEY.true)) (λ z. omega (arith, z))

pub returns : goal.returns
returns c =
    standing-turns c.args.w.now c.args.caller c.args.standing c.requires.2 (theirs (goal.at.returns c).Else-not-standing) ∙
    ap ruled (sym (early-late c.args.kind c.args.settings c.args.w.now c.args.reading (sent c.args.caller c.args.key.now) c.requires.1
    c.requires.0.room (theirs (goal.at.returns c).Else-not-standing) (fits (goal.at.returns c).Else-not-sound_at) c.if-reading-w.false c.if-key-gt-LONGEST_KEY.false))
