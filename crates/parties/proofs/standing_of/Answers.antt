-- 5 by the census, then what the other two say.
-- Assumes nothing.
use mathlib.Core.Path.{◌≡◌, sym, ◌∙◌}
use mathlib.Core.Bool.{false}
use borrow.Author.Tests.{not-true, not-false}
use Rattle.common.specs.Refusals.{first}
use Rattle.parties.specs.Parties.{ours, standing_of}
use Rattle.parties.proofs.Laws.{census-ours, census-counts}
use Rattle.parties.proofs.standing_of.Goals as goal

pub returns-then-not-held : goal.returns-then-not-held
unfolding standing_of first
returns-then-not-held c =
    let z = c.census-held in
    let w = c.args.w.now in
    let e : ours w ≡ false = sym (census-ours w z.result z.ensures) ∙ not-true z.result.ours c.if-not-held.true in
    sym (rw e)

pub check-requires : goal.check-requires
check-requires c =
    let z = c.census-held in
    let e = sym (census-ours c.args.w.now z.result z.ensures) ∙ not-false z.result.ours c.if-not-held.false in
    (c.requires, census-counts c.args.w.now z.result z.ensures e)

pub none_left-requires : goal.none_left-requires
none_left-requires c =
    let z = c.census-held in
    let e = sym (census-ours c.args.w.now z.result z.ensures) ∙ not-false z.result.ours c.if-not-held.false in
    census-counts c.args.w.now z.result z.ensures e

pub returns : goal.returns
unfolding standing_of first
returns c =
    let z = c.census-held in
    let e = sym (census-ours c.args.w.now z.result z.ensures) ∙ not-false z.result.ours c.if-not-held.false in
    sym (rw (e, c.check.ensures, c.none_left.ensures))
