-- `history::shrink` meets its contract: the walk's totals are those of what stays, and where a rest is left there is a bucket that counts more.
-- Assumes nothing.
use Rattle.preserve.proofs.Turns.{shrunk-whole, shrunk-part, walked-parts}
use Rattle.preserve.proofs.Preserves.{walked-leaves}
use Rattle.preserve.specs.Preserving.{part_words}
use Prim.Native.Nat.{ℕ}
use mathlib.Core.List.{List}
use mathlib.Core.Path.{ap, ◌∙◌}
use Rattle.preserve.proofs.shrink.Goals as goal

pub take_out-requires : goal.take_out-requires
take_out-requires c =
    let a = c.args in
    walked-leaves a.p a.r a.b.now a.reading a.m c.walk-x.result c.requires
    c.walk-x.ensures

pub part-requires : goal.part-requires
part-requires c =
    let a = c.args in
    walked-parts a.p a.r a.b.now a.m c.walk-x.result
    c.walk-x.ensures a.reading _
    c.requires c.if-x-ne0.true
    c.take_out.ensures

pub returns-then-x-ne0 : goal.returns-then-x-ne0
returns-then-x-ne0 c =
    let a = c.args in
    c.part.ensures ∙
    ap (λ (w : List ℕ). part_words a.p a.r w c.walk-x.result.rest)
    c.take_out.ensures ∙
    shrunk-part a.p a.r a.b.now a.m c.walk-x.result
    c.walk-x.ensures c.if-x-ne0.true

pub returns-else-x-ne0 : goal.returns-else-x-ne0
returns-else-x-ne0 c =
    let a = c.args in
    c.take_out.ensures ∙ shrunk-whole a.p a.r a.b.now a.m c.walk-x.result
    c.walk-x.ensures c.if-x-ne0.false
