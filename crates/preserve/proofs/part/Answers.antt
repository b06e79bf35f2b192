-- `history::part` meets its contract: what goes is less than the bucket counts, so the rest of it stays.
-- Assumes nothing.
use Rattle.preserve.proofs.Turns.{part-stores, part-words}
use Rattle.preserve.specs.Preserving.{lost_at}
use Prim.Native.Nat.{ℕ}
use mathlib.Core.Path.{ap, ◌∙◌}
use Rattle.preserve.proofs.part.Goals as goal

pub rewrite-requires : goal.rewrite-requires
rewrite-requires c =
    let a = c.args in
    part-stores a.p a.r a.b.now a.reading a.q c.lost-i.result c.nth-x.result
    c.mul_div-kept.result c.requires
    (c.lost-i.ensures.0 ∙ ap (λ (n : ℕ). lost_at a.p n 0) c.len-n.ensures)
    c.nth-x.ensures c.mul_div-kept.ensures

pub returns : goal.returns
returns c =
    let a = c.args in
    c.rewrite.ensures ∙ part-words a.p a.r a.b.now a.reading a.q
    c.lost-i.result c.nth-x.result
    c.mul_div-kept.result c.requires
    (c.lost-i.ensures.0 ∙
    ap (λ (n : ℕ). lost_at a.p n 0) c.len-n.ensures)
    c.nth-x.ensures c.mul_div-kept.ensures
