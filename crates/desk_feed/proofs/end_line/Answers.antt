-- What is held of the line is lent.
-- Assumes nothing.
use mathlib.Core.Path.{ap, ◌∙◌}
use Prim.Native.Nat.{ℕ}
use lib.ListN.{take}
use Rattle.desk_feed.specs.Laws.{take-least, least-long}
use Rattle.desk_feed.proofs.end_line.Goals as goal

pub slice_bounds-take_line-end : goal.slice_bounds-take_line-end
slice_bounds-take_line-end c =
    least-long _ _ _ c.min-n.ensures

pub returns : goal.returns
returns c =
    let a = c.args in
    let h = a.hold.now in
    let e = ap (λ (n : ℕ). take n h) c.min-n.ensures ∙
    take-least a.desk.held h in
    rw e at c.take_line.ensures
