-- No more is taken than is left of the block, and what is put after each part is what that part prints.
-- Assumes nothing.
use Rattle.std.proofs.Common.{refl, sym, ◌∙◌, arith}
use Rattle.desk_run.specs.Laws.{not-fine, reached-none, reached-part, part-inside, part-progress}
use Rattle.desk_run.proofs.pump.Goals as goal

pub loop-at-init : goal.loop-at-init
loop-at-init g c = (refl, omega arith, reached-none _ _ (omega (arith, c.ranges.put)))

pub overflow_add-at : goal.overflow_add-at
overflow_add-at g c =
    let t = part-inside _ c.args.block.now c.loop-at.at _ _ _ _ _ _ c.feed-progress.ensures in
    omega (arith, t, c.loop-at.invariant.1)

pub returns-then-is_err : goal.returns-then-is_err
returns-then-is_err g c =
    let f = c.feed-progress.ensures in
    let t = part-inside _ c.args.block.now c.loop-at.at _ _ _ _ _ _ f in
    record {
      inside = omega (arith, t, c.loop-at.invariant.1);
      reached = reached-part _ _ c.args.block.now c.loop-at.at _ _ _ _ _ _ _ _ _ c.loop-at.invariant.2 f c.write_put-sent.ensures;
      all = λ e. absurd (not-fine _ (sym c.is_err.ensures.value ∙ c.if-is_err.true) e);
    }

pub loop-at-smaller : goal.loop-at-smaller
loop-at-smaller g c =
    let f = c.feed-progress.ensures in
    let t = part-inside _ c.args.block.now c.loop-at.at _ _ _ _ _ _ f in
    let p = part-progress _ c.args.block.now c.loop-at.at _ _ _ _ _ _ f (omega (arith, c.loop-at.invariant.0, c.requires)) (omega (arith, c.loop-at-test.true)) in
    omega (arith, t, p)

pub loop-at-preserved : goal.loop-at-preserved
loop-at-preserved g c =
    let f = c.feed-progress.ensures in
    let t = part-inside _ c.args.block.now c.loop-at.at _ _ _ _ _ _ f in (
      c.feed-progress.auto.out ∙ c.loop-at.invariant.0,
      omega (arith, t, c.loop-at.invariant.1),
      reached-part _ _ c.args.block.now c.loop-at.at _ _ _ _ _ _ _ _ _ c.loop-at.invariant.2 f c.write_put-sent.ensures,
    )
