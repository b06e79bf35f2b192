-- What was read lies within the block, and is answered before the next read.
-- Assumes nothing.
use Rattle.std.proofs.Common.{[], sym, ◌∙◌, arith}
use Rattle.std.proofs.lemmas.List.{length-take-le}
use Rattle.desk_run.specs.Laws.{fine_is, bytes_inside, stands-first, stands-next, ends-ended}
use Rattle.desk_run.proofs.serve.Goals as goal

pub loop-read-init : goal.loop-read-init
loop-read-init g c = ([], stands-first _)

pub slice_bounds-pump-end-in-loop-read : goal.slice_bounds-pump-end-in-loop-read
slice_bounds-pump-end-in-loop-read g c = (bytes_inside _ _ _ (sym c.in-Bytes.is ∙ c.hear-last.ensures)).1

pub slice_bounds-pump-end-in-loop-read-2 : goal.slice_bounds-pump-end-in-loop-read-2
slice_bounds-pump-end-in-loop-read-2 g c = sym (length-take-le _ _ (bytes_inside _ _ _ (sym c.in-Bytes.is ∙ c.hear-last.ensures)).1)

pub returns-then-has_ended : goal.returns-then-has_ended
returns-then-has_ended g c =
    let i = bytes_inside _ _ _ (sym c.in-Bytes.is ∙ c.hear-last.ensures) in
    let s = stands-next _ _ c.loop-read.invariant.0 _ _ _ _ _ _ _ _ _ c.loop-read.invariant.1 c.pump-pumped.ensures (fine_is _ (sym c.is_err.ensures.value ∙ c.if-is_err.false))
    (sym (length-take-le _ _ i.1)) c.more-read.ensures in
    ends-ended _ _ _ _ _ _ _ _ s (sym c.has_ended.ensures ∙ c.if-has_ended.true)

pub loop-read-smaller : goal.loop-read-smaller
loop-read-smaller g c =
    let i = bytes_inside _ _ _ (sym c.in-Bytes.is ∙ c.hear-last.ensures) in omega (arith, i.0, c.more-read.ensures, c.loop-read-test.true)

pub loop-read-preserved : goal.loop-read-preserved
loop-read-preserved g c =
    let i = bytes_inside _ _ _ (sym c.in-Bytes.is ∙ c.hear-last.ensures) in (
      _,
      stands-next _ _ c.loop-read.invariant.0 _ _ _ _ _ _ _ _ _ c.loop-read.invariant.1 c.pump-pumped.ensures (fine_is _ (sym c.is_err.ensures.value ∙ c.if-is_err.false))
          (sym (length-take-le _ _ i.1)) c.more-read.ensures,
    )
