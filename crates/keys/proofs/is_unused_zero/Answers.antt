-- All eight bytes used, or fewer: the power that the definition compares with, as a shift.
-- Assumes nothing.
use Rattle.std.proofs.Common.{◌∙◌, ap, ◌^◌, arith, le-leb}
use Rattle.keys.specs.KeyLaws.{unused-all, unused-some, shifted-word}
use Rattle.keys.proofs.is_unused_zero.Goals as goal

pub returns-then-n-ge8 : goal.returns-then-n-ge8
returns-then-n-ge8 c =
    let a = c.args in le-leb _ _ c.if-n-ge8.true ∙ unused-all a.len a.i a.word (omega arith) (omega arith)

pub returns-else-n-ge8 : goal.returns-else-n-ge8
returns-else-n-ge8 c =
    let a = c.args in
    unused-some a.len a.i a.word _ (omega arith) (shifted-word c.saturating_sub-n.result c.if-n-ge8.false ∙ ap (λ n. 256 ^ n) c.saturating_sub-n.ensures)
