-- A number, and then no other entry behind.
-- Assumes nothing.
use mathlib.Core.Path.{sym, ap, ◌∙◌}
use Prim.Native.Nat.{◌+◌}
use lib.Dec.{eqb}
use Rattle.table.specs.Table.{known_of, entry_from, numbered}
use Rattle.table.specs.Laws.{once-not, once-else}
use Rattle.table.proofs.once.Goals as goal

pub returns-else-is_number : goal.returns-else-is_number
returns-else-is_number c =
    let a = c.args in
    let n = c.is_number in
    c.if-is_number.false ∙ once-not a.w.now a.at (ap numbered (sym c.use_of.ensures) ∙ sym n.ensures ∙ c.if-is_number.false)

pub returns-then-is_number : goal.returns-then-is_number
returns-then-is_number c =
    let a = c.args in
    let w = a.w.now in
    let n = c.is_number in
    ap (λ x. eqb x (known_of w)) (c.entry_from.ensures ∙ ap (λ k. entry_from w k (a.at + 1)) c.key_at.ensures) ∙
    once-else w a.at (ap numbered (sym c.use_of.ensures) ∙ sym n.ensures ∙ c.if-is_number.true)
