-- By the bytes, then by who holds it.
-- Assumes nothing.
use mathlib.Core.Path.{sym, ap, ◌∙◌}
use Prim.Native.Nat.{ℕ}
use lib.Dec.{eqb}
use Rattle.room.specs.Entries.{same-unspelled, same-spelled}
use Rattle.room.proofs.is_key_at.Goals as goal

pub returns-then-spells : goal.returns-then-spells
returns-then-spells c =
    let a = c.args in
    ap (λ (h : ℕ). eqb h a.k.holder) c.holder_of.ensures ∙ sym (same-spelled a.w.now a.k a.s (sym c.spells.ensures ∙ c.if-spells.true))

pub returns-else-spells : goal.returns-else-spells
returns-else-spells c =
    let a = c.args in c.if-spells.false ∙ sym (same-unspelled a.w.now a.k a.s (sym c.spells.ensures ∙ c.if-spells.false))
