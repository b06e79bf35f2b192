-- A slot with another key has not this one; one with it has it where it is in use.
-- Assumes nothing.
use mathlib.Core.Path.{sym, ap, ◌∙◌}
use mathlib.Core.Bool.{not}
use Prim.Native.Nat.{ℕ}
use lib.Dec.{eqb}
use Rattle.room.specs.Entries.{has_other, has_same}
use Rattle.room.proofs.holds.Goals as goal

pub returns-then-is_key_at : goal.returns-then-is_key_at
returns-then-is_key_at c =
    let a = c.args in
    ap (λ (u : ℕ). not (eqb u 0)) c.holder_of.ensures ∙
    sym (has_same a.w.now a.k a.s (sym c.is_key_at.ensures ∙ c.if-is_key_at.true))

pub returns-else-is_key_at : goal.returns-else-is_key_at
returns-else-is_key_at c =
    let a = c.args in c.if-is_key_at.false ∙ sym (has_other a.w.now a.k a.s (sym c.is_key_at.ensures ∙ c.if-is_key_at.false))
