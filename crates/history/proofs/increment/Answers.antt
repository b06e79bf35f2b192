-- `history::increment` meets its contract: the test picks the same store as the definition.
-- Assumes nothing.
use Rattle.history.specs.Steps.{takes-some, takes-raises, takes-free}
use Rattle.history.specs.Words.{raised_words, incremented}
use Prim.Native.Nat.{ℕ, ◌-◌}
use mathlib.Core.Path.{sym, ap, ◌∙◌}
use native.Mathlib.Omega.{arith}
use Rattle.history.proofs.increment.Goals as goal

pub overflow_sub-n : goal.overflow_sub-n
overflow_sub-n c =
    let a = c.args in
    omega (
      arith,
      takes-some a.r a.b.now a.size a.reading (sym c.is_joined.ensures ∙
          c.if-is_joined.true),
      c.len-n.ensures,
    )

pub raise-requires : goal.raise-requires
raise-requires c =
    takes-raises c.len-n.result c.requires
    (sym c.is_joined.ensures ∙ c.if-is_joined.true) c.len-n.ensures

pub returns-then-is_joined : goal.returns-then-is_joined
unfolding incremented
returns-then-is_joined c =
    let a = c.args in
    rw (sym c.is_joined.ensures ∙ c.if-is_joined.true)
    (c.raise.ensures ∙ ap (λ (k : ℕ). raised_words a.r a.b.now (k - 1) a.count a.declined)
    c.len-n.ensures)

pub push-requires : goal.push-requires
push-requires c =
    takes-free c.requires (sym c.is_joined.ensures ∙ c.if-is_joined.false)

pub returns-else-is_joined : goal.returns-else-is_joined
unfolding incremented
returns-else-is_joined c =
    rw (sym c.is_joined.ensures ∙ c.if-is_joined.false)
    c.push.ensures
