-- `fields::number_at` meets its contract: the run of digits is not empty and, past the tests, has no leading zero.
-- Assumes nothing.
use native.Mathlib.Omega.{arith}
use mathlib.Core.Path.{sym, ◌∙◌}
use borrow.Author.Tests.{eqb-true, ltb-true, ltb-false}
use Rattle.fields.specs.Turns.{number-inside, number-none, number-zeros, number_is}
use Rattle.fields.proofs.number_at.Goals as goal
use Rattle.fields.proofs.number_at.Goals.{then-end-at-via-then-end-at, then-end-at-via-else-end-at+then-end-at-gt1, then-line-at-eq48, else-line-at-eq48}

pub bounds-line-at : goal.bounds-line-at
bounds-line-at c =
    omega (arith, number-inside _ _ _ c.run_end-end.ensures c.if-end-at.false)

pub slice_bounds-number_in-end : goal.slice_bounds-number_in-end
slice_bounds-number_in-end c =
    omega (arith, number-inside _ _ _ c.run_end-end.ensures c.if-end-at.false)

pub returns-then-end-at : goal.returns-then-end-at
returns-then-end-at c =
    elim c.then-end-at.branch [
      | then-end-at-via-then-end-at w ↦ sym (number-none _ _ _ c.run_end-end.ensures w.if-end-at.true)
      | then-end-at-via-else-end-at+then-end-at-gt1 w ↦ elim w.if-line-at-eq48.branch [
        | then-line-at-eq48 v ↦ sym (number-zeros _ _ _ c.run_end-end.ensures v.if-line-at-eq48.true (ltb-true 1 _ (sym v.value-is ∙ w.if-end-at-gt1.true)))
        | else-line-at-eq48 v ↦ absurd (v.if-line-at-eq48.false (eqb-true _ _ (sym v.value-is ∙ w.if-end-at-gt1.true)))
      ]
    ]

pub returns : goal.returns
returns c =
    c.number_in.ensures ∙
    sym (number_is _ _ _ c.run_end-end.ensures c.if-end-at.false (λ z o. elim c.if-line-at-eq48.branch [
      | then-line-at-eq48 v ↦ omega (arith, o, ltb-false 1 _ (sym v.value-is ∙ c.if-end-at-gt1.false))
      | else-line-at-eq48 v ↦ v.if-line-at-eq48.false z
    ]))
