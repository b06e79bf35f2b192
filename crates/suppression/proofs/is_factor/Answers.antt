-- The three tests are those of the definition, in its order.
use Rattle.std.proofs.Common.{refl, sym, ◌∙◌, le-ltb}
use Rattle.std.proofs.lemmas.Bool.{false≢true}
use lib.Ieee.{of_bits}
use Rattle.suppression.specs.Factor.{factor_word_ok}
use Rattle.suppression.specs.Tested.{tested-factor, negative-factor}
use Rattle.suppression.proofs.is_factor.Goals as goal
use Rattle.suppression.proofs.is_factor.Goals.{then-word, else-word}

pub returns-then-x : goal.returns-then-x
unfolding of_bits
returns-then-x c =
    elim c.if-word.branch [
      | then-word w ↦ tested-factor _ _ c.double_of-x.ensures _ w.if-word.true (sym w.value-is ∙ c.if-x.true) refl
      | else-word w ↦ absurd (false≢true (sym (le-ltb _ _ w.if-word.false) ∙ sym w.value-is ∙ c.if-x.true))
    ]

pub returns-else-x : goal.returns-else-x
unfolding of_bits factor_word_ok
returns-else-x c =
    elim c.if-word.branch [
      | then-word w ↦ c.if-x.false ∙ negative-factor _ _ c.double_of-x.ensures w.if-word.true (sym w.value-is ∙ c.if-x.false)
      | else-word w ↦ c.if-x.false ∙ sym (rw (le-ltb _ _ w.if-word.false))
    ]
