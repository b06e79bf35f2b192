-- At each answer the tests that led there say in which range the byte lies.
-- Assumes nothing.
use native.Mathlib.Omega.{arith}
use mathlib.Core.Logic.{inl, inr}
use Rattle.answer_lines.specs.Hex.{value-decimal, value-letter, value_none}
use Rattle.answer_lines.proofs.hex_value.Goals as goal

pub returns-in-48-to-57 : goal.returns-in-48-to-57
returns-in-48-to-57 c =
    value-decimal _ (omega arith) (omega arith)

pub returns-in-97-to-102 : goal.returns-in-97-to-102
returns-in-97-to-102 c =
    value-letter _ (omega arith) (omega arith)

pub returns-in_default : goal.returns-in_default
returns-in_default c =
    value_none _ (inl (omega arith)) (inl (omega arith))

pub returns-in_default-2 : goal.returns-in_default-2
returns-in_default-2 c =
    value_none _ (inr (omega arith)) (inl (omega arith))

pub returns-in_default-3 : goal.returns-in_default-3
returns-in_default-3 c =
    value_none _ (inr (omega arith)) (inr (omega arith))
