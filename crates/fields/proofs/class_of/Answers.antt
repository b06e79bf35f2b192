-- `lines::class_of` meets its contract: at each answer the tests that led there say in which range the byte lies.
-- Assumes nothing.
use native.Mathlib.Omega.{arith}
use mathlib.Core.Path.{sym}
use mathlib.Core.Logic.{inl, inr, ⊎_elim}
use Rattle.fields.specs.Bytes.{class-digit, class-letter, class-separator, class-bad}
use Rattle.fields.proofs.class_of.Goals as goal

pub returns-in-32 : goal.returns-in-32
returns-in-32 c =
    sym (class-separator _ c.in-32.is)

pub returns-in-48-to-57 : goal.returns-in-48-to-57
returns-in-48-to-57 c =
    sym (class-digit _ (omega arith) (omega arith))

pub returns-in-97-to-122 : goal.returns-in-97-to-122
returns-in-97-to-122 c =
    sym (class-letter _ (omega arith) (omega arith))

pub returns-in_default : goal.returns-in_default
returns-in_default c =
    sym (class-bad _ (inl (omega arith)) (inl (omega arith)) (λ h. ⊎_elim (λ e. omega arith) (λ e. omega arith) h))

pub returns-in_default-2 : goal.returns-in_default-2
returns-in_default-2 c =
    sym (class-bad _ (inr (omega arith)) (inl (omega arith)) (λ h. ⊎_elim (λ e. omega arith) (λ e. omega arith) h))

pub returns-in_default-3 : goal.returns-in_default-3
returns-in_default-3 c =
    sym (class-bad _ (inr (omega arith)) (inr (omega arith)) (λ h. ⊎_elim (λ e. omega arith) (λ e. omega arith) h))
