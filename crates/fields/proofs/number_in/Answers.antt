-- `fields::number_in` meets its contract. The invariant: the digits from `b` on, after `value`, make the whole number;
-- a number that passes the largest u64 before the end passes it at the end too.
-- Assumes nothing.
use native.Mathlib.Omega.{arith}
use Prim.Native.Nat.{◌+◌, ◌*◌}
use mathlib.Core.Path.{◌≡◌, refl, sym, ◌∙◌}
use Rattle.fields.specs.Turns.{value-past, number-turn, number-over, number_fits}
use Rattle.fields.proofs.number_in.Goals as goal

pub loop-b-init : goal.loop-b-init
loop-b-init c = (refl, omega arith)

pub returns-in_err-checked_mul : goal.returns-in_err-checked_mul
returns-in_err-checked_mul c =
    c.from_residual.ensures ∙ sym (number-over c.args.digits.now c.loop-b.value c.loop-b.b-index _ c.loop-b.invariant.0 (omega arith) refl c.args.next
    (omega (arith, c.in_err-checked_mul.ensures)))

pub returns-in_err-value : goal.returns-in_err-value
returns-in_err-value c =
    c.from_residual-in_err-value.ensures ∙ sym (number-over c.args.digits.now c.loop-b.value c.loop-b.b-index _ c.loop-b.invariant.0 (omega arith)
    c.digit.ensures c.args.next (omega (arith, c.in_err-value.ensures, c.in_ok-checked_mul.ensures)))

pub loop-b-preserved : goal.loop-b-preserved
loop-b-preserved c =
    let k : c.in_ok-value.value ≡ c.loop-b.value * 10 + c.digit.result = omega (arith, c.in_ok-value.ensures, c.in_ok-checked_mul.ensures) in (
      rw k (number-turn c.args.digits.now c.loop-b.value c.loop-b.b-index _ c.loop-b.invariant.0 (omega arith) c.digit.ensures),
      omega (arith, c.in_ok-value.ensures),
    )

pub returns : goal.returns
returns c =
    sym (number_fits c.args.digits.now _ _ (c.loop-b.invariant.0 ∙ value-past c.loop-b.value c.args.digits.now c.loop-b.b-index (omega arith)) c.loop-b.invariant.1)
