-- `answer_lines::hex_at` meets its contract. The invariant: so many digits were read, and what they count.
-- Assumes nothing.
use native.Mathlib.Omega.{arith}
use Prim.Native.Nat.{◌+◌, ◌<◌}
use mathlib.Core.Path.{◌≡◌, sym, ap, ◌∙◌}
use lib.ListN.{get_or, length}
use Rattle.answer_lines.specs.Reading.{hex_value}
use Rattle.answer_lines.specs.Hex.{hex-start, hex-turn, hex-done, hex-short, hex-bad, hex-room, value-small, digit-in}
use Rattle.answer_lines.proofs.hex_at.Goals as goal

pub returns-in_err-get : goal.returns-in_err-get
returns-in_err-get c =
    c.from_residual.ensures ∙ sym (hex-short c.args.line.now c.args.at (omega (arith, c.in_err-get.ensures.lookup.0)))

pub returns-in_err-digits : goal.returns-in_err-digits
returns-in_err-digits c =
    c.from_residual-in_err-digits.ensures ∙
    sym (hex-short c.args.line.now c.args.at (omega (arith, c.in_ok-get.ensures.lookup.0, c.in_err-digits.ensures.lookup.0)))

pub loop-b-init : goal.loop-b-init
loop-b-init c = hex-start c.args.line.now c.args.at

pub overflow_mul-value : goal.overflow_mul-value
overflow_mul-value c =
    omega (arith, hex-room c.loop-b.b-index _ (omega (arith, c.in_ok-digits.ensures.lookup.0)) c.loop-b.invariant.small)

pub returns-in_err-value : goal.returns-in_err-value
returns-in_err-value c =
    c.from_residual-in_err-value.ensures ∙ sym (hex-bad _ _ _ _ _ c.loop-b.invariant (omega (arith, c.in_ok-digits.ensures.lookup.0))
    (omega (arith, c.in_ok-get.ensures.lookup.0, c.in_ok-digits.ensures.lookup.0))
    (c.in_err-value.ensures ∙ ap hex_value (digit-in _ _ _ _ c.loop-b.b-index c.in_ok-get.ensures.lookup.0.2 c.in_ok-digits.ensures.lookup.0.2
    (omega (arith, c.in_ok-get.ensures.lookup.0)) (omega (arith, c.in_ok-digits.ensures.lookup.0)))))

pub overflow_add-value : goal.overflow_add-value
overflow_add-value c =
    omega (
      arith,
      hex-room c.loop-b.b-index _ (omega (arith, c.in_ok-digits.ensures.lookup.0)) c.loop-b.invariant.small,
      value-small _ _ c.in_ok-value.ensures,
    )

pub loop-b-preserved : goal.loop-b-preserved
loop-b-preserved c =
    let e : c.args.at + c.loop-b.b-index + 1 ≡ c.args.at + (c.loop-b.b-index + 1) = omega arith in
    rw e at (hex-turn _ _ _ _ _ c.loop-b.invariant c.in_ok-value.field-0 (omega (arith, c.in_ok-digits.ensures.lookup.0))
    (omega (arith, c.in_ok-get.ensures.lookup.0, c.in_ok-digits.ensures.lookup.0))
    (c.in_ok-value.ensures ∙ ap hex_value (digit-in _ _ _ _ c.loop-b.b-index c.in_ok-get.ensures.lookup.0.2 c.in_ok-digits.ensures.lookup.0.2
    (omega (arith, c.in_ok-get.ensures.lookup.0)) (omega (arith, c.in_ok-digits.ensures.lookup.0)))))

pub returns : goal.returns
returns c =
    sym (hex-done _ _ _ _ _ c.loop-b.invariant (omega (arith, c.in_ok-digits.ensures.lookup.0)))
