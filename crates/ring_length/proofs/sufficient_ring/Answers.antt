-- The settings' own refusal is handed on. Past it window and bucket are in range, so nothing wraps.
use Rattle.std.proofs.Common.{rules, ◌≡◌, ◌+◌, ◌∙◌, Err, ap, refl}
use native.Mathlib.Nat.{div-le_self}
use native.Mathlib.Omega.{arith}
use Rattle.common.proofs.Ruled.{ruled-ok, ruled-err}
use Rattle.settings.specs.Clock.{window_in_milliseconds}
use Rattle.settings.specs.Settings.{window_in, bucket_in, Proper}
use Rattle.ring_length.specs.RingLength.{ring-refused, ring-told, in-range}
use Rattle.ring_length.proofs.sufficient_ring.Goals as goal
use Rattle.ring_length.proofs.sufficient_ring.Goals.{In_ok-check}

fine : (c : goal.In_ok-check) → Proper c.args.settings
fine c = in-range c.args.settings _ refl (ruled-ok _ c.in_ok-check.ensures)

pub returns-in_err-check : goal.returns-in_err-check
returns-in_err-check c =
    let e : c.from_residual.result ≡ Err c.in_err-check.field-0.0 = search rules in
    let o = ruled-err _ _ c.in_err-check.ensures in
    e ∙ ap Err o.1 ∙ ring-refused c.args.settings _ refl o.0

pub overflow_mul-result : goal.overflow_mul-result
overflow_mul-result c =
    let p = fine (goal.at.overflow_mul-result c).In_ok-check in
    omega (arith, p.window-high)

pub overflow_add-result : goal.overflow_add-result
overflow_add-result c =
    let p = fine (goal.at.overflow_add-result c).In_ok-check in
    omega (arith, p.bucket-high)

pub overflow_add-result-2 : goal.overflow_add-result-2
overflow_add-result-2 c =
    let s = c.args.settings in
    let p = fine (goal.at.overflow_add-result-2 c).In_ok-check in
    omega (arith, p.window-high, div-le_self (window_in_milliseconds (window_in s)) (bucket_in s + 1))

pub returns : goal.returns
returns c =
    ring-told c.args.settings _ refl (ruled-ok _ c.in_ok-check.ensures)
