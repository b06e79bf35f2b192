-- Settings first, then the lengths, then the rest.
use mathlib.Core.Path.{refl, ◌≡◌, ◌∙◌}
use native.Mathlib.Omega.{arith}
use Rattle.common.proofs.Ruled.{ruled-ok, ruled-err, ruled-at}
use Rattle.base.specs.Decides.{decided, undecided}
use Rattle.settings.specs.Settings.{proper}
use Rattle.cleanup.specs.Laws.{number-fault, number-lengths}
use Rattle.std.proofs.Common.{rules, ap, Err}
use Rattle.std.proofs.Common.{not}
use Rattle.cleanup.proofs.judge_all.Goals as goal

pub returns-in_err-check : goal.returns-in_err-check
returns-in_err-check c =
    let a = c.args in
    let e : c.from_residual.result ≡ Err c.in_err-check.field-0.0 = search rules in
    let o = ruled-err _ _ c.in_err-check.ensures in
    e ∙ ap Err o.1 ∙ ruled-at _ _ (number-fault a.kind a.settings a.w.now a.reading a.caller _ refl o.0) o.0

pub returns-then-not-sized : goal.returns-then-not-sized
returns-then-not-sized c =
    let a = c.args in
    ruled-at 5 _ (number-lengths a.kind a.settings a.w.now a.reading a.caller (proper a.settings (ruled-ok _ c.in_ok-check.ensures))
    (undecided c.sized.result (ap not c.if-not-sized.true) c.sized.ensures)) (λ z. omega (arith, z))

pub judge_room-requires : goal.judge_room-requires
judge_room-requires c =
    let a = c.args in
    (decided c.sized.result (ap not c.if-not-sized.false) c.sized.ensures, proper a.settings (ruled-ok _ c.in_ok-check.ensures))
