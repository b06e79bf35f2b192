-- Settings first, then the lengths.
-- Assumes nothing.
use Rattle.std.proofs.Common.{rules, ◌≡◌, Err, ap, ◌∙◌, not}
use borrow.Author.Tests.{ne_eqb}
use Rattle.base.specs.Decides.{decided, undecided, not_so}
use Rattle.common.specs.Refusals.{first}
use Rattle.common.proofs.Ruled.{ruled-ok, ruled-err}
use Rattle.room.specs.Laws.{sized-room, room-sized}
use Rattle.settings.specs.Settings.{faults}
use Rattle.judge.specs.Judge.{fault_of}
use Rattle.judge.proofs.fault.Goals as goal

pub returns-in_err-check : goal.returns-in_err-check
unfolding fault_of
returns-in_err-check c =
    let o = ruled-err (first (faults c.args.settings)) _ c.in_err-check.ensures in
    let e : c.from_residual.result ≡ Err c.in_err-check.field-0.0 = search rules in
    e ∙ rw (o.1, ne_eqb _ 0 o.0, ne_eqb _ 0 o.0)

pub returns-then-not-sized : goal.returns-then-not-sized
unfolding fault_of
returns-then-not-sized c =
    let w = c.args.w.now in
    let z = c.sized in
    rw (ruled-ok _ c.in_ok-check.ensures, not_so _ (λ y. undecided z.result (ap not c.if-not-sized.true) z.ensures (sized-room w y)))

pub returns : goal.returns
unfolding fault_of
returns c =
    let w = c.args.w.now in
    let z = c.sized in
    rw (ruled-ok _ c.in_ok-check.ensures, room-sized w (decided z.result (ap not c.if-not-sized.false) z.ensures))
