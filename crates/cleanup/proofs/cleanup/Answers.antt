-- Refused, or judged and then cleaned.
use mathlib.Core.Path.{sym, ap, subst, refl, ◌∙◌}
use Prim.Native.Nat.{ℕ, ◌≤◌}
use Rattle.settings.specs.Clock.{ticks-some}
use Rattle.stale.specs.Uses.{cleaned}
use Rattle.std.proofs.Common.{rules, ◌≡◌, Err}
use Rattle.common.proofs.Ruled.{ruled-ok, ruled-err}
use Rattle.judge.proofs.Verdict.{told-on}
use Rattle.cleanup.specs.Laws.{passed, passed-ready, cleanup-refused, cleanup-done}
use Rattle.cleanup.proofs.cleanup.Goals as goal

pub returns-in_err-judge_all : goal.returns-in_err-judge_all
returns-in_err-judge_all c =
    let a = c.args in
    let e : c.from_residual.result ≡ Err c.in_err-judge_all.field-0.0 = search rules in
    let o = ruled-err _ _ c.in_err-judge_all.ensures in
    told-on (e ∙ ap Err o.1) (cleanup-refused a.kind a.settings a.room.now a.reading a.caller a.stale _ refl o.0)

pub clean-requires : goal.clean-requires
clean-requires c =
    let a = c.args in (
      passed-ready a.kind a.settings a.room.now a.reading a.caller
          (passed a.kind a.settings a.room.now a.reading a.caller (ruled-ok _ c.in_ok-judge_all.ensures)),
      subst (λ (n : ℕ). 1 ≤ n) (sym c.ticks_per_millisecond.ensures) (ticks-some a.settings),
    )

pub returns : goal.returns
returns c =
    let a = c.args in
    cleanup-done a.kind a.settings a.room.now a.reading a.caller a.stale c.clean.new.w (ruled-ok _ c.in_ok-judge_all.ensures)
    (c.clean.ensures ∙ ap (λ (n : ℕ). cleaned a.room.now a.reading n a.stale) c.ticks_per_millisecond.ensures)
