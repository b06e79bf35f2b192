-- Both rooms are judged before the first write; where neither is refused both are cleaned.
use mathlib.Core.Path.{sym, ap, subst, refl, ◌∙◌}
use Prim.Native.Nat.{ℕ, ◌≤◌}
use Rattle.settings.specs.Clock.{ticks-some}
use Rattle.stale.specs.Uses.{cleaned}
use Rattle.std.proofs.Common.{rules, ◌≡◌, Err}
use Rattle.common.proofs.Ruled.{ruled-ok, ruled-err}
use Rattle.provider.specs.Laws.{both-ready, both-refused, both-done}
use Rattle.provider.proofs.cleanup.Goals as goal

pub returns-in_err-judge_both : goal.returns-in_err-judge_both
returns-in_err-judge_both c =
    let a = c.args in
    let e : c.from_residual.result ≡ Err c.in_err-judge_both.field-0.0 = search rules in
    let r = ruled-err _ _ c.in_err-judge_both.ensures in
    let o = both-refused a.settings a.absolute.now a.suppressed.now a.reading a.absolutes a.suppresseds a.stale _ refl r.0 in
    record { answer = e ∙ ap Err r.1 ∙ o.answer; absolute = o.absolute; suppressed = o.suppressed }

pub clean-requires : goal.clean-requires
clean-requires c =
    let a = c.args in (
      (both-ready a.settings a.absolute.now a.suppressed.now a.reading a.absolutes a.suppresseds (ruled-ok _ c.in_ok-judge_both.ensures)).0,
      subst (λ (k : ℕ). 1 ≤ k) (sym c.ticks_per_millisecond-ticks.ensures) (ticks-some a.settings),
    )

pub clean-requires-2 : goal.clean-requires-2
clean-requires-2 c =
    let a = c.args in (
      (both-ready a.settings a.absolute.now a.suppressed.now a.reading a.absolutes a.suppresseds (ruled-ok _ c.in_ok-judge_both.ensures)).1,
      subst (λ (k : ℕ). 1 ≤ k) (sym c.ticks_per_millisecond-ticks.ensures) (ticks-some a.settings),
    )

pub returns : goal.returns
returns c =
    let a = c.args in
    both-done a.settings a.absolute.now a.suppressed.now a.reading a.absolutes a.suppresseds a.stale c.clean.new.w
    c.clean-2.new.w
    (ruled-ok _ c.in_ok-judge_both.ensures)
    (c.clean.ensures ∙ ap (λ (k : ℕ). cleaned a.absolute.now a.reading k a.stale) c.ticks_per_millisecond-ticks.ensures)
    (c.clean-2.ensures ∙ ap (λ (k : ℕ). cleaned a.suppressed.now a.reading k a.stale) c.ticks_per_millisecond-ticks.ensures)
