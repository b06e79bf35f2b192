-- By whether a live bucket is left.
use mathlib.Core.Path.{sym, subst}
use Prim.Native.Nat.{ℕ, ◌≤◌}
use borrow.Author.Tests.{lt-ltb, le-ltb}
use Rattle.settings.specs.Clock.{ticks-some}
use Rattle.absolute_test.specs.Test.{rejected_at}
use Rattle.absolute_test.proofs.rejected.Goals as goal

pub returns-then-buckets-expired : goal.returns-then-buckets-expired
unfolding rejected_at
returns-then-buckets-expired c =
    let x = c.args.x in rw (le-ltb x.pass.expired x.pass.buckets c.if-buckets-expired.true)

pub nonzero_div-saturating_sub : goal.nonzero_div-saturating_sub
nonzero_div-saturating_sub c =
    subst (λ (n : ℕ). 1 ≤ n) (sym c.ticks_per_millisecond.ensures) (ticks-some c.args.settings)

pub returns : goal.returns
unfolding rejected_at
returns c =
    let x = c.args.x in
    rw (
      lt-ltb x.pass.expired x.pass.buckets c.if-buckets-expired.false,
      c.saturating_sub-2.ensures,
      c.saturating_sub.ensures,
      c.ticks_per_millisecond.ensures,
    )
