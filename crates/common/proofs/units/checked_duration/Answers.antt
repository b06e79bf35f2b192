-- A product past a word is past the range; of any other the range decides.
use Rattle.std.specs.Prelude.{ℕ, Bool, true, false, cond, Some, None, refl}
use Rattle.std.specs.Bool.{then_some}
use Rattle.common.specs.Units.{period-is, period-past}
use Rattle.std.proofs.Common.{◌≡◌, arith, sym, ◌∙◌}
use Rattle.common.proofs.units.checked_duration.Goals as goal

taken : (is : Bool) (x : ℕ) → then_some is x ≡ cond is (Some x) None
taken true x = refl
taken false x = refl

pub returns-in_err-number : goal.returns-in_err-number
returns-in_err-number c =
    let over = c.in_err-number.ensures in
    c.from_residual.ensures ∙ sym (period-past _ _ _ (omega (arith, c.ranges.most.fits, over)))

pub returns : goal.returns
returns c =
    (rw (c.is_within.ensures, c.in_ok-number.ensures.1) at c.then_some.ensures) ∙ taken _ _ ∙ sym (period-is _ _ _ c.requires)
