-- Where a first look is not needed: the stored total is below the limit.
-- Assumes nothing.
use Rattle.std.specs.Prelude.{◌≡◌, refl, Bool, true, false, not, ◌||◌, cond, ℕ}
use Rattle.std.proofs.Common.{sym, ap, ◌∙◌}
use Rattle.rules.specs.Absolute.{below}
use Rattle.opened.specs.declared.Slot.{Slot}
use Rattle.opened.specs.Slot.{first_look}
use Rattle.opened.specs.Look.{look-total}
use Rattle.absolute_test.specs.Test.{evicts, allowed_at}

allowed-below : (n : ℕ) (y : Slot) → below n y.total ≡ true → true ≡ allowed_at n y
unfolding allowed_at evicts
allowed-below n y e =
    sym (ap (λ (z : Bool). not y.series || below n (cond (not z) y.pass.live_total y.total)) e ∙ ap (λ (z : Bool). not y.series || z) e ∙
    go y.series)
  where
    go : (s : Bool) → not s || true ≡ true
    go true = refl
    go false = refl

pub allowed-stored : (n look t : ℕ) (x : Slot) → below n x.total ≡ true → true ≡ allowed_at n (first_look look t x)
allowed-stored n look t x e = allowed-below n (first_look look t x) (ap (below n) (look-total look t x) ∙ e)
