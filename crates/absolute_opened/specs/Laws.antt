-- What the code has tested, turned into the change.
-- Assumes nothing.
use Rattle.std.specs.Prelude.{◌≡◌, Bool, true, ℕ}
use Rattle.std.proofs.Common.{ap, ◌∙◌}
use Rattle.change.specs.declared.Change.TheVariants.{Update, Take}
use Rattle.edit.specs.declared.Then.TheVariants.{Nothing, Increment}
use Rattle.opened.specs.declared.Slot.{Slot}
use Rattle.plan.specs.Plan.{evicting, opening}
use Rattle.absolute_opened.specs.Opened.{leaving, pick_change, inc_change}

-- a known key that is allowed
pub counts-change : (limit c : ℕ) (may out : Bool) (x y : Slot) → x.series ≡ true → may ≡ true →
    inc_change limit c may out x y ≡ Update (leaving out x (Increment c 0))
unfolding inc_change
counts-change limit c may out x y e f =
    ap (λ (z : Bool). pick_change z (pick_change may (Update (leaving out x (Increment c 0))) (Update (evicting y Nothing)))
    (Take (opening limit (Increment c 0) 0 0 1))) e ∙
    ap (λ (z : Bool). pick_change z (Update (leaving out x (Increment c 0))) (Update (evicting y Nothing))) f
