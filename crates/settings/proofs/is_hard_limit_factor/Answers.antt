-- The constant's bits are those of 1, and an `f64` is a double.
use mathlib.Core.Path.{◌∙◌, sym, ap}
use mathlib.Core.Bool.{Bool, ◌&&◌}
use lib.Ieee.{of_bits, le}
use Rattle.common.specs.Ranges.{one, most, factor_ok}
use Rattle.settings.proofs.is_hard_limit_factor.Goals as goal

pub returns : goal.returns
unfolding of_bits factor_ok
returns c =
    let x = c.args.x in
    c.is_real_from.ensures ∙ sym (ap (λ (t : Bool). t && (le one x && le x most)) c.well_formed.0.1)
