-- The constant is its bits.
use mathlib.Core.Path.{refl}
use lib.Ieee.{of_bits}
use Rattle.forecast_opened.proofs.full_at.Goals as goal

pub returns : goal.returns
unfolding of_bits
returns c =
    refl
