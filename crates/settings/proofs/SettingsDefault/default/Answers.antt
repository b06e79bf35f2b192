-- Each value is its type's default, and the factor's bits are those of 1.
use lib.Ieee.{of_bits}
use Rattle.settings.proofs.SettingsDefault.default.Goals as goal

pub returns : goal.returns
unfolding of_bits
returns c =
    rw (c.default.ensures, c.default-2.ensures, c.default-3.ensures)
