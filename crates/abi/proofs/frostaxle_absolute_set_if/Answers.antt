-- The set of this limiter's room, its numbers read.
use Rattle.abi.proofs.frostaxle_absolute_set_if.Goals as goal

pub returns : goal.returns
returns c =
    rw (c.settings-settings.ensures, c.comparison_of-comparison.ensures, c.caller_of.ensures) at c.set.ensures
