-- The set of this limiter's room, its numbers read.
use Rattle.abi.proofs.frostaxle_suppressed_set_if_preserve_history.Goals as goal

pub returns : goal.returns
returns c =
    rw (c.settings-settings.ensures, c.comparison_of-comparison.ensures, c.preserving-mode.ensures, c.caller_of.ensures) at c.set.ensures
