-- By the room's kind.
use Rattle.opened.specs.Sound.{right_use}
use Rattle.opened.proofs.use_right.Goals as goal

pub returns-then-has_series : goal.returns-then-has_series
unfolding right_use
returns-then-has_series c =
    rw (c.in-Suppressed.is, ← c.has_series.ensures, c.if-has_series.true)

pub returns-in-Absolute : goal.returns-in-Absolute
unfolding right_use
returns-in-Absolute c =
    rw c.in-Absolute.is

pub returns-else-has_series : goal.returns-else-has_series
unfolding right_use
returns-else-has_series c =
    rw (c.in-Suppressed.is, ← c.has_series.ensures, c.if-has_series.false) c.has_cached.ensures
