-- The answer is made by the range test.
use Rattle.common.specs.Units.{rate_from}
use Rattle.common.proofs.units.RateLimit.per_second.Goals as goal

pub returns-then-not-is_in_range : goal.returns-then-not-is_in_range
unfolding rate_from
returns-then-not-is_in_range c =
    rw (← c.is_in_range.ensures, c.if-not-is_in_range.true)

pub returns : goal.returns
unfolding rate_from
returns c =
    rw (← c.is_in_range.ensures, c.if-not-is_in_range.false)
