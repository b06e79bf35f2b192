-- The period is the double that the definition names, and `per_second` judges the quotient.
use Rattle.std.proofs.Common.{sym}
use Rattle.common.specs.Units.{rate_of}
use Rattle.common.proofs.units.RateLimit.from_period.Goals as goal

pub returns : goal.returns
unfolding rate_of
returns c =
    rw (sym c.nearest_u64_to_f64.ensures) c.per_second.ensures
