-- The answer saturates as the definition says.
use Rattle.common.specs.Units.{milliseconds_of}
use Rattle.common.proofs.units.WindowSize.as_milliseconds.Goals as goal

pub returns : goal.returns
unfolding milliseconds_of
returns c =
    c.saturating_mul.ensures
