-- The numbers as they were given.
use mathlib.Core.Path.{refl}
use Rattle.abi.proofs.caller_of.Goals as goal

pub returns : goal.returns
returns c =
    refl
