-- The three stores are the definition's.
use mathlib.Core.Path.{refl}
use Rattle.edit.specs.Bodies.{fixed}
use Rattle.edit.proofs.fix.Goals as goal

pub returns : goal.returns
unfolding fixed
returns c =
    refl
