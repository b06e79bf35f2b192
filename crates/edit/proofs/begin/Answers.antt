-- The four stores are the definition's.
use mathlib.Core.Path.{refl}
use Rattle.edit.specs.Bodies.{begun}
use Rattle.edit.proofs.begin.Goals as goal

pub returns : goal.returns
unfolding begun
returns c =
    refl
