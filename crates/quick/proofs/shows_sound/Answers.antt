-- `quick::shows_sound` meets its contract: the test of a pass over the buckets.
-- Assumes nothing.
use mathlib.Core.Path.{ap, ◌∙◌}
use Rattle.ring.specs.Ring.{total_of, declined_of}
use Rattle.quick.specs.declared.Acc.{Acc}
use Rattle.quick.specs.Quick.{met_of, first_of, shown}
use Rattle.quick.proofs.shows_sound.Goals as goal

pub returns : goal.returns
unfolding shown
returns c =
    let a = c.args in
    let b = a.b.now in
    c.met.ensures ∙ ap (λ (z : Acc). met_of z (first_of a.r b) a.last (total_of b) (declined_of b)) c.over.ensures
