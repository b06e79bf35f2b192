-- No slot below the one looked at is free: the search from 0 is the search from there.
-- Assumes nothing.
use mathlib.Core.Path.{◌≡◌, sym, ◌∙◌}
use native.Mathlib.Omega.{arith}
use Rattle.base.specs.Seek.{seek-on, seek-here, seek-end}
use Rattle.room.specs.Entries.{free-yes, free-no}
use Rattle.room.specs.Room.{slots_of}
use Rattle.room.proofs.vacant.Goals as goal

pub returns-then-holder_of-eq-NOBODY : goal.returns-then-holder_of-eq-NOBODY
returns-then-holder_of-eq-NOBODY c =
    sym
    (c.loop-spare.invariant ∙ seek-here _ _ _ (omega arith) (free-yes _ _ (sym c.holder_of.ensures ∙ c.if-holder_of-eq-NOBODY.true)))

pub loop-spare-preserved : goal.loop-spare-preserved
loop-spare-preserved c =
    c.loop-spare.invariant ∙ seek-on _ _ _ (omega arith) (free-no _ _ (λ e. c.if-holder_of-eq-NOBODY.false (c.holder_of.ensures ∙ e)))

pub returns : goal.returns
returns c =
    let e : slots_of c.args.w.now ≡ c.loop-spare.spare = omega arith in e ∙ sym (c.loop-spare.invariant ∙ seek-end _ _ _ (omega arith))
