-- The tests of the definition.
use borrow.Author.Tests.{eq-eqb, ne_eqb}
use Rattle.sets_opened.specs.Sets.{setting}
use Rattle.sets_opened.proofs.setting.Goals as goal

pub returns-then-still : goal.returns-then-still
unfolding setting
returns-then-still c =
    rw c.if-still.true

pub returns-then-count-eq0 : goal.returns-then-count-eq0
unfolding setting
returns-then-count-eq0 c =
    rw (c.if-still.false, eq-eqb _ _ c.if-count-eq0.true)

pub returns : goal.returns
unfolding setting
returns c =
    rw (c.if-still.false, ne_eqb _ _ c.if-count-eq0.false) c.stored.ensures
