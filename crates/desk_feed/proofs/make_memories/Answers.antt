-- Each memory is made or left by itself.
-- Assumes nothing.
use Rattle.std.proofs.Common.{rules, refl}
use Rattle.desk_feed.specs.Laws.{both-made}
use Rattle.desk_feed.proofs.make_memories.Goals as goal

pub returns-in_err-make_first : goal.returns-in_err-make_first
returns-in_err-make_first c =
    let y = c.make-made in
    let n = c.slots.ensures in
    both-made _ _ _ _ y.result _ _ _ c.in_err-make_first.ensures (rw n at y.ensures) (search rules)

pub returns : goal.returns
returns c =
    let y = c.make-made in
    let n = c.slots.ensures in
    both-made _ _ _ _ y.result _ _ _ c.in_ok-make_first.ensures (rw n at y.ensures) refl
