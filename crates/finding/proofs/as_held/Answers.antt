-- The census of a room; words that are none hold nothing.
-- Assumes nothing.
use mathlib.Core.Path.{◌≡◌, sym, ◌∙◌}
use mathlib.Core.Bool.{true, false}
use Rattle.base.specs.Decides.{decided}
use Rattle.room.specs.Room.{sized}
use Rattle.room.specs.Laws.{sized-is}
use Rattle.std.proofs.Common.{ap}
use Rattle.std.proofs.Common.{not}
use Rattle.finding.proofs.as_held.Goals as goal

pub returns-then-not-sized : goal.returns-then-not-sized
returns-then-not-sized c =
    let z = c.sized in
    let w = c.args.room.now in
    let e : sized w ≡ false = sym (sized-is w z.result z.ensures) ∙ c.if-not-sized.true in
    sym (rw e)

pub census-held-requires : goal.census-held-requires
census-held-requires c =
    let z = c.sized in decided z.result (ap not c.if-not-sized.false) z.ensures

pub returns : goal.returns
returns c =
    let z = c.sized in
    let w = c.args.room.now in
    let e : sized w ≡ true = sym (sized-is w z.result z.ensures) ∙ c.if-not-sized.false in
    rw (e, c.census-held.ensures)
