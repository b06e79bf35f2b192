-- Each word with its bit.
-- Assumes nothing.
use mathlib.Core.Path.{ap₂}
use Prim.Native.Nat.{ℕ}
use lib.ListN.{set}
use Rattle.layout.specs.Layout.{firsts_word, seconds_word}
use Rattle.room.specs.Room.{held}
use Rattle.room.proofs.hold.Goals as goal

pub returns : goal.returns
unfolding held
returns c =
    let w = c.args.w.now in
    ap₂ (λ (x y : ℕ). set (set w firsts_word x) seconds_word y) c.with_bit-firsts.ensures c.with_bit-seconds.ensures
