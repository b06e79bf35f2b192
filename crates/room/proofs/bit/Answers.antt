-- Shifted down, and the rest cut off.
-- Assumes nothing.
use native.Mathlib.Omega.{arith}
use Rattle.base.specs.Bits.{bit-shift}
use Rattle.room.proofs.bit.Goals as goal

pub returns : goal.returns
returns c =
    (bit-shift c.args.x c.args.s, omega arith)
