-- The bit is taken off, and the other one put on.
-- Assumes nothing.
use native.Mathlib.Omega.{arith}
use Rattle.base.specs.Bits.{Put, put-bit}
use Rattle.room.proofs.with_bit.Goals as goal

put : (c : goal.After-bit) → Put c.args.x c.args.s c.args.b c.bit.result
put c = put-bit c.args.x c.args.s c.args.b c.bit.result c.ranges.x.fits c.requires.0 c.requires.1 c.bit.ensures.0

pub overflow_sub-result : goal.overflow_sub-result
overflow_sub-result c =
    (put c).off

pub overflow_add-result : goal.overflow_add-result
overflow_add-result c =
    let p = put c in omega (arith, p.on, p.fits)

pub returns : goal.returns
returns c =
    (put c).on
