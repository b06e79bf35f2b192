-- `printing::put_field` meets its contract: the name, then the number, which has at most 20 digits.
-- Assumes nothing.
use Prim.Native.Nat.{◌≤◌}
use native.Mathlib.Omega.{arith}
use Rattle.fields.specs.Numbers.{show-short}
use Rattle.printing.specs.Printing.{put-field}
use Rattle.printing.proofs.put_field.Goals as goal

pub put_number-requires : goal.put_number-requires
put_number-requires c =
    let f : c.args.n ≤ 18446744073709551615 =
    omega (arith, c.ranges.n) in omega (arith, c.requires.0, c.requires.1, c.put_text-next.ensures.past, c.put_text-next.auto.out, show-short c.args.n f)

pub returns : goal.returns
returns c =
    let f : c.args.n ≤ 18446744073709551615 =
    omega (arith, c.ranges.n) in put-field _ _ _ _ _ _ _ _ c.put_text-next.ensures c.put_number.ensures
    (omega (arith, c.requires.0, show-short c.args.n f)) c.requires.1
