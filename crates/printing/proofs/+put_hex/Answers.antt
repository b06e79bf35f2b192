-- By the count of digits, which falls: none at 0, and else the digits before the last one, and it.
use Rattle.std.proofs.Common.{◌-◌, ◌/◌, arith}
use Rattle.printing.specs.Printing.{put-hex-none, put-hex-more, hex-length}
use Rattle.printing.proofs.+put_hex.Goals as goal

pub returns-then-count-eq0 : goal.returns-then-count-eq0
returns-then-count-eq0 t c = put-hex-none _ _ _ _ c.if-count-eq0.true

pub bounds-out-next : goal.bounds-out-next
bounds-out-next t c =
    omega (arith, c.put_hex-next.ensures.past, hex-length (c.args.count - 1) (c.args.word / 16))

pub returns : goal.returns
returns t c =
    put-hex-more _ _ _ _ _ _ _ c.if-count-eq0.false c.put_hex-next.ensures c.hex_digit.ensures c.requires
