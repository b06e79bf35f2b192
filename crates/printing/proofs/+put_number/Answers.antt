-- By the number, which falls: one digit below ten, and else the digits of its tenth, and the last one.
use Rattle.std.proofs.Common.{refl, arith}
use Rattle.fields.specs.Numbers.{show-length, show-longer}
use Rattle.printing.specs.Printing.{put-digit, put-more}
use Rattle.printing.proofs.+put_number.Goals as goal

pub bounds-out-at : goal.bounds-out-at
bounds-out-at t c = omega (arith, c.requires, show-length c.args.n)

pub returns-then-n-lt10 : goal.returns-then-n-lt10
returns-then-n-lt10 t c =
    put-digit _ _ _ _ _ _ c.if-n-lt10.true c.decimal_digit.ensures (omega (arith, show-length c.args.n)) refl refl

pub put_number-next-requires : goal.put_number-next-requires
put_number-next-requires t c = let l = show-longer _ c.if-n-lt10.false in (omega arith, omega arith)

pub bounds-out-next : goal.bounds-out-next
bounds-out-next t c =
    let l = show-longer _ c.if-n-lt10.false in omega (arith, c.put_number-next.ensures.past)

pub returns : goal.returns
returns t c =
    put-more _ _ _ _ _ _ c.if-n-lt10.false c.put_number-next.ensures c.decimal_digit-2.ensures c.requires
