-- The part that is lent has room for any line, and comes back with the line at its start.
-- Assumes nothing.
use Rattle.desk_turn.specs.Puts.{answer-put}
use native.Mathlib.Omega.{arith}
use Rattle.desk_turn.proofs.put_answer.Goals as goal

pub overflow_add-result : goal.overflow_add-result
overflow_add-result c =
    let p = c.print in
    omega (
      arith,
      (answer-put c.args.line c.args.out.now p.new.out c.args.at p.result c.requires p.ensures p.auto.out).short,
      c.requires,
      c.well_formed.1.0,
    )

pub returns : goal.returns
returns c =
    let p = c.print in
    answer-put c.args.line c.args.out.now p.new.out c.args.at p.result c.requires p.ensures p.auto.out
