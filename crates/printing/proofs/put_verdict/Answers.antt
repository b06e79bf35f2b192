-- `printing::put_verdict` meets its contract: four fields, one after the other.
-- Assumes nothing.
use native.Mathlib.Omega.{arith}
use Rattle.printing.specs.Answers.{show_verdict}
use Rattle.printing.specs.Printing.{put_four}
use Rattle.printing.proofs.put_verdict.Goals as goal

pub returns : goal.returns
unfolding show_verdict
returns c =
    put_four _ _ _ _ _ _ _ _ _ _ _ _ _ _
    c.put_field-a.ensures
    c.put_field-b.ensures
    c.put_answer-c.ensures c.put_factor.ensures
    (omega (
      arith,
      c.requires,
    ))
