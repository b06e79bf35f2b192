-- `printing::put_counts` meets its contract: four fields, one after the other.
-- Assumes nothing.
use Rattle.printing.specs.Answers.{show_counts}
use Rattle.printing.specs.Printing.{put_four}
use Rattle.printing.proofs.put_counts.Goals as goal

pub returns : goal.returns
unfolding show_counts
returns c =
    put_four _ _ _ _ _ _ _ _ _ _ _ _ _ _
    c.put_field-a.ensures c.put_field-b.ensures
    c.put_field-c.ensures c.put_field.ensures
    c.requires
