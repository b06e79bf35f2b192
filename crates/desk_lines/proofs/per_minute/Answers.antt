-- Both numbers are the doubles that the definition names.
-- Assumes nothing.
use Rattle.desk_lines.specs.Lines.{per_minute}
use Rattle.desk_lines.proofs.per_minute.Goals as goal

pub returns : goal.returns
unfolding per_minute
returns c =
    rw (c.nearest_u64_to_f64.ensures, c.nearest_u64_to_f64-2.ensures)
