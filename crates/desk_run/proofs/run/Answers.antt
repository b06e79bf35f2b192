-- The words that are lent fit.
-- Assumes nothing.
use Rattle.std.proofs.Common.{refl}
use Rattle.desk_run.specs.Laws.{desk-fits}
use Rattle.desk_run.proofs.run.Goals as goal

pub run_with-requires : goal.run_with-requires
run_with-requires g c = desk-fits _ _ refl refl
