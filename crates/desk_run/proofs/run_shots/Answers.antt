-- The words that are lent fit.
-- Assumes nothing.
use Rattle.std.proofs.Common.{refl}
use Rattle.desk_run.specs.Laws.{shots-fit}
use Rattle.desk_run.proofs.run_shots.Goals as goal

pub run_with-requires : goal.run_with-requires
run_with-requires g c = shots-fit _ _ refl refl
