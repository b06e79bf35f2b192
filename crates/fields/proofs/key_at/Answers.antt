-- `fields::key_at` meets its contract: at each answer the tests say how long the run is.
-- Assumes nothing.
use native.Mathlib.Omega.{arith}
use mathlib.Core.Path.{sym}
use Rattle.fields.specs.Turns.{key-none, key-long, key-found}
use Rattle.fields.proofs.key_at.Goals as goal

pub returns-in-1-to-32 : goal.returns-in-1-to-32
returns-in-1-to-32 c = sym (key-found _ _ _ c.run_end-end.ensures (omega arith) (omega arith))

pub returns-in_default : goal.returns-in_default
returns-in_default c = sym (key-none _ _ _ c.run_end-end.ensures (omega arith))

pub returns-in_default-2 : goal.returns-in_default-2
returns-in_default-2 c = sym (key-long _ _ _ c.run_end-end.ensures (omega arith))
