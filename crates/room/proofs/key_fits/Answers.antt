-- Test by test, the definition's conjunction.
-- Assumes nothing.
use Rattle.std.proofs.Common.{ap, arith}
use Rattle.std.proofs.lemmas.Bool.Decides.{nat_tests}
use Rattle.keys.specs.Keys.{key_fits}
use Rattle.room.proofs.key_fits.Goals as goal

pub returns-then-is_unused_zero-3 : goal.returns-then-is_unused_zero-3
unfolding key_fits
returns-then-is_unused_zero-3 c =
    let e = ap key_fits c.key_at-k.ensures in grind (arith, nat_tests)

pub returns-else-is_unused_zero-3 : goal.returns-else-is_unused_zero-3
unfolding key_fits
returns-else-is_unused_zero-3 c =
    let e = ap key_fits c.key_at-k.ensures in grind (arith, nat_tests)
