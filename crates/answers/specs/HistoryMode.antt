-- The snapshot of an unknown key: zeros.
-- Assumes nothing.
use Rattle.std.specs.Prelude.{false, pos}
use Rattle.std.specs.Float.{fin}
use Rattle.answers.specs.declared.SuppressedRateLimitSnapshot.{SuppressedRateLimitSnapshot}

abbrev pub no_snapshot : SuppressedRateLimitSnapshot
no_snapshot = record { total = 0; total_declined = 0; suppression_factor = fin false 0 (pos 0) }
