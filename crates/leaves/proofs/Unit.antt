-- The factor of every decision and snapshot that is not refused is a double in 0 to 1 with its sign clear, and so is every factor that is cached.
-- Assumes nothing.
use Rattle.std.specs.Prelude.{Bool, true, false, cond, Ok}
use Rattle.answers.specs.declared.SuppressedRateLimitSnapshot.{SuppressedRateLimitSnapshot}
use Rattle.answers.specs.HistoryMode.{no_snapshot}
use Rattle.leaves.specs.Unit.{Within01, nil-within, SnapshotOk}

-- ---- "It lies in 0 to 1": of what each call answers that is not refused

-- the snapshot of a known key, and of an unknown one
pub snapshot-ok : (known : Bool) (x : SuppressedRateLimitSnapshot) → Within01 x.suppression_factor →
    SnapshotOk (Ok (cond known x no_snapshot))
snapshot-ok true x u = u
snapshot-ok false x u = nil-within
