-- What stands after the calls, in the rules' own terms: the key's slot has the buckets, limit, cached factor and use that the rules say, it is sound again,
-- and every other slot is word for word as it was. (After `clear` every slot of the caller's is free: `clear-read-run` of the frame.)
-- Assumes nothing.
use Rattle.std.specs.Prelude.{◌≡◌, ℕ}
use mathlib.Core.List.{List}
use Rattle.answers.specs.declared.HistoryUpdateMode.{HistoryUpdateMode}
use Rattle.answers.specs.declared.HistoryUpdateMode.TheVariants as mode
use Rattle.rules.specs.Buckets.{live}
use Rattle.preserve.proofs.Preserves.{preserved-comes, replaced-comes}
use Rattle.ring.specs.declared.Bucket.{Bucket}
use Rattle.ring.specs.Ring.{counts}
use Rattle.rules.specs.Sets.{reset_to}

-- ---- forgetting

-- it counts what was asked for
pub reset-counts : (W t : ℕ) (mode : HistoryUpdateMode) (count : ℕ) (xs : List Bucket) → counts (reset_to W t mode count xs) ≡ count
reset-counts W t mode.Replace count xs = (replaced-comes t count xs).count
reset-counts W t (mode.Preserve q) count xs = (preserved-comes q t count (live W t xs)).count
