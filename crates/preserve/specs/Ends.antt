-- The buckets from the end that a shortage is taken from.
-- Assumes nothing.
use Rattle.std.specs.Prelude.{ℕ, ◌-◌, length, take, drop}
use mathlib.Core.List.{List}
use Rattle.answers.specs.declared.HistoryPreservation.{HistoryPreservation}
use Rattle.answers.specs.declared.HistoryPreservation.TheVariants.{PreserveNewest, PreserveOldest}
use Rattle.ring.specs.declared.Bucket.{Bucket}

-- ---- k out at that end

abbrev pub out : HistoryPreservation → ℕ → List Bucket → List Bucket
out PreserveNewest k xs = drop k xs
out PreserveOldest k xs = take (length xs - k) xs
