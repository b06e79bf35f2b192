-- The reason why a ring can be long enough: the times of a key's buckets lie at least b + 1 milliseconds apart, and whatever the calls do to them keeps it. An
-- increment adds a bucket only where the newest is older than b. A set that replaces leaves one bucket. One that preserves changes counts and takes buckets
-- out at an end, and no time moves; it adds a bucket only where there is none. Eviction takes out the oldest.
-- d is the distance in ticks, b the longest age that joins, one tick less than d; t is the reading.
-- Assumes nothing.
use Rattle.std.specs.Prelude.{List, [], ◌∷◌, ℕ, ◌+◌, ◌≤◌}
use Rattle.ring.specs.declared.Bucket.{Bucket}

-- the oldest from lo on, and each at least d after the one before it
abbrev pub Spaced : ℕ → ℕ → List Bucket → Type 0
Spaced d lo [] = Unit {0}
Spaced d lo (x ∷ xs) = (lo ≤ x.time) × Spaced d (x.time + d) xs
