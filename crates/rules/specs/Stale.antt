-- What a cleanup leaves of a key, in document 01's words. t is the reading, stale the stale time in milliseconds, n the number of ticks in one: ages are cut
-- to milliseconds.
-- Assumes nothing.
use Rattle.std.specs.Prelude.{Bool, ◌&&◌, List, ℕ, leb, ltb, length}
use Rattle.settings.specs.Clock.{age_in_milliseconds}
use Rattle.rules.specs.Buckets.{newest}
use Rattle.ring.specs.declared.Bucket.{Bucket}

-- "Cleanup drops a series with no bucket or whose newest age is over the stale time"
unfoldable pub series_stays : List Bucket → ℕ → ℕ → ℕ → Bool
series_stays xs t n stale = ltb 0 (length xs) && leb (age_in_milliseconds n t (newest xs).time) stale

-- "a cached factor stays only at an age below it": of a factor with this time
unfoldable pub factor_stays : ℕ → ℕ → ℕ → ℕ → Bool
factor_stays time t n stale = ltb (age_in_milliseconds n t time) stale
