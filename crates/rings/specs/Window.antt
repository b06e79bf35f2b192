-- How many buckets that lie b + 1 milliseconds apart an increment finds within the window, and that none of them meets refusal 12 in a ring that is long
-- enough: those that a suppressed increment's first look leaves, and those that an absolute increment finds.
-- s are the settings, t the reading, r the ring, xs a key's buckets.
-- Assumes nothing.
use Rattle.std.specs.Prelude.{ℕ, ◌+◌, ◌*◌, ◌≤◌}
use mathlib.Core.List.{List, [], ◌∷◌}
use Rattle.settings.specs.Settings.{bucket_in}
use Rattle.settings.specs.Clock.{age, ticks_in, look_ticks}
use Rattle.settings.specs.declared.Settings.{Settings}
use Rattle.ring.specs.declared.Bucket.{Bucket}
use Rattle.rings.specs.Spaced.{Spaced}

-- b + 1 milliseconds in ticks
abbrev pub apart_ticks : Settings → ℕ
apart_ticks s = ticks_in s * (bucket_in s + 1)

-- "the times of a key's buckets lie at least b + 1 milliseconds apart"
abbrev pub BucketsApart : Settings → List Bucket → Type 0
BucketsApart s xs = Spaced (apart_ticks s) 0 xs

-- the oldest is not over the window by its milliseconds
abbrev pub Young : Settings → ℕ → List Bucket → Type 0
Young s t [] = Unit {0}
Young s t (x ∷ xs) = age t x.time ≤ look_ticks s
