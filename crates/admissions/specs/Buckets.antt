-- A key's buckets as a log of what each has admitted: what eviction, an increment and a drop of the series make of it.
-- In ticks are w, the window, t, the reading, and b, the longest age that joins; c is the count, d how much of it is declined.
-- Assumes nothing.
use mathlib.Core.List.{List, [], ◌∷◌}
use Prim.Native.Nat.{◌-◌}
use Rattle.ring.specs.declared.Bucket.{Bucket}
use Rattle.admissions.specs.Log.{Entry, entry}

abbrev pub mass : List Bucket → List Entry
mass [] = []
mass (x ∷ xs) = entry x.time (x.count - x.declined) ∷ mass xs
