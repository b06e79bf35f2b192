-- In a room whose ring is long enough and in which every key's buckets lie b + 1 milliseconds apart no call is told 12, and every call leaves it so.
-- Assumes nothing.
use Rattle.std.specs.Prelude.{List, ℕ, ◌≤◌, ◌<◌}
use Rattle.settings.specs.declared.Settings.{Settings}
use Rattle.ring_length.specs.RingLength.{sufficient_ring}
use Rattle.room.specs.Room.{slots_of, ring_of}
use Rattle.steps.specs.Leaves.{series_at}
use Rattle.rings.specs.Window.{BucketsApart}

-- every slot's buckets lie apart, and the ring is long enough
pub record Roomy (s : Settings) (w : List ℕ) : Type 0 where
  pub apart : (i : ℕ) → i < slots_of w → BucketsApart s (series_at w i)
  pub ring : sufficient_ring s ≤ ring_of w
