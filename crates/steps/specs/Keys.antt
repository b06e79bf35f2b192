-- By keys: whatever the step, each key's buckets are what one of the four rules makes of all of its buckets before, of the live ones, or of none. A slot
-- in use has its key still, or has entered a key that no slot had.
-- Assumes nothing.
use Rattle.std.specs.Prelude.{◌≡◌, cond, List, [], ◌≢◌, ℕ, ltb}
use Rattle.ring.specs.declared.Bucket.{Bucket}
use Rattle.keys.specs.declared.Key.{Key}
use Rattle.room.specs.Room.{slots_of, holder_of, key_at, find}
use Rattle.places.specs.Placed.{Lacks}
use Rattle.steps.specs.Leaves.{series_at}

-- slot i of v is in use
pub data Entry (w v : List ℕ) (i : ℕ) : Type 0 where
  still : holder_of w i ≢ 0 → key_at v i ≡ key_at w i → Entry w v i
  enters : Lacks w i (key_at v i) → Entry w v i

-- ---- a key's buckets

abbrev pub series_of : List ℕ → Key → List Bucket
series_of w k = cond (ltb (find w k) (slots_of w)) (series_at w (find w k)) []
