-- What a key holds in a room, as document 01's rules speak of it: the lowest slot with the key has it.
-- Assumes nothing.
use Rattle.std.specs.Prelude.{Bool, cond, List, [], ℕ, ltb}
use Rattle.ring.specs.declared.Bucket.{Bucket}
use Rattle.ring.specs.Ring.{buckets}
use Rattle.rules.specs.Held.{Held}
use Rattle.room.specs.Room.{slots_of, ring_of, use_of, body_of}
use Rattle.parties.specs.Parties.{Sent}
use Rattle.opened.specs.Sound.{limit_of, factor_of, factor_time_of, has_series, has_cached, addressed}

-- what is not there is 0
abbrev pub held_by : Bool → Bool → ℕ → List Bucket → ℕ → ℕ → Held
held_by known cached limit xs factor since = record {
  known = known;
  limit = cond known limit 0;
  buckets = cond known xs [];
  cached = cached;
  factor = cond cached factor 0;
  since = cond cached since 0;
}

-- of a slot's use and body
abbrev pub held_of : ℕ → ℕ → List ℕ → Held
held_of r u b = held_by (has_series u) (has_cached u) (limit_of b) (buckets r b) (factor_of b) (factor_time_of b)

-- the use of the key's slot, 0 where it has none
abbrev pub used_by : List ℕ → Sent → ℕ
used_by w key = cond (ltb (addressed w key) (slots_of w)) (use_of w (addressed w key)) 0

unfoldable pub held_in : List ℕ → Sent → Held
held_in w key = held_of (ring_of w) (used_by w key) (body_of w (addressed w key))
