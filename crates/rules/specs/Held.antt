-- A key as document 01 speaks of it: its series, which has a limit and buckets, and its cached factor. What is not there is 0, or no bucket.
-- Assumes nothing.
use Rattle.std.specs.Prelude.{Bool, false, not, ◌||◌, ◌&&◌, List, [], ℕ}
use Rattle.ring.specs.declared.Bucket.{Bucket}

pub record Held : Type 0 where
  -- "A key is unknown while it has no series"
  pub known : Bool
  -- the word of the limit that is stored, and the buckets, oldest first
  pub limit : ℕ
  pub buckets : List Bucket
  -- whether a factor is cached, its word, and since when
  pub cached : Bool
  pub factor : ℕ
  pub since : ℕ

-- a key that has nothing
abbrev pub nothing : Held
nothing = record { known = false; limit = 0; buckets = []; cached = false; factor = 0; since = 0 }

-- "A suppressed slot stays in use while it has a series or a cached factor"
abbrev pub has_any : Held → Bool
has_any h = h.known || h.cached

-- 11: "a slot is needed and the party already holds its promised number"; full says that it does
abbrev pub lacks_slot : Bool → Held → Bool
lacks_slot full h = not (has_any h) && full
