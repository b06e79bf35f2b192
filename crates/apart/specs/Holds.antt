-- What a key holds in a room, by its packed key: whichever slot it stands in. What becomes of it where its slot is changed, where it is freed, and where
-- another slot is.
-- Assumes nothing.
use Rattle.std.specs.Prelude.{List, ℕ, ltb}
use Rattle.std.proofs.Math.Bool.{cond}
use Rattle.rules.specs.Held.{Held, nothing}
use Rattle.keys.specs.declared.Key.{Key}
use Rattle.room.specs.Room.{slots_of, ring_of, use_of, find, body_of}
use Rattle.judge.specs.Held.{held_of}

abbrev pub held_at : List ℕ → ℕ → Held
held_at w i = held_of (ring_of w) (use_of w i) (body_of w i)

-- by the lowest slot with the key
unfoldable pub held_for : List ℕ → Key → Held
held_for w k = cond (ltb (find w k) (slots_of w)) (held_at w (find w k)) nothing
