-- What a key holds in a room, as document 01's rules speak of it: the lowest slot with the key has it.
-- Assumes nothing.
use Rattle.std.specs.Prelude.{◌≡◌, Bool, cond, List, ℕ, ◌≤◌, ◌<◌}
use Rattle.std.proofs.Math.Path.{ap}
use Rattle.std.proofs.Common.{lt-ltb, le-ltb}
use Rattle.rules.specs.Held.{nothing}
use Rattle.room.specs.Room.{slots_of, ring_of, use_of, body_of}
use Rattle.parties.specs.Parties.{Sent}
use Rattle.opened.specs.Sound.{addressed}
use Rattle.judge.specs.Held.{held_of, held_in}

module _ (w : List ℕ) (key : Sent) where
  pub held-here : addressed w key < slots_of w → held_in w key ≡ held_of (ring_of w) (use_of w (addressed w key)) (body_of w (addressed w key))
  unfolding held_in
  held-here h =
      let at = addressed w key in
      ap (λ (z : Bool). held_of (ring_of w) (cond z (use_of w at) 0) (body_of w at)) (lt-ltb at (slots_of w) h)

  pub held_none : slots_of w ≤ addressed w key → held_in w key ≡ nothing
  unfolding held_in
  held_none h =
      let at = addressed w key in
      ap (λ (z : Bool). held_of (ring_of w) (cond z (use_of w at) 0) (body_of w at)) (le-ltb at (slots_of w) h)
