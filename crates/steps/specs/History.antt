-- Induction over histories: what each step keeps holds after any history. An empty room is sound, its keys are distinct and it has no buckets.
-- Assumes nothing.
use Rattle.std.specs.Prelude.{List, [], ℕ}
use Rattle.settings.specs.Clock.{window_ticks, join_ticks}
use Rattle.settings.specs.declared.Settings.{Settings}
use Rattle.rules.specs.Buckets.{live}
use Rattle.ring.specs.declared.Bucket.{Bucket}
use Rattle.frame.specs.Distinct.{Distinct}
use Rattle.edit.specs.declared.Then.{Then}
use Rattle.edit.specs.Bodies.{acted_view}
use Rattle.rules.specs.declared.RoomKind.{RoomKind}
use Rattle.places.specs.SoundRoom.{SoundRoom}

-- what holds of every room that the calls have made
pub record Sane (kind : RoomKind) (s : Settings) (w : List ℕ) : Type 0 where
  pub sound : SoundRoom kind s w
  pub distinct : Distinct w

-- ---- an invariant of buckets, of every slot's series

pub record Closed (s : Settings) (I : List Bucket → Type 0) : Type 0 where
  pub none : I []
  pub live : (t : ℕ) (xs : List Bucket) → I xs → I (live (window_ticks s) t xs)
  pub acts : (t : ℕ) (then : Then) (xs : List Bucket) → I xs → I (acted_view (join_ticks s) t then xs)
