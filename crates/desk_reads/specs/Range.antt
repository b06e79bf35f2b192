-- What `desk` tells of each call is in the range that reads back (document 02, ticket 1): of a sound room that is one party's, at settings that opened it.
-- Assumes nothing.
use Rattle.std.specs.Prelude.{Bool, ◌&&◌, leb}
use Rattle.std.proofs.Math.Bool.{true}
use mathlib.Core.List.{List, [], ◌∷◌}
use Prim.Native.Nat.{ℕ}
use Rattle.settings.specs.declared.Settings.{Settings}
use Rattle.layout.specs.Layout.{second_mark}
use Rattle.rules.specs.declared.RoomKind.{RoomKind}
use Rattle.steps.specs.History.{Sane}
use Rattle.apart.specs.Own.{NoneOf}

-- ---- each refusal: one of 5 to 12

abbrev pub is_between : List (ℕ × Bool) → Bool
is_between [] = true
is_between (x ∷ xs) = leb 5 x.0 && (leb x.0 12 && is_between xs)

-- a room that is sound, and in which no slot is the other party's
pub record OwnRoom (kind : RoomKind) (s : Settings) (w : List ℕ) : Type 0 where
  pub sane : Sane kind s w
  pub own : NoneOf second_mark w
