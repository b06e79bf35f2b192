-- Non-interference fails where it should: if the promises given change (`promises-stay`), and for a limiter that gives 11 by free slots alone
-- (`by-free-slots`).
-- Assumes nothing.
use Rattle.std.specs.Prelude.{List, [], ◌∷◌, ℕ}
use Rattle.rules.specs.declared.RoomKind.TheVariants as kind
use Rattle.steps.specs.Ops.{Call}

-- the number that was told last
abbrev pub newest : List ℕ → ℕ
newest [] = 0
newest (n ∷ ns) = n

-- nothing is asked of the promises
abbrev pub Any : List (Call kind.Suppressed) → Type 0
Any calls = Unit {0}
