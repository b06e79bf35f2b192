-- That the promises are sharp: none can be said of more shots, and 21 comes at 64 controllers and at no other number. By short seasons (`Histories.antt`),
-- and by one in which as many controllers as wanted send a shot each.
-- Assumes nothing.
use Rattle.std.specs.Prelude.{◌≡◌, List, [], ◌∷◌, ℕ, zero, suc, ◌≤◌, Ok}
use Rattle.season.specs.Log.{Pair, times, highest}
use Rattle.season.specs.Season.{Shot, Event, shoots, AllBytes, Gateway, told, pair_of, log_of}
use Rattle.season.specs.Histories.{idle, shot_of}
use Rattle.answers.specs.declared.ShotOutcome.TheVariants.{Held}

-- ---- which shots may be sent again

-- not every number that was never admitted: 1 after 2 is lost
abbrev pub NeverAdmitted : List Pair → Shot → Type 0
NeverAdmitted log c = times c.controller c.number log ≡ 0

-- not the highest one itself
abbrev pub NoHigher : List Pair → Shot → Type 0
NoHigher log c = highest c.controller log ≤ c.number

-- ---- which shots are held, and how often a pair is admitted

-- not every one that was admitted: after 1 and 2 it is 2 alone
abbrev pub AdmittedIsHeld : Gateway → Type 0
AdmittedIsHeld g =
    (events : List Event) (c : Shot) → AllBytes (shoots c ∷ events) → 1 ≤ times c.controller c.number (log_of g events) → (told g events c).answer ≡ Ok Held

-- once it is
abbrev pub Never : Gateway → Type 0
Never g = (events : List Event) → AllBytes events → (key : List ℕ) (n : ℕ) → times key n (log_of g events) ≤ 0

-- ---- 64 controllers

-- the controllers 0, 1, .. below n, of one byte each, with shot 1 each
abbrev pub by : ℕ → Shot
by n = shot_of (n ∷ []) 1 idle

unfoldable pub crowd : ℕ → List Event
crowd zero = []
crowd (suc n) = shoots (by n) ∷ crowd n

unfoldable pub pairs : ℕ → List Pair
pairs zero = []
pairs (suc n) = pair_of (by n) ∷ pairs n
