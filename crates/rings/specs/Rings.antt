-- How long a ring must be (document 02, ticket 4): floor(1000 W / (b + 1)) + 1 buckets suffice, and no fewer do. Over histories of any length of any calls of
-- either limiter and of either party, on any keys, refused ones too, counted from the answers given, in either clock mode.
-- Assumes nothing.
use Rattle.std.specs.Prelude.{◌≡◌, true, ◌≢◌, ℕ, ◌≤◌, ◌<◌}
use mathlib.Core.List.{List, [], ◌∷◌}
use Rattle.answers.specs.Rows.{number_of}
use Rattle.common.specs.Refusals.{first}
use Rattle.settings.specs.Clock.{window_ticks}
use Rattle.settings.specs.Settings.{faults}
use Rattle.settings.specs.declared.Settings.{Settings}
use Rattle.rules.specs.declared.RoomKind.{RoomKind}
use Rattle.room.specs.Room.{fits, empty}
use Rattle.parties.specs.Parties.{Sent, sent}
use Rattle.steps.specs.Ops.{Call, row_of, verdict_of, AllKeyed}
use Rattle.apart.specs.Apart.{Limiter, words_by, Rising}

-- ---- what a history is told

-- the rows that a limiter answered it, newest first
abbrev pub rows_by : {kind : RoomKind} → Limiter kind → List ℕ → List (Call kind) → List (List ℕ)
rows_by l w [] = []
rows_by l w (c ∷ cs) = row_of c.op (l (words_by l w cs) c.reading c.op).answer ∷ rows_by l w cs

-- none of them is a refusal 12
abbrev pub NeverFull : List (List ℕ) → Type 0
NeverFull [] = Unit {0}
NeverFull (row ∷ more) = (number_of row ≢ 12) × NeverFull more

abbrev pub newest_number : List (List ℕ) → ℕ
newest_number [] = 0
newest_number (row ∷ more) = number_of row

-- ---- the promise, of a pair of limiters and of a length by the settings

abbrev pub Limiters : Type 0
Limiters = (kind : RoomKind) → Settings → Limiter kind

-- "from an empty room, with unchanging settings and readings that never fall, a ring at least that long (and within 512) never meets refusal 12 in either
-- limiter, over any calls, sets and cleanups included". That readings never fall need not be asked: a call whose reading does is refused with 6
abbrev pub SufficientBy : Limiters → (Settings → ℕ) → Type 0
SufficientBy limiter long =
    (kind : RoomKind) (s : Settings) (slots ring n : ℕ) → fits slots ring n ≡ true → long s ≤ ring →
    (calls : List (Call kind)) → AllKeyed calls → NeverFull (rows_by (limiter kind s) (empty slots ring) calls)

-- a history that meets it, with readings that do not fall and lie within one window
pub record Meets (limiter : Limiters) (kind : RoomKind) (s : Settings) (slots ring : ℕ) : Type 0 where
  pub calls : List (Call kind)
  pub keyed : AllKeyed calls
  pub rising : Rising (window_ticks s) calls
  pub told : newest_number (rows_by (limiter kind s) (empty slots ring) calls) ≡ 12

-- "A ring shorter by one, where that leaves 1 to 512 buckets, must be shown to meet it": any that is shorter
abbrev pub NecessaryBy : Limiters → (Settings → ℕ) → Type 0
NecessaryBy limiter long =
    (kind : RoomKind) (s : Settings) (slots ring n : ℕ) → fits slots ring n ≡ true → first (faults s) ≡ 0 → ring < long s → Meets limiter kind s slots ring

-- of the verdicts that the contracts name
abbrev pub Sufficient : (Settings → ℕ) → Type 0
Sufficient long = SufficientBy verdict_of long

abbrev pub Necessary : (Settings → ℕ) → Type 0
Necessary long = NecessaryBy verdict_of long

-- ---- no fewer do

-- the key of no bytes, of party 1 that is promised every slot
abbrev pub lone : ℕ → Sent
lone slots = sent (record { party = 1; first = slots; second = 0 }) []
