-- What the faces for C and Rust answer and leave, for every input, by the verdicts that the limiters' contracts name. An answer goes out as the row of five
-- words that `answers`' Rows gives it. w are the words of a room. Assumes nothing.
use Rattle.std.specs.Prelude.{◌≡◌, Bool, Option, Some, None, cond, List, ℕ}
use Rattle.answers.specs.Rows.{refused_row, done_row, set_row, shot_row, number_of}
use Rattle.common.specs.declared.units.RateLimit.{RateLimit}
use Rattle.settings.specs.declared.Settings.{Settings}
use Rattle.room.specs.Room.{length_of, fits}
use Rattle.parties.specs.declared.Caller.{Caller}
use Rattle.parties.specs.Parties.{Sent}
use Rattle.rules.specs.declared.RoomKind.{RoomKind}
use Rattle.judge.specs.Verdict.{Verdict}
use Rattle.provider.specs.Provider as Provider
use Rattle.gateway.specs.Gateway as Gateway
use Rattle.calls.specs.Set as Set
use Rattle.unnamed_set.specs.Unnamed as Unnamed
use Rattle.common.specs.declared.comparator.RateLimitComparator.{RateLimitComparator}
use Rattle.answers.specs.declared.HistoryUpdateMode.{HistoryUpdateMode}

-- ---- the shape of every face

-- the answer row, and the words of the room, of both rooms, or of table and room
pub record Face (W : Type 0) : Type 0 where
  pub row : List ℕ
  pub words : W

abbrev pub face : {W : Type 0} → List ℕ → W → Face W
face row w = record { row = row; words = w }

-- a face returned n and left the row a and the words w
pub record Faced {W : Type 0} (f : Face W) (n : ℕ) (a : List ℕ) (w : W) : Type 0 where
  pub number : n ≡ number_of f.row
  pub answer : a ≡ f.row
  pub left : w ≡ f.words

-- ---- who calls, by plain numbers

abbrev pub caller_of : ℕ → ℕ → ℕ → Caller
caller_of party first second = record { party = party; first = first; second = second }

-- ---- verdicts as faces show them

abbrev pub shown : {A : Type 0} → (A → List ℕ) → Verdict A → Face (List ℕ)
shown row_of v = face (row_of v.answer) v.words

abbrev pub shown_both : Provider.Verdict → Face (List ℕ × List ℕ)
shown_both v = face (done_row v.answer) (v.absolute, v.suppressed)

abbrev pub shown_gateway : Gateway.Verdict → Face (List ℕ × List ℕ)
shown_gateway v = face (shot_row v.answer) (v.table, v.room)

-- a set whose numbers name a comparator and a mode; else it is no call, is judged without them, and every word stays
unfoldable pub shown_set : RoomKind → Settings → List ℕ → ℕ → Sent → RateLimit → Option RateLimitComparator → ℕ → Option HistoryUpdateMode → Face (List ℕ)
shown_set kind s w t key rate (Some c) count (Some m) = shown set_row (Set.set kind s w t key rate c count m)
shown_set kind s w t key rate (Some c) count None = face (refused_row (Unnamed.refusal kind s w t key rate count)) w
shown_set kind s w t key rate None count m = face (refused_row (Unnamed.refusal kind s w t key rate count)) w

-- ---- rooms

-- how many words a room of n slots with rings of r has, 0 where there is none
unfoldable pub room_words : ℕ → ℕ → ℕ
room_words n r = cond (fits n r (length_of n r)) (length_of n r) 0

-- making a room or a table: 5, "the room's lengths are wrong"
abbrev pub make_number : Bool → ℕ
make_number made = cond made 0 5
