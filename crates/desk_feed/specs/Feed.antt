-- A program, `desk` or `shots`, on bytes. A line's bytes are held until its newline comes; then the line is taken and what it prints is put out.
-- a and b are the words of the two memories.
-- Assumes nothing.
use Rattle.std.specs.Prelude.{Bool, true, false, cond, ◌||◌, List, [], ◌∷◌, ◌++◌, ℕ, suc, ◌+◌, length, take, set, ltb, eqb}
use Rattle.desk_turn.specs.declared.Program.{Program}
use Rattle.desk_turn.specs.declared.Phase.{Phase}
use Rattle.desk_turn.specs.declared.Phase.TheVariants.{Waiting, Open, Ended}
use Rattle.desk_feed.specs.declared.Desk.{Desk}
use Rattle.desk_turn.specs.Lines.{Effect, idle, newline, roomy, turn}

-- ---- the whole desk between two bytes: the first `held` bytes of hold are those of the line so far

pub record Whole : Type 0 where
  pub desk : Desk
  pub first : List ℕ
  pub second : List ℕ
  pub hold : List ℕ

abbrev pub whole : Desk → List ℕ → List ℕ → List ℕ → Whole
whole d a b h = record { desk = d; first = a; second = b; hold = h }

abbrev pub fresh : Program → Desk
fresh g = record { phase = Waiting g; held = 0 }

-- no byte is held
abbrev pub rested : Phase → Desk
rested p = record { phase = p; held = 0 }

-- the whole desk after a byte, and what was printed
pub record After : Type 0 where
  pub whole : Whole
  pub prints : List ℕ

-- the line so far
abbrev pub line_of : Whole → List ℕ
line_of w = take w.desk.held w.hold

abbrev pub after_line : Effect → List ℕ → After
after_line v h = record { whole = whole (rested v.phase) v.first v.second h; prints = v.prints }

-- a byte more of a line: where hold is full, it is passed over
abbrev pub held_more : Desk → List ℕ → ℕ
held_more d h = cond (ltb d.held (length h)) (d.held + 1) d.held

abbrev pub keeping : Whole → ℕ → Whole
keeping w b = whole (record { phase = w.desk.phase; held = held_more w.desk w.hold }) w.first w.second (set w.hold w.desk.held b)

abbrev pub ending : Whole → Effect
ending w = turn w.desk.phase w.first w.second (line_of w)

abbrev pub byte_as : Bool → Whole → ℕ → After
byte_as true w b = after_line (ending w) w.hold
byte_as false w b = record { whole = keeping w b; prints = [] }

unfoldable pub byte : Whole → ℕ → After
byte w b = byte_as (eqb b newline) w b

-- ---- bytes, one after the other

abbrev pub and_then : After → After → After
and_then f g = record { whole = g.whole; prints = f.prints ++ g.prints }

unfoldable pub feed : Whole → List ℕ → After
feed w [] = record { whole = w; prints = [] }
feed w (b ∷ bs) = and_then (byte w b) (feed (byte w b).whole bs)

-- how many of them are taken where l bytes may be put and p are: while a line more has room
unfoldable pub takes : ℕ → Whole → ℕ → List ℕ → ℕ
takes l w p [] = 0
takes l w p (b ∷ bs) = cond (ltb l (p + roomy)) 0 (suc (takes l (byte w b).whole (p + length (byte w b).prints) bs))

-- ---- the end of the input: "The last newline may be missing"; without a settings line there is a bad one

abbrev pub over_in : Phase → ℕ → Bool
over_in (Waiting g) held = false
over_in (Open g s) held = eqb held 0
over_in Ended held = true

unfoldable pub is_over : Desk → Bool
is_over d = over_in d.phase d.held

abbrev pub finish_as : Bool → Whole → Effect
finish_as true w = idle w.desk.phase w.first w.second
finish_as false w = ending w

-- with l bytes to put the line
unfoldable pub finishing : ℕ → Whole → Effect
finishing l w = finish_as (ltb l roomy || is_over w.desk) w

-- a whole run: the input's bytes and then its end
abbrev pub finished : ℕ → Whole → After
finished l w = after_line (finishing l w) w.hold

abbrev pub running : ℕ → Whole → List ℕ → After
running l w xs = and_then (feed w xs) (finished l (feed w xs).whole)

-- "and ends"
abbrev pub ended_in : Phase → Bool
ended_in (Waiting g) = false
ended_in (Open g s) = false
ended_in Ended = true

unfoldable pub has_ended : Desk → Bool
has_ended d = ended_in d.phase
