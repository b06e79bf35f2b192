-- A gateway's table, in lent words: header and directory as a room has them, and nothing behind. The header's first word says how many controllers the
-- table knows, at most 64; the next two, a room's ring and last reading, are 0, so no table is a room. An entry has the controller's last admitted number
-- where a room's has the use, then the key, which nobody holds: a controller is known by its bytes alone. w are the words of a table.
-- Assumes nothing.
use Rattle.std.specs.Prelude.{◌≡◌, Bool, true, false, cond, not, ◌&&◌, ◌||◌, List, ℕ, ◌+◌, ◌-◌, ◌*◌, ◌≤◌, ◌<◌, length, set, replicate, leb, ltb, eqb, Result, Option, Some, None}
use Rattle.base.specs.Seek.{seek}
use Rattle.common.specs.declared.refusal.Refusal.{Refusal}
use Rattle.layout.specs.Layout.{slots_word, header_words, entry_words, nobody, most_slots, longest_key}
use Rattle.keys.specs.declared.Key.{Key}
use Rattle.keys.specs.Keys.{key_of, same_key}
use Rattle.room.specs.Room.{slots_of, ring_of, last_of, use_of, key_at, key_sound, entered, with_use, if_fits}
use Rattle.table.specs.declared.Looked.{Looked}

-- ---- lengths

-- "up to 64 controllers"
abbrev pub most_controllers : ℕ
most_controllers = most_slots

-- 451
abbrev pub table_words : ℕ
table_words = header_words + entry_words * most_controllers

-- how many controllers the table knows
abbrev pub known_of : List ℕ → ℕ
known_of w = slots_of w

unfoldable pub is_table : List ℕ → Bool
is_table w = eqb (length w) table_words && (leb (known_of w) most_controllers && (eqb (ring_of w) 0 && eqb (last_of w) 0))

-- the same as facts
pub record Table (w : List ℕ) : Type 0 where
  pub long : length w ≡ table_words
  pub few : known_of w ≤ most_controllers
  pub no-ring : ring_of w ≡ 0
  pub no-reading : last_of w ≡ 0

-- an empty table: it knows nobody
unfoldable pub empty_table : List ℕ
empty_table = replicate table_words 0

-- making one in lent words: done exactly where they fit; else every word stays
pub record TableMade (w : List ℕ) (x : Result (Unit {0}) Refusal) (v : List ℕ) : Type 0 where
  pub answer : x ≡ if_fits (eqb (length w) table_words)
  pub words : v ≡ cond (eqb (length w) table_words) empty_table w

-- ---- a controller's entry

-- "Each controller numbers its shots from 1 to 2^32 - 1"
abbrev pub most_number : ℕ
most_number = 4294967295

unfoldable pub numbered : ℕ → Bool
numbered n = leb 1 n && leb n most_number

-- the last admitted number in entry i
abbrev pub number_at : List ℕ → ℕ → ℕ
number_at w i = use_of w i

-- entry i has key k
unfoldable pub names : List ℕ → Key → ℕ → Bool
names w k i = same_key (key_at w i) k

-- the lowest entry with key k from a on, or the number of entries
abbrev pub entry_from : List ℕ → Key → ℕ → ℕ
entry_from w k a = seek (names w k) a (known_of w - a)

-- a controller's entry, or the number of entries; a key of over 32 bytes has none
unfoldable pub entry_for : List ℕ → List ℕ → ℕ
entry_for w key = cond (ltb longest_key (length key)) (known_of w) (entry_from w (key_of nobody key) 0)

unfoldable pub is_known : List ℕ → List ℕ → Bool
is_known w key = ltb (entry_for w key) (known_of w)

-- ---- what is judged: lengths, and of the controller's entry key and number, and that there is no other

-- entry i's number is one, and no entry behind it has its key
unfoldable pub once : List ℕ → ℕ → Bool
once w i = numbered (number_at w i) && eqb (entry_from w (key_at w i) (i + 1)) (known_of w)

unfoldable pub sound_entry : List ℕ → ℕ → Bool
sound_entry w i = key_sound w i && once w i

unfoldable pub sound_for : List ℕ → List ℕ → Bool
sound_for w key = is_table w && (not (is_known w key) || sound_entry w (entry_for w key))

-- ---- what a table tells, and what it is told

-- "the last admitted number", or 0 where there is none
unfoldable pub last_number : List ℕ → List ℕ → ℕ
last_number w key = cond (is_known w key) (number_at w (entry_for w key)) 0

-- a controller that it knows has a new number; another one stands behind the others
unfoldable pub remembered : List ℕ → List ℕ → ℕ → List ℕ
remembered w key number =
    cond (is_known w key) (with_use w (entry_for w key) number) (entered (set w slots_word (known_of w + 1)) (known_of w) number (key_of nobody key))

-- ---- both at once, as the code does it

-- a look at the table: where the controller stands or is to stand, and its last number; nothing where the table is unsound
unfoldable pub looked : List ℕ → List ℕ → Option Looked
looked w key = cond (sound_for w key) (Some (record { at = entry_for w key; last = last_number w key })) None

-- what a look says: whether the table is sound, and if so where the controller stands or is to stand, and its last number
abbrev pub seen_sound : Option Looked → Bool
seen_sound (Some x) = true
seen_sound None = false

abbrev pub seen_at : Option Looked → ℕ
seen_at (Some x) = x.at
seen_at None = 0

abbrev pub seen_last : Option Looked → ℕ
seen_last (Some x) = x.last
seen_last None = 0

-- `at` is where the controller stands, or is to stand
pub record Stands (w key : List ℕ) (at : ℕ) : Type 0 where
  pub table : Table w
  pub entry : at ≡ entry_for w key
  pub room : at < most_controllers
