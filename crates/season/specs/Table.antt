-- The laws of a gateway's table: what it tells of a controller once it has remembered a number, of this controller and of every other.
-- Assumes nothing.
use Rattle.std.specs.Prelude.{◌≡◌, ◌||◌, ◌≢◌, ℕ, ◌+◌, ◌≤◌, ◌<◌}
use Rattle.std.proofs.Math.Bool.{true, cond}
use mathlib.Core.List.{List}
use Rattle.std.proofs.Math.ListN.{length}
use Rattle.layout.specs.Layout.{nobody, longest_key}
use Rattle.keys.specs.Keys.{key_of}
use Rattle.room.specs.Room.{key_at}
use Rattle.frame.specs.Keys.{Bytes}
use Rattle.table.specs.Table.{known_of, Table, numbered, number_at}
use Rattle.table.specs.Table.{entry_for, is_known, last_number}
use Rattle.demand3.specs.History.{same_bytes}

-- ---- entries

-- what the calls have made: every entry's number is in range, and no key stands twice
pub record Sound (w : List ℕ) : Type 0 where
  pub table : Table w
  pub numbers : (i : ℕ) → i < known_of w → numbered (number_at w i) ≡ true
  pub once : (i j : ℕ) → i < known_of w → j < known_of w → key_at w i ≡ key_at w j → i ≡ j

-- a known controller has an entry
pub record Stands (w key : List ℕ) : Type 0 where
  pub short : length key ≤ longest_key
  pub inside : entry_for w key < known_of w
  pub key-is : key_at w (entry_for w key) ≡ key_of nobody key

-- ---- one entry changed, or a new one behind the others

-- v is w but for entry at, the only one with this key, which has number n
pub record Remembers (w v : List ℕ) (at : ℕ) (key : List ℕ) (n : ℕ) : Type 0 where
  pub table : Table v
  pub inside : at < known_of v
  pub key_here : key_at v at ≡ key_of nobody key
  pub number-here : number_at v at ≡ n
  -- one more, unless it was known
  pub count : known_of v ≡ cond (is_known w key) 0 1 + known_of w
  pub no-fewer : known_of w ≤ known_of v
  pub no-others : (i : ℕ) → i < known_of v → i ≢ at → i < known_of w
  pub keys : (i : ℕ) → i < known_of w → i ≢ at → key_at v i ≡ key_at w i
  pub numbers : (i : ℕ) → i < known_of w → i ≢ at → number_at v i ≡ number_at w i
  pub only : (i : ℕ) → i < known_of w → key_at w i ≡ key_of nobody key → i ≡ at
  pub own : at < known_of w → key_at w at ≡ key_of nobody key

-- what a table tells then: the controller is known and has this number; of every other one it tells what it did
pub record Tells (w v key : List ℕ) (n : ℕ) : Type 0 where
  pub sound : Sound v
  pub known : (k : List ℕ) → Bytes k → is_known v k ≡ same_bytes key k || is_known w k
  pub last : (k : List ℕ) → Bytes k → last_number v k ≡ cond (same_bytes key k) n (last_number w k)
  pub count : known_of v ≡ cond (is_known w key) 0 1 + known_of w
