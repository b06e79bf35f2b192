-- Which numbers and keys a line may hold, in 01's words.
-- Assumes nothing.
use Rattle.std.specs.Prelude.{true, List, ℕ, ◌≤◌, length}
use Rattle.fields.specs.Bytes.{counts}
use Rattle.fields.specs.Numbers.{Each}

-- ---- ranges

-- 01: "All numbers are u64"
abbrev pub largest : ℕ
largest = 18446744073709551615

-- 01: "rate and factor at most 2^53"
abbrev pub exact_largest : ℕ
exact_largest = 9007199254740992

-- 01: "keys there are 1 to 32 small letters or digits"
pub record Key (key : List ℕ) : Type 0 where
  pub some : 1 ≤ length key
  pub short : length key ≤ 32
  pub plain : Each (counts true) key
