-- Which lines are read back, in the words of document 02, ticket 1: what reading a line answers is said by what is printed.
-- Assumes nothing.
use Rattle.std.specs.Prelude.{◌≡◌, Bool, true, ◌||◌, List, ◌≢◌, ℕ, ◌≤◌, T, leb, eqb, Float, Result, Ok, Err}
use Rattle.std.specs.Float.{binary64}
use Rattle.std.specs.Float.Ieee.{fits, to_bits}
use Rattle.fields.specs.Ranges.{largest, exact_largest}
use Rattle.suppression.specs.Factor.{factor_word_ok}
use Rattle.told.specs.Told.{bad_line, text_of}
use Rattle.told.specs.declared.Stored.{Stored}
use Rattle.told.specs.declared.Told.{Told}
use Rattle.told.specs.declared.Told.TheVariants.{Allowed, Rejected, Suppressed, Value, Refused}
use Rattle.told.specs.declared.ToldLine.{ToldLine}
use Rattle.common.specs.declared.refusal.Refusal.{Refusal}

-- ---- "some reading, answer or refusal 1 to 14, and two totals"

-- "two totals up to 2^53 with declined at most total"
pub record TotalsFit (x : Stored) : Type 0 where
  pub most : x.total ≤ exact_largest
  pub part : x.declined ≤ x.total

-- "the factor a double of 0 to 1 with its sign clear"
pub record FactorFits (factor : Float) : Type 0 where
  pub double : T (fits binary64 factor)
  pub unit : factor_word_ok (to_bits binary64 factor) ≡ true

-- "1 to 4 and 14 at t=0 only"
abbrev pub timeless : ℕ → Bool
timeless n = leb n 4 || eqb n bad_line

-- "refusal 1 to 14"
pub record RefusalFits (t n : ℕ) : Type 0 where
  pub some : 1 ≤ n
  pub most : n ≤ bad_line
  pub at_zero : timeless n ≡ true → t ≡ 0

-- "other numbers any u64"
abbrev pub ToldFits : ℕ → Told → Type 0
ToldFits t (Allowed x) = TotalsFit x
ToldFits t (Rejected wait left x) = (wait ≤ largest) × (left ≤ largest) × TotalsFit x
ToldFits t (Suppressed factor admitted x) = FactorFits factor × TotalsFit x
ToldFits t (Value factor x) = FactorFits factor × TotalsFit x
ToldFits t (Refused n) = RefusalFits t n

pub record Fits (l : ToldLine) : Type 0 where
  pub time : l.t ≤ largest
  pub told : ToldFits l.t l.told

-- ---- what reading a line answers

-- "A line is read exactly when .. print as it", and as these
pub record ReadsAs (line : List ℕ) (l : ToldLine) : Type 0 where
  pub in-range : Fits l
  pub prints : line ≡ text_of l

-- "14 for any other line"
pub record Unread (line : List ℕ) (n : ℕ) : Type 0 where
  pub number : n ≡ bad_line
  pub other : (l : ToldLine) → Fits l → line ≢ text_of l

abbrev pub Reads : List ℕ → Result ToldLine Refusal → Type 0
Reads line (Ok l) = ReadsAs line l
Reads line (Err e) = Unread line e.0
