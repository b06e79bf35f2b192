-- The ranges of document 01's numbers, as tests: whole numbers from 1 to a top, and finite doubles from a least one on.
-- Assumes nothing.
use Rattle.std.specs.Prelude.{◌≡◌, ℕ, ◌≤◌, Bool, true, false, ◌&&◌, pos, negsuc, nat_le, refl, Float}
use Rattle.std.specs.Float.{fin, binary64}
use Rattle.std.specs.Float.Ieee.{fits, le}
use Rattle.std.proofs.Common.{le-leb, leb-true}

-- ---- whole numbers

abbrev pub within : ℕ → ℕ → ℕ → Bool
within lo hi x = nat_le lo x && nat_le x hi

-- the largest window in seconds, and the longest bucket and cache period in milliseconds
abbrev pub most_window : ℕ
most_window = 33554432

abbrev pub most_bucket : ℕ
most_bucket = 4294967296

abbrev pub most_cache : ℕ
most_cache = 4294967296

abbrev pub window_ok : ℕ → Bool
window_ok s = within 1 most_window s

abbrev pub bucket_ok : ℕ → Bool
bucket_ok ms = within 1 most_bucket ms

abbrev pub cache_ok : ℕ → Bool
cache_ok ms = within 1 most_cache ms

and_split : (a b : Bool) → a && b ≡ true → (a ≡ true) × (b ≡ true)
and_split true b e = (refl, e)
and_split false b e = (e, absurd-true e)
  where
    absurd-true : {b : Bool} → false ≡ true → b ≡ true
    absurd-true p = cc

pub and_no : (a : Bool) → a && false ≡ false
and_no true = refl
and_no false = refl

-- x lies from lo to hi
pub record Within (lo hi x : ℕ) : Type 0 where
  pub low : lo ≤ x
  pub high : x ≤ hi

pub within-facts : (lo hi x : ℕ) → within lo hi x ≡ true → Within lo hi x
within-facts lo hi x e =
    let p = and_split (nat_le lo x) (nat_le x hi) e in
    record { low = leb-true _ _ p.0; high = leb-true _ _ p.1 }

pub within-true : (lo hi x : ℕ) → Within lo hi x → within lo hi x ≡ true
within-true lo hi x w = simp (le-leb _ _ w.low, le-leb _ _ w.high)

-- ---- doubles

-- 0, 1, 2^-900 and the largest finite double
abbrev pub nil : Float
nil = fin false 0 (pos 0)

abbrev pub one : Float
one = fin false 1 (pos 0)

abbrev pub least : Float
least = fin false 1 (negsuc 899)

abbrev pub most : Float
most = fin false 9007199254740991 (pos 971)

-- "Rate: finite, at least 2^-900 per second"
unfoldable pub rate_ok : Float → Bool
rate_ok x = le least x && le x most

-- "F hard limit factor, finite, at least 1": a double, as each `f64` is
unfoldable pub factor_ok : Float → Bool
factor_ok x = fits binary64 x && (le one x && le x most)
