-- Two rooms in which the same keys of a party have a slot: the party holds as many slots in the one as in the other.
-- Assumes nothing.
use Rattle.std.specs.Prelude.{◌≡◌, Bool, true, not, ◌&&◌, ℕ, ◌<◌, eqb}

-- ---- counting

-- without j
abbrev pub without : (ℕ → Bool) → ℕ → ℕ → Bool
without q j i = q i && not (eqb i j)

-- what is mapped one to one is not more
abbrev pub Into : (ℕ → Bool) → ℕ → ℕ → (ℕ → ℕ) → (ℕ → Bool) → Type 0
Into p n m f q = (i : ℕ) → i < n → p i ≡ true → (f i < m) × (q (f i) ≡ true)

abbrev pub Once : (ℕ → Bool) → ℕ → (ℕ → ℕ) → Type 0
Once p n f = (i j : ℕ) → i < n → j < n → p i ≡ true → p j ≡ true → f i ≡ f j → i ≡ j
