-- (b) A sound room stays sound, whatever the step.
-- Assumes nothing.
use Rattle.std.specs.Prelude.{◌≡◌, ℕ}

-- ---- what is declined

-- a slot is free then, or whose it was
pub data Kept (m n : ℕ) : Type 0 where
  gone : n ≡ 0 → Kept m n
  same : n ≡ m → Kept m n
