-- A test that each of the first n numbers passes, with the ends of a loop that asks them in turn.
-- Assumes nothing.
use Rattle.std.specs.Prelude.{◌≡◌, Bool, true, false, ◌&&◌, ℕ, zero, suc, ◌+◌, ◌<◌}
use Rattle.std.proofs.Common.{ap, ◌∙◌, add-one, arith}
use Rattle.std.proofs.Math.Decide.{ℕ_discrete}
use Rattle.base.specs.Decides.{and-true, not_so, so-not}

unfoldable pub every : (ℕ → Bool) → ℕ → Bool
every p zero = true
every p (suc n) = every p n && p n

-- what all pass, each passes
pub every-at : (p : ℕ → Bool) (n i : ℕ) → i < n → every p n ≡ true → p i ≡ true
unfolding every
every-at p zero i h e = absurd (omega arith)
every-at p (suc n) i h e = go (ℕ_discrete i n) (and-true (every p n) (p n) e) (every-at p n i)
  where
    go : Dec (i ≡ n) → (every p n ≡ true) × (p n ≡ true) → (i < n → every p n ≡ true → p i ≡ true) → p i ≡ true
    go (yes q) a f = ap p q ∙ a.1
    go (no q) a f = f (omega arith) a.0

-- a loop's turn, and its end at one that does not pass
pub every-on : (p : ℕ → Bool) (n : ℕ) → every p n ≡ true → p n ≡ true → every p (n + 1) ≡ true
unfolding every
every-on p n e f = rw (add-one n, e) f

pub every-off : (p : ℕ → Bool) (n i : ℕ) → i < n → p i ≡ false → every p n ≡ false
every-off p n i h e = not_so (every p n) (λ a. so-not (p i) e (every-at p n i h a))
