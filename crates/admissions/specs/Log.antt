-- A log of the counts that were admitted, each with its reading, newest first; and what they come to: in a span, at ages up to a bound, from a reading on.
-- Assumes nothing.
use Rattle.std.specs.Prelude.{Bool, cond, List, [], ◌∷◌, ℕ, ◌+◌, ◌-◌}
use Rattle.std.proofs.Math.Decide.{dec_le}

pub record Entry : Type 0 where
  pub time : ℕ
  pub amount : ℕ

abbrev pub entry : ℕ → ℕ → Entry
entry t n = record { time = t; amount = n }

-- the log after n counts at reading t that were admitted or not
abbrev pub noted : Bool → ℕ → ℕ → List Entry → List Entry
noted is t n log = cond is (entry t n ∷ log) log

-- n if the test passes, and 0 if not
abbrev pub pick : {P : Type 0} → Dec P → ℕ → ℕ
pick (yes h) n = n
pick (no h) n = 0

-- the amounts from reading s to reading z, both included
abbrev pub in_span : ℕ → ℕ → List Entry → ℕ
in_span s z [] = 0
in_span s z (e ∷ l) = pick (dec_le s e.time) (pick (dec_le e.time z) e.amount) + in_span s z l

-- the amounts whose age at reading t is at most w
abbrev pub aged : ℕ → ℕ → List Entry → ℕ
aged w t [] = 0
aged w t (e ∷ l) = pick (dec_le (t - e.time) w) e.amount + aged w t l

-- the amounts at x or later
abbrev pub since : ℕ → List Entry → ℕ
since x [] = 0
since x (e ∷ l) = pick (dec_le x e.time) e.amount + since x l
