-- A log of the counts that were admitted, each with its reading, newest first; and what they come to: in a span, at ages up to a bound, from a reading on.
-- Assumes nothing.
use Rattle.std.specs.Prelude.{◌≡◌, refl, List, [], ◌∷◌, ℕ, ◌-◌, ◌≤◌}
use Rattle.std.proofs.Math.Decide.{dec_le}
use Rattle.std.proofs.Common.{arith}
use Rattle.admissions.specs.Log.{Entry, pick, in_span, aged, since}

-- ---- one test is in another

pub pick-mono : {P Q : Type 0} (p : Dec P) (q : Dec Q) (n : ℕ) → (P → Q) → pick p n ≤ pick q n
pick-mono (yes p) (yes q) n f = omega arith
pick-mono (yes p) (no q) n f = absurd (q (f p))
pick-mono (no p) (yes q) n f = omega arith
pick-mono (no p) (no q) n f = omega arith

pub pick_all : {P : Type 0} (p : Dec P) (n : ℕ) → P → pick p n ≡ n
pick_all (yes p) n h = refl
pick_all (no p) n h = absurd (p h)

pub pick-le : {P : Type 0} (p : Dec P) (n : ℕ) → pick p n ≤ n
pick-le (yes p) n = omega arith
pick-le (no p) n = omega arith

pub since-mono : (x y : ℕ) (l : List Entry) → x ≤ y → since y l ≤ since x l
since-mono x y [] h = omega arith
since-mono x y (e ∷ l) h =
    omega (arith, since-mono x y l h, pick-mono (dec_le y e.time) (dec_le x e.time) e.amount (λ g. omega arith))

pub span-since : (s z : ℕ) (l : List Entry) → in_span s z l ≤ since s l
span-since s z [] = omega arith
span-since s z (e ∷ l) = omega (arith, span-since s z l, go (dec_le s e.time) (dec_le e.time z))
  where
    go : {P Q : Type 0} (p : Dec P) (q : Dec Q) → pick p (pick q e.amount) ≤ pick p e.amount
    go (yes p) q = pick-le q _
    go (no p) q = omega arith

pub span-mono : (s y z : ℕ) (l : List Entry) → y ≤ z → in_span s y l ≤ in_span s z l
span-mono s y z [] h = omega arith
span-mono s y z (e ∷ l) h =
    omega (arith, span-mono s y z l h, go (dec_le s e.time) (pick-mono (dec_le e.time y) (dec_le e.time z) e.amount (λ g. omega arith)))
  where
    go : {P : Type 0} (p : Dec P) → pick (dec_le e.time y) e.amount ≤ pick (dec_le e.time z) e.amount →
        pick p (pick (dec_le e.time y) e.amount) ≤ pick p (pick (dec_le e.time z) e.amount)
    go (yes p) g = g
    go (no p) g = omega arith

pub aged-mono : (v w t : ℕ) (l : List Entry) → v ≤ w → aged v t l ≤ aged w t l
aged-mono v w t [] h = omega arith
aged-mono v w t (e ∷ l) h =
    omega (arith, aged-mono v w t l h, pick-mono (dec_le (t - e.time) v) (dec_le (t - e.time) w) e.amount (λ z. omega arith))

pub since-aged : (w t : ℕ) (l : List Entry) → since (t - w) l ≤ aged w t l
since-aged w t [] = omega arith
since-aged w t (e ∷ l) =
    omega (arith, since-aged w t l, pick-mono (dec_le (t - w) e.time) (dec_le (t - e.time) w) e.amount (λ z. omega arith))
