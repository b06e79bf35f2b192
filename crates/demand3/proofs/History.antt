-- Histories of calls on a suppressed room (`Call`, `words` of the steps): what a key was admitted, counted from the answers given, and the calls that
-- leave a key to the limiter.
-- Assumes nothing.
use Rattle.std.specs.Prelude.{◌≡◌, refl, true, List, [], ◌∷◌, ℕ, eqb}
use Rattle.std.proofs.Common.{ap₂, subst, eq-eqb, eqb-true}
use Rattle.std.proofs.lemmas.Bool.{false≢true}
use Rattle.base.specs.Decides.{and-true, true-and}
use Rattle.parties.specs.Parties.{Sent}
use Rattle.demand3.specs.History.{same_bytes, Same, same_key}

-- ---- what a key was admitted

pub same-bytes : (a b : List ℕ) → same_bytes a b ≡ true → a ≡ b
same-bytes [] [] e = refl
same-bytes [] (y ∷ ys) e = absurd (false≢true e)
same-bytes (x ∷ xs) [] e = absurd (false≢true e)
same-bytes (x ∷ xs) (y ∷ ys) e =
    let p = and-true (eqb x y) _ e in
    ap₂ (λ (z : ℕ) (zs : List ℕ). z ∷ zs) (eqb-true x y p.0) (same-bytes xs ys p.1)

pub bytes_same : (a : List ℕ) → same_bytes a a ≡ true
bytes_same [] = refl
bytes_same (x ∷ xs) = true-and (eqb x x) _ (eq-eqb x x refl) (bytes_same xs)

pub key-same : (k key : Sent) → same_key k key ≡ true → Same k key
key-same k key e =
    let p = and-true (eqb k.caller.party key.caller.party) _ e in
    (eqb-true _ _ p.0, same-bytes k.bytes key.bytes p.1)

pub same-key : (k key : Sent) → Same k key → same_key k key ≡ true
same-key k key p =
    true-and (eqb k.caller.party key.caller.party) _ (eq-eqb _ _ p.0)
    (subst (λ (b : List ℕ). same_bytes k.bytes b ≡ true) p.1 (bytes_same k.bytes))
