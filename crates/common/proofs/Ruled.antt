-- Between a number that turns a call away and the `Result` that the code hands on.
-- Assumes nothing.
use Rattle.std.specs.Prelude.{◌≡◌, ◌≢◌, ℕ, Bool, true, false, cond, eqb, Result, Ok, Err, refl, suc}
use Rattle.std.proofs.Common.{ap, sym, ◌∙◌, eq-eqb, eqb-true, ne_eqb, arith}
use Rattle.std.proofs.lemmas.Bool.{false≢true}
use Rattle.common.specs.Refusals.{refusal, refuse, unless, ruled}
use Rattle.common.specs.declared.refusal.Refusal.{Refusal}

-- a number above 0 turns away
pub unless-at : {A : Type 0} (m n : ℕ) (v : A) → m ≡ n → m ≢ 0 → refuse m ≡ unless n v
unless-at m n v e z = rw (← e, ne_eqb m 0 z)

pub ruled-at : (m n : ℕ) → m ≡ n → m ≢ 0 → refuse m ≡ ruled n
ruled-at m n e z = unless-at m n tt e z

-- 0 does not
pub unless-none : {A : Type 0} (n : ℕ) (v : A) → n ≡ 0 → Ok v ≡ unless n v
unless-none n v e = rw e

-- a result's number, one more than the refusal's, and 0 where there is none
abbrev number_in : {A : Type 0} → Result A Refusal → ℕ
number_in (Ok x) = 0
number_in (Err r) = suc r.0

number-of : {A : Type 0} (n : ℕ) (v : A) → number_in (unless n v) ≡ cond (eqb n 0) 0 (suc n)
number-of n v = go (eqb n 0)
  where
    go : (z : Bool) → number_in (cond z (Ok v) (refuse n)) ≡ cond z 0 (suc n)
    go true = refl
    go false = refl

-- and back: what is handed on is the number's refusal
pub unless-err : {A : Type 0} (n : ℕ) (v : A) (r : Refusal) → Err r ≡ unless n v → (n ≢ 0) × (r ≡ refusal n)
unless-err n v r e = go (eqb n 0) refl (ap number_in e ∙ number-of n v)
  where
    go : (z : Bool) → eqb n 0 ≡ z → suc r.0 ≡ cond z 0 (suc n) → (n ≢ 0) × (r ≡ refusal n)
    go true p f = absurd (omega (arith, f))
    go false p f = let o : r.0 ≡ n = omega (arith, f) in ((λ z. false≢true (sym p ∙ eq-eqb n 0 z)), ap refusal o)

-- or the value
pub unless-ok : {A : Type 0} (n : ℕ) (v x : A) → Ok x ≡ unless n v → (n ≡ 0) × (x ≡ v)
unless-ok {A = A} n v x e = go (eqb n 0) refl (ap number_in e ∙ number-of n v) (ap value_in e)
  where
    value_in : Result A Refusal → A
    value_in (Ok y) = y
    value_in (Err r) = v

    go : (z : Bool) → eqb n 0 ≡ z → 0 ≡ cond z 0 (suc n) → x ≡ value_in (cond z (Ok v) (refuse n)) → (n ≡ 0) × (x ≡ v)
    go true p f g = (eqb-true n 0 p, g)
    go false p f g = absurd (omega (arith, f))

pub ruled-err : (n : ℕ) (r : Refusal) → Err r ≡ ruled n → (n ≢ 0) × (r ≡ refusal n)
ruled-err n r e = unless-err n tt r e

pub ruled-ok : (n : ℕ) → Ok tt ≡ ruled n → n ≡ 0
ruled-ok n e = (unless-ok n tt tt e).0
