-- That the promises are sharp: none can be said of more shots, and 21 comes at 64 controllers and at no other number. By short seasons (`Histories.antt`),
-- and by one in which as many controllers as wanted send a shot each.
-- Assumes nothing.
use Rattle.std.specs.Prelude.{◌≡◌, refl, Bool, true, false, cond, not, ◌&&◌, ◌||◌, List, [], ◌∷◌, ◌≢◌, ℕ, zero, suc, ◌+◌, ◌≤◌, ◌<◌, eqb, Result, Ok}
use Rattle.std.proofs.Common.{sym, ap, ap₂, subst, ◌∙◌, arith, eq-eqb, ne_eqb}
use Rattle.std.proofs.lemmas.Bool.{false≢true}
use Rattle.std.proofs.Math.Decide.{dec_lt}
use Rattle.answers.specs.declared.RateLimitDecision.TheVariants as decision
use Rattle.frame.specs.Keys.{Bytes}
use Rattle.table.specs.Table.{most_controllers, numbered}
use Rattle.demand3.specs.History.{same_bytes}
use Rattle.gateway.specs.Gateway.{as_shot, admits_shot}
use Rattle.season.specs.Log.{Pair, named, controllers}
use Rattle.season.proofs.Log.{unnamed-highest}
use Rattle.season.specs.Season.{AllBytes, told, noted, log_of, full, AskedWhere, StillAhead}
use Rattle.season.specs.Own.{own}
use Rattle.season.proofs.Own.{season}
use Rattle.season.proofs.Exact.{asks-not-held, asks-not-20}
use Rattle.season.specs.Histories.{goes, one, two, one_two}
use Rattle.season.proofs.Histories.{computed}
use Rattle.season.proofs.Wrong.{bytes}
use Rattle.season.specs.Sharp.{NeverAdmitted, NoHigher, AdmittedIsHeld, Never, by, crowd, pairs}
use Rattle.common.specs.Refusals.{refuse}
use Rattle.common.specs.declared.refusal.Refusal.{Refusal}
use Rattle.answers.specs.declared.ShotOutcome.{ShotOutcome}
use Rattle.answers.specs.declared.ShotOutcome.TheVariants.{Held, Decided}

-- ---- which shots may be sent again

pub lost-sharp : AskedWhere NeverAdmitted most_controllers own → ⊥
unfolding numbered
lost-sharp p = asks-not-20 _ (goes 1) (told own two (goes 1)) (p two (goes 1) (bytes, (bytes, tt)) refl computed.lost-times) computed.lost

pub again-sharp : AskedWhere NoHigher most_controllers own → ⊥
unfolding numbered
again-sharp p =
    asks-not-held _ (goes 1) (told own one (goes 1)) (p one (goes 1) (bytes, (bytes, tt)) refl (omega (arith, computed.again-highest))) computed.again

-- ---- which shots are held, and how often a pair is admitted

pub held-sharp : AdmittedIsHeld own → ⊥
held-sharp p =
    let e : refuse 20 ≡ (Ok Held) = sym computed.older ∙ p one_two (goes 1) (bytes, (bytes, (bytes, tt))) (omega (arith, computed.older-times)) in
    let z : ◌≡◌ {A = ℕ} 0 1 = cc in
    omega (arith, z)

pub once-sharp : Never own → ⊥
once-sharp p = omega (arith, computed.older-times, p one_two (bytes, (bytes, tt)) [] 1)

-- ---- 64 controllers

byte : (n : ℕ) → n < 256 → Bytes (n ∷ [])
byte n h zero = omega arith
byte n h (suc i) = omega arith

crowd-bytes : (n : ℕ) → n ≤ 64 → AllBytes (crowd n)
unfolding crowd
crowd-bytes zero h = tt
crowd-bytes (suc n) h = (byte n (omega arith), crowd-bytes n (omega arith))

-- the next one is none of them
next-unnamed : (m n : ℕ) → m ≤ n → named (n ∷ []) (pairs m) ≡ false
unfolding pairs
next-unnamed zero n h = refl
next-unnamed (suc m) n h =
    ap₂ (λ (x y : Bool). (x && same_bytes [] []) || y) (ne_eqb m n (omega arith)) (next-unnamed m n (omega arith))

pairs-count : (n : ℕ) → controllers (pairs n) ≡ n
unfolding pairs
pairs-count zero = refl
pairs-count (suc n) = ap₂ (λ (z : Bool) (m : ℕ). cond z 0 1 + m) (next-unnamed n n (omega arith)) (pairs-count n) ∙ (let e : 1 + n ≡ suc n = omega arith in e)

-- so the table is full for it exactly where there are as many as the table may have
next-full : (most n : ℕ) → full most (pairs n) (by n) ≡ eqb n most
next-full most n = ap₂ (λ (z : Bool) (m : ℕ). not z && eqb m most) (next-unnamed n n (omega arith)) (pairs-count n)

next-ahead : (n : ℕ) → StillAhead (pairs n) (by n)
next-ahead n = omega (arith, unnamed-highest (n ∷ []) (pairs n) (next-unnamed n n (omega arith)))

-- what is promised of it with `most` controllers, after those before it
next-answer : (most n : ℕ) → AskedWhere StillAhead most own → n ≤ 64 → log_of own (crowd n) ≡ pairs n →
    (told own (crowd n) (by n)).answer ≡ cond (eqb n most) (refuse 21) (Ok (Decided decision.Allowed))
unfolding numbered
next-answer most n p h e =
    let l = subst (λ (log : List Pair). StillAhead log (by n)) (sym e) (next-ahead n) in
    (p (crowd n) (by n) (byte n (omega arith), crowd-bytes n h) refl l).answer ∙
    ap₂ (λ (z : Bool) (a : Result ShotOutcome Refusal). cond z (refuse 21) a)
    (ap (λ (log : List Pair). full most log (by n)) e ∙ next-full most n) (ap as_shot (computed.allows-any n 1))

-- all of 64 are admitted
pub crowd-log : (n : ℕ) → n ≤ 64 → log_of own (crowd n) ≡ pairs n
unfolding crowd pairs
crowd-log zero h = refl
crowd-log (suc n) h =
    let e = crowd-log n (omega arith) in
    let a : (told own (crowd n) (by n)).answer ≡ Ok (Decided decision.Allowed) =
    next-answer most_controllers n season.may-be-sent-again (omega arith) e ∙
    ap (λ (z : Bool). cond z (refuse 21) (Ok (Decided decision.Allowed))) (ne_eqb n most_controllers (omega arith)) in
    ap₂ (λ (x : Result ShotOutcome Refusal) (log : List Pair). noted (admits_shot x) (by n) log) a e

-- and one more is not
pub crowd-full : (told own (crowd 64) (by 64)).answer ≡ refuse 21
crowd-full = next-answer most_controllers 64 season.may-be-sent-again (omega arith) (crowd-log 64 (omega arith))

-- the two answers tell the two apart
tells : (x y : Bool) → cond x (refuse 21) (Ok (Decided decision.Allowed)) ≡ cond y (refuse 21) (Ok (Decided decision.Allowed)) → x ≡ y
tells true true e = refl
tells true false e = let z : ◌≡◌ {A = ℕ} 0 1 = cc in absurd (omega (arith, z))
tells false true e = let z : ◌≡◌ {A = ℕ} 0 1 = cc in absurd (omega (arith, z))
tells false false e = refl

-- with any other number in place of 64 it does not hold
pub most-sharp : (most : ℕ) → most ≢ 64 → AskedWhere StillAhead most own → ⊥
most-sharp most ne p = go (dec_lt most 64)
  where
    at : (n : ℕ) → n ≤ 64 → eqb n 64 ≡ eqb n most
    at n h = let e = crowd-log n h in tells (eqb n 64) (eqb n most) (sym (next-answer 64 n season.may-be-sent-again h e) ∙ next-answer most n p h e)

    go : Dec (most < 64) → ⊥
    go (yes l) = false≢true (sym (ne_eqb most 64 ne) ∙ at most (omega arith) ∙ eq-eqb most most refl)
    go (no l) = false≢true (sym (ne_eqb 64 most (λ e. ne (sym e))) ∙ sym (at 64 (omega arith)) ∙ eq-eqb 64 64 refl)
