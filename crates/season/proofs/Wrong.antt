-- Which promise each wrong gateway breaks, by a season of a few events that the checker computes (`Histories.antt`).
-- Assumes nothing.
use Rattle.std.specs.Prelude.{◌≡◌, refl, List, [], ◌∷◌, ℕ, ◌≤◌, ◌<◌, Ok}
use Rattle.std.proofs.Common.{sym, ap, subst, ◌∙◌, arith}
use Rattle.answers.specs.declared.RateLimitDecision.TheVariants as decision
use Rattle.frame.specs.Keys.{Bytes}
use Rattle.table.specs.Table.{known_of, empty_table, numbered}
use Rattle.gateway.specs.Gateway.{as_shot, admits_shot}
use Rattle.season.specs.Log.{Pair, times, highest}
use Rattle.season.proofs.Table.{empty-knows}
use Rattle.season.specs.Season.{Event, shoots, calls, AllBytes, Gateway, told, log_of}
use Rattle.season.specs.Season.{NeverTwice, HeldWasAdmitted, MayBeSentAgain, LeavesTable}
use Rattle.season.proofs.Judging.{apart}
use Rattle.season.proofs.Exact.{asks-not-held}
use Rattle.season.specs.Gateways.{eager, forgetful, at_most, lax, alone, closed}
use Rattle.season.specs.Histories.{goes, stays, one_away, two, one_one, one_cleaned_one, two_one_two}
use Rattle.season.proofs.Histories.{computed}
use Rattle.season.specs.Wrong.{KeepsTheRest}
use Rattle.common.specs.Refusals.{refuse}
use Rattle.answers.specs.declared.ShotOutcome.TheVariants.{Decided}

pub bytes : Bytes []
bytes i = omega arith

-- ---- admitted twice

-- a pair that is in the log twice
twice : (g : Gateway) (events : List Event) (n : ℕ) → AllBytes events → times [] n (log_of g events) ≡ 2 → NeverTwice g → ⊥
twice g events n b e p = omega (arith, e, p events b [] n)

pub forgetful-breaks-never-twice : NeverTwice forgetful → ⊥
forgetful-breaks-never-twice = twice forgetful one_cleaned_one 1 (bytes, (bytes, tt)) computed.forgetful-times

pub lax-breaks-never-twice : NeverTwice lax → ⊥
lax-breaks-never-twice = twice lax two_one_two 2 (bytes, (bytes, (bytes, tt))) computed.lax-times

pub alone-breaks-never-twice : NeverTwice alone → ⊥
alone-breaks-never-twice = twice alone one_one 1 (bytes, (bytes, tt)) computed.alone-times

-- ---- held without being admitted

pub eager-breaks-held : HeldWasAdmitted eager → ⊥
eager-breaks-held p =
    let h = p one_away (goes 1) (bytes, (bytes, tt)) computed.eager-holds in
    let z : 1 ≤ times [] 1 [] = subst (λ (l : List Pair). 1 ≤ times [] 1 l) computed.eager-log h in
    omega (arith, z)

pub at-most-breaks-held : HeldWasAdmitted at_most → ⊥
at-most-breaks-held p = omega (arith, p two (goes 1) (bytes, (bytes, tt)) computed.at-most-holds, computed.at-most-times)

-- ---- not asked again

pub eager-breaks-sent-again : MayBeSentAgain eager → ⊥
unfolding numbered
eager-breaks-sent-again p =
    let l : highest [] (log_of eager one_away) < 1 = subst (λ (x : List Pair). highest [] x < 1) (sym computed.eager-log) (omega arith) in
    asks-not-held _ (goes 1) (told eager one_away (goes 1)) (p one_away (goes 1) (bytes, (bytes, tt)) refl l) computed.eager-holds

pub closed-breaks-sent-again : MayBeSentAgain closed → ⊥
unfolding numbered
closed-breaks-sent-again p =
    let e : refuse 21 ≡ Ok (Decided decision.Allowed) = (p [] (goes 1) (bytes, tt) refl (omega arith)).answer ∙ ap as_shot (computed.allows 1) in
    let z : ◌≡◌ {A = ℕ} 0 1 = cc in
    omega (arith, z)

-- ---- the table changed by a shot turned away

pub eager-breaks-the-table : LeavesTable eager → ⊥
eager-breaks-the-table p =
    let e = p empty_table (stays 1) (ap admits_shot computed.eager-declines) in
    omega (arith, ap (λ (w : List ℕ). known_of w) e, computed.eager-knows, empty-knows)

-- ---- one that turns every shot away keeps all the rest

empty-log : (events : List Event) → log_of closed events ≡ []
empty-log [] = refl
empty-log (shoots c ∷ events) = empty-log events
empty-log (calls o ∷ events) = empty-log events

pub closed-keeps-the-rest : KeepsTheRest closed
closed-keeps-the-rest = record {
  never-twice = λ events b key n. subst (λ (l : List Pair). times key n l ≤ 1) (sym (empty-log events)) (omega arith);
  held-was-admitted = λ events c b e. absurd (apart 21 e);
  leaves_table = λ w c e. refl;
}
