-- A gateway whose answers are by the log keeps the season's promises: whatever gateway it is.
-- Assumes nothing.
use Rattle.std.specs.Prelude.{◌≡◌, refl, Bool, true, false, not, List, [], ◌∷◌, ℕ, ◌≤◌, ◌<◌, ltb, eqb, Result, Ok}
use Rattle.std.proofs.Common.{sym, ap, ◌∙◌, arith, ltb-true, ltb-false, le-ltb, eqb-true, ne_eqb, leb-true}
use Rattle.std.proofs.lemmas.Bool.{false≢true, eqb-false, not-true, not-false}
use Rattle.base.specs.Decides.{and-true}
use Rattle.answers.specs.declared.RateLimitDecision.{RateLimitDecision}
use Rattle.answers.specs.declared.RateLimitDecision.TheVariants as decision
use Rattle.table.specs.Table.{most_controllers, numbered}
use Rattle.gateway.specs.Gateway.{Verdict, as_shot, admits_shot}
use Rattle.season.specs.Log.{Pair, times, highest}
use Rattle.season.proofs.Log.{highest-times, once_more}
use Rattle.season.specs.Season.{Shot, Event, shoots, calls, AllBytes, Gateway, told, pair_of, noted, log_of, limiter, full}
use Rattle.season.specs.Season.{NeverTwice, Asks, StillAhead, LeavesTable, Season, judged_by, by_log, Judged, ByLog}
use Rattle.season.specs.Judging.{Judging, unnumbered, below, away, same, asked, Through}
use Rattle.common.specs.Refusals.{refuse}
use Rattle.common.specs.declared.refusal.Refusal.{Refusal}
use Rattle.answers.specs.declared.ShotOutcome.{ShotOutcome}
use Rattle.answers.specs.declared.ShotOutcome.TheVariants.{Held}

-- two answers that are not one
pub apart : (n : ℕ) → refuse n ≡ Ok Held → ⊥
apart n e = let z : ◌≡◌ {A = ℕ} 0 1 = cc in omega arith

pub not-held : (d : RateLimitDecision) → as_shot d ≡ Ok Held → ⊥
not-held decision.Allowed e = let z : ◌≡◌ {A = ℕ} 0 1 = cc in omega arith
not-held (decision.Rejected window wait rest) e = let z : ◌≡◌ {A = ℕ} 0 1 = cc in omega arith
not-held (decision.Suppressed f is) e = let z : ◌≡◌ {A = ℕ} 0 1 = cc in omega arith
not-held (decision.Refused n) e = apart n e

pub number-low : (n : ℕ) → numbered n ≡ true → 1 ≤ n
unfolding numbered
number-low n e = leb-true 1 n (and-true _ _ e).0

module _ (log : List Pair) (c : Shot) where
  abbrev last : ℕ
  last = highest c.controller log

  pub judging : Judging log c (by_log log c)
  judging = go (not (numbered c.number)) (ltb c.number last) (full most_controllers log c) (eqb c.number last) refl refl refl refl
    where
      go : (a b f d : Bool) → not (numbered c.number) ≡ a → ltb c.number last ≡ b → full most_controllers log c ≡ f → eqb c.number last ≡ d →
          Judging log c (judged_by a b f d c)
      go true b f d p q r s = unnumbered (not-true _ p)
      go false true f d p q r s = below (not-false _ p) (ltb-true _ _ q)
      go false false true d p q r s = away (not-false _ p) (ltb-false _ _ q) r
      go false false false true p q r s = same (not-false _ p) (eqb-true _ _ s) r
      go false false false false p q r s = asked (not-false _ p) (omega (arith, ltb-false c.number last q, eqb-false c.number last s)) r

  pub admitted-through : (j : Result ShotOutcome Refusal × List ℕ) → Judging log c j → admits_shot j.0 ≡ true → Through log c
  admitted-through j (unnumbered p) e = absurd (false≢true e)
  admitted-through j (below p q) e = absurd (false≢true e)
  admitted-through j (away p q r) e = absurd (false≢true e)
  admitted-through j (same p q r) e = absurd (false≢true e)
  admitted-through j (asked p q r) e = record { number = p; ahead = q; free = r; admits = e }

  -- what is held is the highest of its controller's
  pub held-highest : (j : Result ShotOutcome Refusal × List ℕ) → Judging log c j → j.0 ≡ Ok Held → (c.number ≡ last) × (1 ≤ c.number)
  held-highest j (unnumbered p) e = absurd (apart 19 e)
  held-highest j (below p q) e = absurd (apart 20 e)
  held-highest j (away p q r) e = absurd (apart 21 e)
  held-highest j (same p q r) e = (q, number-low c.number p)
  held-highest j (asked p q r) e = absurd (not-held (limiter c).answer e)

  pub ahead-asked : (v : Verdict) → numbered c.number ≡ true → StillAhead log c → Judged (by_log log c) v → Asks (full most_controllers log c) c v
  ahead-asked v e h =
      rw (e, le-ltb c.number last (omega arith), ne_eqb c.number last (omega arith)) (go (full most_controllers log c))
    where
      go : (f : Bool) → Judged (judged_by false false f false c) v → Asks f c v
      go true j = record { answer = j.answer; room = j.room }
      go false j = record { answer = j.answer; room = j.room }

module _ (g : Gateway) (by : ByLog g) where
  pub by-ahead : (events : List Event) (c : Shot) → AllBytes (shoots c ∷ events) → admits_shot (told g events c).answer ≡ true →
      highest c.controller (log_of g events) < c.number
  by-ahead events c b e =
      (admitted-through (log_of g events) c _ (judging (log_of g events) c) (ap admits_shot (sym (by events c b).answer) ∙ e)).ahead

  by-never-twice : NeverTwice g
  by-never-twice [] b key n = omega arith
  by-never-twice (calls o ∷ events) b key n = by-never-twice events b key n
  by-never-twice (shoots c ∷ events) b key n =
      go (admits_shot (told g events c).answer) (by-ahead events c b) (by-never-twice events b.1)
    where
      go : (is : Bool) → (is ≡ true → highest c.controller (log_of g events) < c.number) → ((k : List ℕ) (m : ℕ) → times k m (log_of g events) ≤ 1) →
          times key n (noted is c (log_of g events)) ≤ 1
      go true f once = once_more (pair_of c) (log_of g events) (f refl) key n (once key n)
      go false f once = once key n

  pub by-log-season : LeavesTable g → Season g
  by-log-season l = record {
    never-twice = by-never-twice;
    held-was-admitted = λ events c b e.
        let h = held-highest (log_of g events) c _ (judging (log_of g events) c) (sym (by events c b).answer ∙ e) in
        highest-times c.controller c.number (log_of g events) h.0 h.1;
    may-be-sent-again = λ events c b e h. ahead-asked (log_of g events) c (told g events c) e h (by events c b);
    leaves_table = l;
  }
