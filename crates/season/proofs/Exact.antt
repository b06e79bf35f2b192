-- Each answer exactly: where the log says so, and nowhere else. So none of the promises can be said of more shots.
-- Assumes nothing.
use Rattle.std.specs.Prelude.{◌≡◌, Bool, true, false, cond, not, List, [], ◌∷◌, ◌≢◌, ℕ, ◌<◌, get_or, Result, Ok, Err}
use Rattle.std.proofs.Math.Path.{refl}
use Rattle.std.proofs.Common.{sym, ap, subst, ◌∙◌, arith}
use Rattle.std.proofs.lemmas.Bool.{false≢true, not-true}
use Rattle.base.specs.Decides.{and-true}
use Rattle.settings.specs.Settings.{faults}
use Rattle.answers.specs.Rows.{decision_row}
use Rattle.answers.specs.declared.RateLimitDecision.{RateLimitDecision}
use Rattle.answers.specs.declared.RateLimitDecision.TheVariants as decision
use Rattle.rules.specs.declared.RoomKind.TheVariants.{Suppressed}
use Rattle.parties.specs.Parties.{turns}
use Rattle.judge.specs.Judge.{misfits}
use Rattle.table.specs.Table.{most_controllers, numbered}
use Rattle.gateway.specs.Gateway.{Verdict, as_shot, admits_shot}
use Rattle.steps.specs.Order.{met}
use Rattle.steps.specs.Ops.{draws}
use Rattle.steps.specs.Table.{suppressed_inc}
use Rattle.steps.proofs.Table.{unmet}
use Rattle.season.specs.Log.{Pair, is_of, highest, newest, named}
use Rattle.season.proofs.Log.{unnamed-highest, highest-more}
use Rattle.season.specs.Season.{Shot, Event, shoots, calls, AllBytes, Gateway, told, pair_of, noted, log_of}
use Rattle.season.specs.Season.{key_in, limiter, full, Asks, ByLog}
use Rattle.season.specs.Judging.{Judging, unnumbered, below, away, same, asked}
use Rattle.season.proofs.Judging.{judging, by-ahead, apart, not-held, number-low}
use Rattle.season.specs.Own.{own}
use Rattle.season.proofs.Own.{own-by-log}
use Rattle.season.specs.Exact.{Exactly}
use Rattle.common.specs.Refusals.{refuse}
use Rattle.common.specs.declared.refusal.Refusal.{Refusal}
use Rattle.answers.specs.declared.ShotOutcome.{ShotOutcome}
use Rattle.answers.specs.declared.ShotOutcome.TheVariants.{Held}

-- ---- the limiter gives none of the gateway's numbers

table_of : Shot → List (ℕ × Bool)
table_of c = suppressed_inc c.settings c.room c.reading (key_in c) c.rate 1 c.draw

-- the number that a shot is refused with
abbrev told_number : Result ShotOutcome Refusal → ℕ
told_number (Ok x) = 0
told_number (Err r) = r.0

refused_as : (d : RateLimitDecision) (n : ℕ) → as_shot d ≡ refuse n → get_or (decision_row d) 0 0 ≡ n
unfolding decision_row
refused_as decision.Allowed n e = cc
refused_as (decision.Rejected window wait rest) n e = cc
refused_as (decision.Suppressed f is) n e = cc
refused_as (decision.Refused m) n e = ap told_number e

limiter-not : (c : Shot) (n : ℕ) → n ≢ 0 → met (table_of c) n ≡ false → as_shot (limiter c).answer ≢ refuse n
unfolding table_of
limiter-not c n z m e =
    unmet Suppressed c.settings c.room c.reading (draws (key_in c) c.rate 1 c.draw) n z m (refused_as (limiter c).answer n e)

module _ (c : Shot) where
  limiter-not-19 : as_shot (limiter c).answer ≢ refuse 19
  unfolding table_of met faults misfits turns
  limiter-not-19 = limiter-not c 19 (omega arith) refl

  limiter-not-20 : as_shot (limiter c).answer ≢ refuse 20
  unfolding table_of met faults misfits turns
  limiter-not-20 = limiter-not c 20 (omega arith) refl

  limiter-not-21 : as_shot (limiter c).answer ≢ refuse 21
  unfolding table_of met faults misfits turns
  limiter-not-21 = limiter-not c 21 (omega arith) refl

differ : (m n : ℕ) → m ≢ n → ◌≢◌ {A = Result ShotOutcome Refusal} (refuse m) (refuse n)
differ m n d e = d (ap told_number e)

-- ---- a shot that may be sent again is "never `held` and never 20"

pub asks-not-held : (z : Bool) (c : Shot) (v : Verdict) → Asks z c v → v.answer ≢ Ok Held
asks-not-held true c v a e = apart 21 (sym a.answer ∙ e)
asks-not-held false c v a e = not-held (limiter c).answer (sym a.answer ∙ e)

pub asks-not-20 : (z : Bool) (c : Shot) (v : Verdict) → Asks z c v → v.answer ≢ refuse 20
asks-not-20 true c v a e = differ 21 20 (omega arith) (sym a.answer ∙ e)
asks-not-20 false c v a e = limiter-not-20 c (sym a.answer ∙ e)

-- ---- the answers

not-both : (b : Bool) → b ≡ true → b ≡ false → ⊥
not-both b p q = false≢true (sym q ∙ p)

module _ (log : List Pair) (c : Shot) (last : newest c.controller log ≡ highest c.controller log) where
  -- a controller that finds the table full has no number
  none : full most_controllers log c ≡ true → highest c.controller log ≡ 0
  none f = unnamed-highest c.controller log (not-true _ (and-true (not (named c.controller log)) _ f).0)

  to-19 : (j : Result ShotOutcome Refusal × List ℕ) → Judging log c j → j.0 ≡ refuse 19 → numbered c.number ≡ false
  to-19 j (unnumbered p) e = p
  to-19 j (below p q) e = absurd (differ 20 19 (omega arith) e)
  to-19 j (away p q r) e = absurd (differ 21 19 (omega arith) e)
  to-19 j (same p q r) e = absurd (apart 19 (sym e))
  to-19 j (asked p q r) e = absurd (limiter-not-19 c e)

  from-19 : (j : Result ShotOutcome Refusal × List ℕ) → Judging log c j → numbered c.number ≡ false → j.0 ≡ refuse 19
  from-19 j (unnumbered p) e = refl
  from-19 j (below p q) e = absurd (not-both _ p e)
  from-19 j (away p q r) e = absurd (not-both _ p e)
  from-19 j (same p q r) e = absurd (not-both _ p e)
  from-19 j (asked p q r) e = absurd (not-both _ p e)

  to-20 : (j : Result ShotOutcome Refusal × List ℕ) → Judging log c j → j.0 ≡ refuse 20 → (numbered c.number ≡ true) × (c.number < newest c.controller log)
  to-20 j (unnumbered p) e = absurd (differ 19 20 (omega arith) e)
  to-20 j (below p q) e = (p, omega arith)
  to-20 j (away p q r) e = absurd (differ 21 20 (omega arith) e)
  to-20 j (same p q r) e = absurd (apart 20 (sym e))
  to-20 j (asked p q r) e = absurd (limiter-not-20 c e)

  from-20 : (j : Result ShotOutcome Refusal × List ℕ) → Judging log c j → (numbered c.number ≡ true) × (c.number < newest c.controller log) → j.0 ≡ refuse 20
  from-20 j (unnumbered p) e = absurd (not-both _ e.0 p)
  from-20 j (below p q) e = refl
  from-20 j (away p q r) e = absurd (omega (arith, e.1))
  from-20 j (same p q r) e = absurd (omega (arith, e.1))
  from-20 j (asked p q r) e = absurd (omega (arith, e.1))

  to-21 : (j : Result ShotOutcome Refusal × List ℕ) → Judging log c j → j.0 ≡ refuse 21 → (numbered c.number ≡ true) × (full most_controllers log c ≡ true)
  to-21 j (unnumbered p) e = absurd (differ 19 21 (omega arith) e)
  to-21 j (below p q) e = absurd (differ 20 21 (omega arith) e)
  to-21 j (away p q r) e = (p, r)
  to-21 j (same p q r) e = absurd (apart 21 (sym e))
  to-21 j (asked p q r) e = absurd (limiter-not-21 c e)

  from-21 : (j : Result ShotOutcome Refusal × List ℕ) → Judging log c j → (numbered c.number ≡ true) × (full most_controllers log c ≡ true) → j.0 ≡ refuse 21
  from-21 j (unnumbered p) e = absurd (not-both _ e.0 p)
  from-21 j (below p q) e = absurd (omega (arith, none e.1))
  from-21 j (away p q r) e = refl
  from-21 j (same p q r) e = absurd (not-both _ e.1 r)
  from-21 j (asked p q r) e = absurd (not-both _ e.1 r)

  to_held : (j : Result ShotOutcome Refusal × List ℕ) → Judging log c j → j.0 ≡ Ok Held → (numbered c.number ≡ true) × (c.number ≡ newest c.controller log)
  to_held j (unnumbered p) e = absurd (apart 19 e)
  to_held j (below p q) e = absurd (apart 20 e)
  to_held j (away p q r) e = absurd (apart 21 e)
  to_held j (same p q r) e = (p, q ∙ sym last)
  to_held j (asked p q r) e = absurd (not-held (limiter c).answer e)

  from-held : (j : Result ShotOutcome Refusal × List ℕ) → Judging log c j → (numbered c.number ≡ true) × (c.number ≡ newest c.controller log) → j.0 ≡ Ok Held
  from-held j (unnumbered p) e = absurd (not-both _ e.0 p)
  from-held j (below p q) e = absurd (omega (arith, e.1))
  from-held j (away p q r) e = absurd (omega (arith, e.1, none r, number-low c.number p))
  from-held j (same p q r) e = refl
  from-held j (asked p q r) e = absurd (omega (arith, e.1))

  exactly : (j : Result ShotOutcome Refusal × List ℕ) → Judging log c j → Exactly log c j.0
  exactly j y = record {
    nineteen = (to-19 j y, from-19 j y);
    twenty = (to-20 j y, from-20 j y);
    twenty-one = (to-21 j y, from-21 j y);
    held = (to_held j y, from-held j y);
  }

module _ (g : Gateway) (by : ByLog g) where
  -- a controller's numbers rise: its newest is its highest
  pub newest-highest : (events : List Event) → AllBytes events → (key : List ℕ) → newest key (log_of g events) ≡ highest key (log_of g events)
  newest-highest [] b key = refl
  newest-highest (calls o ∷ events) b key = newest-highest events b key
  newest-highest (shoots c ∷ events) b key =
      go (admits_shot (told g events c).answer) (by-ahead g by events c b) (newest-highest events b.1 key)
    where
      go : (is : Bool) → (is ≡ true → highest c.controller (log_of g events) < c.number) → newest key (log_of g events) ≡ highest key (log_of g events) →
          newest key (noted is c (log_of g events)) ≡ highest key (noted is c (log_of g events))
      go true f e = ap (cond (is_of key (pair_of c)) c.number) e ∙ sym (highest-more (pair_of c) (log_of g events) (f refl) key)
      go false f e = e

  pub by-log-exactly : (events : List Event) (c : Shot) → AllBytes (shoots c ∷ events) → Exactly (log_of g events) c (told g events c).answer
  by-log-exactly events c b =
      subst (Exactly (log_of g events) c) (sym (by events c b).answer)
      (exactly (log_of g events) c (newest-highest events b.1 c.controller) _ (judging (log_of g events) c))

-- of the gateway itself
pub own-exactly : (events : List Event) (c : Shot) → AllBytes (shoots c ∷ events) → Exactly (log_of own events) c (told own events c).answer
own-exactly = by-log-exactly own own-by-log
