-- What wrong limiters break, of either kind: the table of refusals (demand 1), and the rules (demand 2), whose answers and state are told apart. A limiter
-- is here any function with the inputs and results of an increment (`Inc`). Each theorem says what one of a wrong kind cannot keep, by a case that the
-- definitions decide (`Boundary.antt` of the promises). The limiters' own increments keep all of it.
-- Assumes nothing.
use Rattle.std.proofs.Math.Path.{◌≡◌}
use Rattle.std.specs.Prelude.{List, [], ◌≢◌, ℕ, get_or}
use Rattle.answers.specs.Rows.{decision_row}
use Rattle.common.specs.Ranges.{one}
use Rattle.answers.specs.declared.RateLimitDecision.{RateLimitDecision}
use Rattle.settings.specs.declared.Settings.{Settings}
use Rattle.common.specs.declared.units.RateLimit.{RateLimit}
use Rattle.parties.specs.Parties.{Sent}
use Rattle.rules.specs.declared.RoomKind.{RoomKind}
use Rattle.judge.specs.Verdict.{verdict}
use Rattle.finding.specs.Finding.{buckets_of}
use Rattle.steps.specs.Order.{TurnedBy}
use Rattle.promises.specs.Rules.{Inc, inc_of, inc_table, IncRule, IncByRules}
use Rattle.promises.specs.Cases.{per_second, key, settings_for, inc_at, in_slot}

-- ---- what limiters are to keep

-- demand 1
abbrev pub ByTable : RoomKind → Inc → Type 0
ByTable kind f =
    (s : Settings) (w : List ℕ) (t : ℕ) (k : Sent) (rate : RateLimit) (count draw : ℕ) →
    TurnedBy (inc_table kind s w t k rate count draw) (decision_row (f s w t k rate count draw).answer) w (f s w t k rate count draw).words

-- demand 2 is `IncByRules`; its halves are said of f's answers with the rules' words, and of the rules' answers with f's words
abbrev pub mixed : Inc → Inc → Inc
mixed f g s w t k rate count draw = verdict (f s w t k rate count draw).answer (g s w t k rate count draw).words

abbrev pub ByAnswers : RoomKind → Inc → Type 0
ByAnswers kind f = IncByRules kind (mixed f (inc_of kind))

abbrev pub ByState : RoomKind → Inc → Type 0
ByState kind f = IncByRules kind (mixed (inc_of kind) f)

-- ---- what every answer is like

abbrev pub Always : (RateLimitDecision → Type 0) → Inc → Type 0
Always P f = (s : Settings) (w : List ℕ) (t : ℕ) (k : Sent) (rate : RateLimit) (count draw : ℕ) → P (f s w t k rate count draw).answer

-- a decision's case and its wait, by its row of document 01's numbers
abbrev pub case_of : RateLimitDecision → ℕ
case_of d = get_or (decision_row d) 1 0

abbrev pub wait_of : RateLimitDecision → ℕ
wait_of d = get_or (decision_row d) 3 0

-- ---- the rules' answers with a wrong state

abbrev pub SameAnswers : RoomKind → Inc → Type 0
SameAnswers kind f =
    (s : Settings) (w : List ℕ) (t : ℕ) (k : Sent) (rate : RateLimit) (count draw : ℕ) →
    (f s w t k rate count draw).answer ≡ (inc_of kind s w t k rate count draw).answer

-- if the words v, and the words u, are by the rules with the rules' answer, they have the same buckets in the slot
abbrev pub Both : RoomKind → List ℕ → ℕ → List ℕ → List ℕ → Type 0
Both kind w count v u =
    let s = settings_for kind in
    let d = (inc_at kind w 0 count).answer in
    IncRule kind s w 0 key (per_second one) count 0 (verdict d v) → IncRule kind s w 0 key (per_second one) count 0 (verdict d u) → in_slot v ≡ in_slot u

-- changes nothing
abbrev pub Idles : Inc → Type 0
Idles f = (s : Settings) (w : List ℕ) (t : ℕ) (k : Sent) (rate : RateLimit) (count draw : ℕ) → (f s w t k rate count draw).words ≡ w

-- counts the first increment only: words change while the key has no bucket
pub record Once (kind : RoomKind) (f : Inc) : Type 0 where
  pub begins : (s : Settings) (w : List ℕ) (t : ℕ) (k : Sent) (rate : RateLimit) (count draw : ℕ) → buckets_of w k ≡ [] →
      (f s w t k rate count draw).words ≡ (inc_of kind s w t k rate count draw).words
  pub ends : (s : Settings) (w : List ℕ) (t : ℕ) (k : Sent) (rate : RateLimit) (count draw : ℕ) → buckets_of w k ≢ [] → (f s w t k rate count draw).words ≡ w
