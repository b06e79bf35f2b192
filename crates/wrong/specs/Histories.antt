-- What wrong limiters break of demand 3: the ceiling and the floor, of increments of one key at H = 20, S = 10, counted from the answers given.
-- Assumes nothing.
use Rattle.std.proofs.Math.Path.{◌≡◌}
use Rattle.std.specs.Prelude.{ℕ, ◌+◌, ◌≤◌}
use mathlib.Core.List.{List, [], ◌∷◌}
use Rattle.answers.specs.Rows.{decision_row, number_of}
use Rattle.common.specs.Ranges.{one}
use Rattle.settings.specs.Clock.{window_ticks}
use Rattle.answers.specs.declared.RateLimitDecision.{RateLimitDecision}
use Rattle.answers.specs.declared.RateLimitDecision.TheVariants.{Allowed}
use Rattle.rules.specs.declared.RoomKind.TheVariants.{Suppressed}
use Rattle.judge.specs.Verdict.{Verdict}
use Rattle.admissions.specs.Log.{Entry, noted, in_span, aged}
use Rattle.steps.specs.Ops.{Call, draws}
use Rattle.demand3.specs.History.{admits_count}
use Rattle.demand3.specs.Demand3.{less_bucket}
use Rattle.promises.specs.Rules.{Inc}
use Rattle.promises.specs.Cases.{hard_by, per_second, key, room}

-- ---- histories of any limiter

-- increments of one key at H = 20, S = 10, newest first, on a room that was empty: the words after them, and the log of what was admitted, by the answers
-- given
pub record Shot : Type 0 where
  pub reading : ℕ
  pub count : ℕ
  pub draw : ℕ

abbrev pub shot_by : Inc → List ℕ → Shot → Verdict RateLimitDecision
shot_by f w c = f (hard_by 2) w c.reading key (per_second one) c.count c.draw

abbrev pub words_by : Inc → List Shot → List ℕ
words_by f [] = room
words_by f (c ∷ cs) = (shot_by f (words_by f cs) c).words

abbrev pub log_by : Inc → List Shot → List Entry
log_by f [] = []
log_by f (c ∷ cs) = noted (admits_count (shot_by f (words_by f cs) c).answer) c.reading c.count (log_by f cs)

-- H and S
abbrev pub hard : ℕ
hard = 20

abbrev pub soft : ℕ
soft = 10

-- demand 3's ceiling of them: in any span of window less bucket at most H is admitted
abbrev pub Ceiling : Inc → Type 0
Ceiling f = (shots : List Shot) (from : ℕ) → in_span from (from + less_bucket (hard_by 2)) (log_by f shots) ≤ hard

-- and its floor: one that is not refused and that with all admitted at ages up to one window comes to at most S is Allowed
abbrev pub Floor : Inc → Type 0
Floor f =
    (shots : List Shot) (c : Shot) → number_of (decision_row (shot_by f (words_by f shots) c).answer) ≡ 0 →
    c.count + aged (window_ticks (hard_by 2)) c.reading (log_by f shots) ≤ soft → (shot_by f (words_by f shots) c).answer ≡ Allowed

-- ---- the limiter itself keeps both

-- as a history of demand 3
abbrev pub calls : List Shot → List (Call Suppressed)
calls [] = []
calls (c ∷ cs) = record { reading = c.reading; op = draws key (per_second one) c.count c.draw } ∷ calls cs

-- ---- shots at reading 0 lie in the span from 0 on

abbrev pub at0 : ℕ → Shot
at0 n = record { reading = 0; count = n; draw = 0 }

abbrev pub spent : Inc → List Shot → ℕ
spent f shots = in_span 0 (0 + less_bucket (hard_by 2)) (log_by f shots)
