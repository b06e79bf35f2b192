-- A run of code is a season: shots that were made one after the other, each with an answer, a table and a room on exit that its contract allows on the table
-- it found, have answered what the season's shots answer. So what is promised of seasons is promised of programs; the log is made from what came back.
-- Assumes nothing.
use Rattle.std.specs.Prelude.{◌≡◌, refl, List, [], ◌∷◌, ℕ, ◌≤◌, Result, Ok}
use Rattle.std.proofs.Common.{sym, ap, ap₂, subst, ◌∙◌}
use Rattle.gateway.specs.Gateway.{admits_shot}
use Rattle.season.specs.Log.{Pair, times}
use Rattle.season.specs.Season.{AllBytes, told, noted, by_log, Judged}
use Rattle.season.specs.Own.{own}
use Rattle.season.proofs.Own.{own-by-log, season}
use Rattle.season.specs.Runs.{Made, events_of, logged_of, Ran, IsSeason}
use Rattle.common.specs.declared.refusal.Refusal.{Refusal}
use Rattle.answers.specs.declared.ShotOutcome.{ShotOutcome}
use Rattle.answers.specs.declared.ShotOutcome.TheVariants.{Held}

-- the answer that came back is the season's
answer-is : (m : Made) (ms : List Made) → Ran (m ∷ ms) → IsSeason ms → m.answer ≡ (told own (events_of ms) m.shot).answer
answer-is m ms r h = r.0.answer ∙ ap (λ (w : List ℕ). (own.shot w m.shot).answer) h.table_is

pub run-season : (made : List Made) → Ran made → IsSeason made
run-season [] r = record { table_is = refl; log_is = refl }
run-season (m ∷ ms) r =
    let h = run-season ms r.1 in
    record {
      table_is = r.0.table ∙ ap (λ (w : List ℕ). (own.shot w m.shot).table) h.table_is;
      log_is = ap₂ (λ (a : Result ShotOutcome Refusal) (log : List Pair). noted (admits_shot a) m.shot log) (answer-is m ms r h) h.log_is;
    }

-- ---- so of what came back, with the log of what came back

module _ (m : Made) (ms : List Made) (b : AllBytes (events_of (m ∷ ms))) (r : Ran (m ∷ ms)) where
  -- answer and room are by the log
  pub run-by-log : Judged (by_log (logged_of ms) m.shot) (record { answer = m.answer; table = m.table; room = m.room })
  run-by-log =
      let h = run-season ms r.1 in
      let j = own-by-log (events_of ms) m.shot b in
      record {
        answer = answer-is m ms r h ∙ j.answer ∙ ap (λ (log : List Pair). (by_log log m.shot).0) (sym h.log_is);
        room = r.0.room ∙ ap (λ (w : List ℕ). (own.shot w m.shot).room) h.table_is ∙ j.room ∙
            ap (λ (log : List Pair). (by_log log m.shot).1) (sym h.log_is);
      }

  -- "a shot that is `held` was admitted before"
  pub run-held : m.answer ≡ Ok Held → 1 ≤ times m.shot.controller m.shot.number (logged_of ms)
  run-held e =
      let h = run-season ms r.1 in
      subst (λ (log : List Pair). 1 ≤ times m.shot.controller m.shot.number log) (sym h.log_is)
      (season.held-was-admitted (events_of ms) m.shot b (sym (answer-is m ms r h) ∙ e))

-- "no pair of controller and number is admitted twice"
pub run-never-twice : (made : List Made) → AllBytes (events_of made) → Ran made → (key : List ℕ) (n : ℕ) → times key n (logged_of made) ≤ 1
run-never-twice made b r key n =
    subst (λ (log : List Pair). times key n log ≤ 1) (sym (run-season made r).log_is) (season.never-twice (events_of made) b key n)
