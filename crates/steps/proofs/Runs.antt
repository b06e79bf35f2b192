-- A run of code is a history: calls that were made one after the other, each with the answer and the words on exit that its contract allows on the words
-- it found, have answered what the history's calls answer, and have left its words.
-- Assumes nothing.
use Rattle.std.specs.Prelude.{refl, List, [], ◌∷◌, ℕ, Result}
use Rattle.std.proofs.Common.{ap, ap₂, ◌∙◌}
use Rattle.settings.specs.declared.Settings.{Settings}
use Rattle.rules.specs.declared.RoomKind.{RoomKind}
use Rattle.parties.specs.declared.Caller.{Caller}
use Rattle.provider.specs.Provider as Provider
use Rattle.steps.specs.Ops.{row_of, after, answer_row}
use Rattle.steps.specs.Runs.{Made, Ran, IsHistory, BothTold}
use Rattle.common.specs.declared.refusal.Refusal.{Refusal}

-- ---- the law

pub run-history : (kind : RoomKind) (s : Settings) (w : List ℕ) (made : List (Made kind)) → Ran kind s w made → IsHistory kind s w made
run-history kind s w [] r = record { words_are = refl; rows_are = refl }
run-history kind s w (m ∷ ms) r =
    let h = run-history kind s w ms r.1 in
    record {
      words_are = r.0.words ∙ ap (λ (v : List ℕ). after kind s v m.reading m.op) h.words_are;
      rows_are =
          ap₂ (λ (x : List ℕ) (xs : List (List ℕ)). x ∷ xs)
          (ap (row_of m.op) r.0.answer ∙ ap (λ (v : List ℕ). answer_row kind s v m.reading m.op) h.words_are) h.rows_are;
    }

-- ---- the provider's cleanup has a contract of both rooms: it meets each room's

pub both_told : (s : Settings) (a b : List ℕ) (t : ℕ) (c d : Caller) (stale : ℕ) (r : Result (Unit {0}) Refusal) (x y : List ℕ) →
    Provider.Told (Provider.cleanup s a b t c d stale) r x y → BothTold s a b t c d stale r x y
both_told s a b t c d stale r x y o = record {
  absolute = record { answer = o.answer; words = o.absolute };
  suppressed = record { answer = o.answer; words = o.suppressed };
}
