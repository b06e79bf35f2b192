-- A run of code is a history: calls that were made one after the other, each with the answer and the words on exit that its contract allows on the words
-- it found, have answered what the history's calls answer, and have left its words.
-- Assumes nothing.
use Rattle.std.specs.Prelude.{◌≡◌, List, [], ◌∷◌, ℕ, Result}
use Rattle.settings.specs.declared.Settings.{Settings}
use Rattle.rules.specs.declared.RoomKind.{RoomKind}
use Rattle.rules.specs.declared.RoomKind.TheVariants.{Absolute, Suppressed}
use Rattle.parties.specs.declared.Caller.{Caller}
use Rattle.judge.specs.Verdict.{Told}
use Rattle.steps.specs.Ops.{Op, cleanup_both, Answer, row_of, verdict_of, Call, words, rows}
use Rattle.common.specs.declared.refusal.Refusal.{Refusal}

-- a call that was made: when, which, and what came back
pub record Made (kind : RoomKind) : Type 0 where
  pub reading : ℕ
  pub op : Op kind
  pub answer : Answer op
  pub exit : List ℕ

-- newest first
abbrev pub calls_of : {kind : RoomKind} → List (Made kind) → List (Call kind)
calls_of [] = []
calls_of (m ∷ ms) = record { reading = m.reading; op = m.op } ∷ calls_of ms

abbrev pub rows_of : {kind : RoomKind} → List (Made kind) → List (List ℕ)
rows_of [] = []
rows_of (m ∷ ms) = row_of m.op m.answer ∷ rows_of ms

-- the words that the calls have left, from the words w: those on the last exit
abbrev pub left : {kind : RoomKind} → List ℕ → List (Made kind) → List ℕ
left w [] = w
left w (m ∷ ms) = m.exit

-- each met its contract on the words that the one before it left
abbrev pub Ran : (kind : RoomKind) → Settings → List ℕ → List (Made kind) → Type 0
Ran kind s w [] = Unit {0}
Ran kind s w (m ∷ ms) = Told (verdict_of kind s (left w ms) m.reading m.op) m.answer m.exit × Ran kind s w ms

-- ---- the law

pub record IsHistory (kind : RoomKind) (s : Settings) (w : List ℕ) (made : List (Made kind)) : Type 0 where
  pub words_are : left w made ≡ words kind s w (calls_of made)
  pub rows_are : rows_of made ≡ rows kind s w (calls_of made)

-- ---- the provider's cleanup has a contract of both rooms: it meets each room's

pub record BothTold (s : Settings) (a b : List ℕ) (t : ℕ) (c d : Caller) (stale : ℕ) (r : Result (Unit {0}) Refusal) (x y : List ℕ) : Type 0 where
  pub absolute : Told (verdict_of Absolute s a t (cleanup_both c b d stale)) r x
  pub suppressed : Told (verdict_of Suppressed s b t (cleanup_both d a c stale)) r y
