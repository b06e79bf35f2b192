-- What a call is to answer and to leave, for every input: the first refusal of its list whose condition holds, with every word as it came in; or else its
-- answer and its words.
-- Assumes nothing.
use Rattle.std.specs.Prelude.{◌≡◌, Bool, List, ℕ, eqb}
use Rattle.std.proofs.Math.Bool.{cond}
use Rattle.parties.specs.Parties.{Sent}
use Rattle.common.specs.Refusals.{first}
use Rattle.settings.specs.declared.Settings.{Settings}
use Rattle.rules.specs.declared.RoomKind.{RoomKind}
use Rattle.judge.specs.Judge.{refusals}

pub record Verdict (A : Type 0) : Type 0 where
  pub answer : A
  pub words : List ℕ

abbrev pub verdict : {A : Type 0} → A → List ℕ → Verdict A
verdict a w = record { answer = a; words = w }

-- refused with n, unless n is 0: `turned` makes the answer of a refusal
unfoldable pub unless_refused : {A : Type 0} → (ℕ → A) → ℕ → List ℕ → Verdict A → Verdict A
unless_refused turned n w v = record { answer = cond (eqb n 0) v.answer (turned n); words = cond (eqb n 0) v.words w }

-- the answer and the words after are the verdict's
pub record Told {A : Type 0} (v : Verdict A) (r : A) (exit : List ℕ) : Type 0 where
  pub answer : r ≡ v.answer
  pub words : exit ≡ v.words

-- a call with a key: refusals 1 to 7, 15 and 16, then its own, then what it does
abbrev pub call : {A : Type 0} → (ℕ → A) → RoomKind → Settings → List ℕ → ℕ → Sent → List (ℕ × Bool) → Verdict A → Verdict A
call turned kind s w t key own v = unless_refused turned (first (refusals kind s w t key own)) w v

-- ---- a call told in other words: what is refused early is the same whatever the call is to do

-- of a call that passes those: the same refusals of its own, the same answer, the same words
pub record Alike {A : Type 0} (own own' : List (ℕ × Bool)) (v v' : Verdict A) : Type 0 where
  pub owns : own ≡ own'
  pub answers : v.answer ≡ v'.answer
  pub wordings : v.words ≡ v'.words
