-- From what a limiter was told and the row that was handed over to the whole face; a room's words are those that fit.
-- Assumes nothing.
use Rattle.std.specs.Prelude.{◌≡◌, refl, Bool, true, false, cond, List, ℕ, Result}
use Rattle.std.proofs.Common.{sym, ap, ◌∙◌}
use Rattle.answers.specs.Rows.{done_row, shot_row, number_of}
use Rattle.room.specs.Room.{length_of, fits, if_fits, Lengths}
use Rattle.room.specs.Laws.{lengths-fit, fit-lengths}
use Rattle.judge.specs.Verdict.{Verdict, Told}
use Rattle.rows.specs.Plain.{Given}
use Rattle.provider.specs.Provider as Provider
use Rattle.gateway.specs.Gateway as Gateway
use Rattle.abi.specs.Faces.{Face, Faced, face, shown, shown_both, shown_gateway, room_words, make_number}
use Rattle.common.specs.declared.refusal.Refusal.{Refusal}
use Rattle.answers.specs.declared.ShotOutcome.{ShotOutcome}

-- a row that was handed over is the face's
pub given-faced : {W : Type 0} (f : Face W) (row : List ℕ) (n : ℕ) (a : List ℕ) (w : W) → row ≡ f.row → Given row n a → w ≡ f.words → Faced f n a w
given-faced f row n a w e g l = record { number = g.number ∙ ap number_of e; answer = g.answer ∙ e; left = l }

-- a limiter's answer
pub faced : {A : Type 0} (row_of : A → List ℕ) (v : Verdict A) (r : A) (row : List ℕ) (n : ℕ) (a w : List ℕ) → Told v r w → row ≡ row_of r → Given row n a →
    Faced (shown row_of v) n a w
faced row_of v r row n a w t e g = given-faced (shown row_of v) row n a w (e ∙ ap row_of t.answer) g t.words

-- words of two rooms, or of table and room
faced-two : {A : Type 0} (row_of : A → List ℕ) (answer r : A) (u v row : List ℕ) (n : ℕ) (a x y : List ℕ) → r ≡ answer → x ≡ u → y ≡ v → row ≡ row_of r →
    Given row n a → Faced {W = List ℕ × List ℕ} (face (row_of answer) (u, v)) n a (x, y)
faced-two row_of answer r u v row n a x y is first second e g = given-faced _ row n a _ (e ∙ ap row_of is) g
    (ap (λ z. (z, y)) first ∙ ap (λ z. (u, z)) second)

-- a making's number, of what it answers
pub made-number : (fit : Bool) → number_of (done_row (if_fits fit)) ≡ make_number fit
unfolding done_row
made-number true = refl
made-number false = refl

-- the provider's
pub faced-both : (v : Provider.Verdict) (r : Result (Unit {0}) Refusal) (row : List ℕ) (n : ℕ) (a x y : List ℕ) → Provider.Told v r x y → row ≡ done_row r → Given row n a →
    Faced (shown_both v) n a (x, y)
faced-both v r row n a x y t e g = faced-two done_row _ _ _ _ _ _ _ _ _ t.answer t.absolute t.suppressed e g

-- the gateway's
pub faced-gateway : (v : Gateway.Verdict) (r : Result ShotOutcome Refusal) (row : List ℕ) (n : ℕ) (a x y : List ℕ) → Gateway.Told v r x y → row ≡ shot_row r → Given row n a →
    Faced (shown_gateway v) n a (x, y)
faced-gateway v r row n a x y t e g = faced-two shot_row _ _ _ _ _ _ _ _ _ t.answer t.table t.room e g

-- ---- a room's words

pub words-some : (n r : ℕ) → Lengths n r (length_of n r) → length_of n r ≡ room_words n r
unfolding room_words
words-some n r o = sym (rw (lengths-fit n r (length_of n r) o))

pub words-none : (n r : ℕ) → (Lengths n r (length_of n r) → ⊥) → 0 ≡ room_words n r
unfolding room_words
words-none n r never = go (fits n r (length_of n r)) refl
  where
    go : (b : Bool) → fits n r (length_of n r) ≡ b → 0 ≡ cond b (length_of n r) 0
    go true e = absurd (never (fit-lengths n r (length_of n r) e))
    go false e = refl
