-- What the code that reads a key's totals knows at each return, joined to the definition.
-- Assumes nothing.
use Rattle.std.specs.Prelude.{◌≡◌, ℕ, ◌+◌, ◌<◌, ◌≤◌, true, false, List, drop, slice_index}
use Rattle.std.proofs.Common.{sym, ap, ◌∙◌, arith, get_or-take, get_or-drop}
use borrow.Author.Tests.{lt-ltb, le-ltb}
use Rattle.layout.specs.Layout.{first_mark, size_of}
use Rattle.room.specs.Room.{Room, sized, slots_of, ring_of, use_of, find, start_of, body_of, body_from}
use Rattle.keys.specs.Keys.{key_of}
use Rattle.room.specs.Laws.{room-sized}
use Rattle.opened.specs.Sound.{has_series}
use Rattle.printing.specs.declared.AnswerLine.{AnswerLine}
use Rattle.told.specs.declared.Stored.{Stored}
use Rattle.told.specs.Told.{no_stored}
use Rattle.desk_lines.specs.Lines.{stored_of}

-- ---- what is stored

stored-path : {m m' n n' : ℕ} → m ≡ m' → n ≡ n' → ◌≡◌ {A = Stored} (record { total = m; declined = n }) (record { total = m'; declined = n' })
stored-path p q = λ i. record { total = p i; declined = q i }

body-word : (w : List ℕ) (at j : ℕ) → j < 7 → slice_index (body_of w at) j ≡ slice_index w (start_of w at + j)
unfolding body_from
body-word w at j h = get_or-take (size_of (ring_of w)) (drop (start_of w at) w) j 0 (omega arith) ∙ get_or-drop (start_of w at) w j 0

module _ (w key : List ℕ) where
  -- words of the wrong lengths are no room
  pub stored-unsized : sized w ≡ false → no_stored ≡ stored_of w key
  unfolding stored_of
  stored-unsized e = rw e

  -- the key has no slot
  pub stored-none : (at : ℕ) → Room w → at ≡ find w (key_of first_mark key) → slots_of w ≤ at → no_stored ≡ stored_of w key
  unfolding stored_of
  stored-none at o e h = rw (room-sized w o, ← e, le-ltb at (slots_of w) h)

  -- or no series
  pub stored-lone : (at : ℕ) → Room w → at ≡ find w (key_of first_mark key) → at < slots_of w → has_series (use_of w at) ≡ false → no_stored ≡ stored_of w key
  unfolding stored_of
  stored-lone at o e h f = rw (room-sized w o, ← e, lt-ltb at (slots_of w) h, f)

  pub stored_is : (at start : ℕ) → Room w → at ≡ find w (key_of first_mark key) → at < slots_of w → has_series (use_of w at) ≡ true → start ≡ start_of w at →
      record { total = slice_index w (start + 1); declined = slice_index w (start + 2) } ≡ stored_of w key
  unfolding stored_of
  stored_is at start o e h f g =
      rw (room-sized w o, ← e, lt-ltb at (slots_of w) h, f, g)
      (stored-path (sym (body-word w at 1 (omega arith))) (sym (body-word w at 2 (omega arith))))

-- ---- a line with what is stored

-- f makes the line of an answer and of what is stored: the line of the answer given and of the words left is that of the verdict's
pub line-is : {A : Type 0} (f : A → Stored → AnswerLine) (key : List ℕ) (a d : A) (w x : List ℕ) (y : Stored) (l : AnswerLine) →
    d ≡ a → x ≡ w → y ≡ stored_of x key → l ≡ f d y → l ≡ f a (stored_of w key)
line-is f key a d w x y l p q r s = s ∙ ap (f d) r ∙ ap (λ e. f e (stored_of x key)) p ∙ ap (λ m. f a (stored_of m key)) q
