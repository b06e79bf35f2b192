-- How the parts of a line are read: texts, numbers, keys, and a text with its number. Every definition computes.
-- Assumes nothing.
use Rattle.std.specs.Prelude.{Bool, true, false, cond, ◌&&◌, List, [], ◌∷◌, ℕ, suc, ◌+◌, Option, Some, None, length, get_or, take, drop, leb, ltb, eqb}
use Rattle.fields.specs.Bytes.{counts}
use Rattle.fields.specs.Numbers.{value}
use Rattle.fields.specs.Ranges.{largest}

-- ---- parts of a line

-- how many bytes from the start pass
unfoldable pub run : (ℕ → Bool) → List ℕ → ℕ
run p [] = 0
run p (b ∷ bs) = cond (p b) (suc (run p bs)) 0

-- whether the line begins with the text
unfoldable pub begins : List ℕ → List ℕ → Bool
begins [] bs = true
begins (x ∷ xs) [] = false
begins (x ∷ xs) (b ∷ bs) = eqb b x && begins xs bs

-- past the text at `at`
unfoldable pub text_at : List ℕ → ℕ → List ℕ → Option ℕ
text_at line at text = cond (begins text (drop at line)) (Some (at + length text)) None

-- a run of digits that is a u64
abbrev pub number_in : List ℕ → ℕ → Option (ℕ × ℕ)
number_in ds next = cond (leb (value ds) largest) (Some (value ds, next)) None

-- the number at `at`: all digits from there, at least one, no leading zero
unfoldable pub number_of : List ℕ → ℕ → ℕ → Option (ℕ × ℕ)
number_of bs at k = cond (eqb k 0) None (cond (eqb (get_or bs 0 0) 48 && ltb 1 k) None (number_in (take k bs) (at + k)))

unfoldable pub number_at : List ℕ → ℕ → Option (ℕ × ℕ)
number_at line at = number_of (drop at line) at (run (counts false) (drop at line))

-- past the key at `at`: all letters and digits from there, 1 to 32 of them
abbrev pub key_of : ℕ → ℕ → Option ℕ
key_of at k = cond (leb 1 k && leb k 32) (Some (at + k)) None

unfoldable pub key_at : List ℕ → ℕ → Option ℕ
key_at line at = key_of at (run (counts true) (drop at line))

-- ---- what follows a part that was found

abbrev pub on_number : {A : Type 0} → Option (ℕ × ℕ) → A → (ℕ → ℕ → A) → A
on_number (Some p) bad k = k p.0 p.1
on_number None bad k = bad

abbrev pub on_place : {A : Type 0} → Option ℕ → A → (ℕ → A) → A
on_place (Some next) bad k = k next
on_place None bad k = bad

-- the number after the text at `at`
unfoldable pub field_at : List ℕ → ℕ → List ℕ → Option (ℕ × ℕ)
field_at line at text = on_place (text_at line at text) None (λ next. number_at line next)
