-- A list written over the start of a row, as much of it as fits: the rest of the row stays.
-- Assumes nothing.
use Rattle.std.specs.Prelude.{◌≡◌, List, [], ◌∷◌, ◌++◌, ℕ, suc, ◌+◌, ◌-◌, ◌≤◌, ◌<◌, min, length, take, drop, get_or, set}
use Rattle.std.proofs.Common.{ap, sym, ◌∙◌, arith, add-one, length-append, length-take, length-drop, take-suc, drop-cons, length-take-le, get_or-take, get_or-drop, get_or-append-add}
use Rattle.std.proofs.Math.ListN.{get_or-append}
use Rattle.std.proofs.Math.Seq.{append_snoc}
use Rattle.std.proofs.lemmas.List.{set_at}
use Rattle.readout.specs.Row.{up_to, laid}

module _ {A : Type 0} (xs ys : List A) (k : ℕ) where
  pub up_to-length : k ≤ length xs → k ≤ length ys → length (up_to k xs ys) ≡ length ys
  up_to-length p q = simp (length-append, length-take, length-drop) (omega arith)

  -- one more; d is any value, for `get_or`
  pub up_to-more : (x d : A) → x ≡ get_or xs k d → k < length xs → k < length ys → set (up_to k xs ys) k x ≡ up_to (k + 1) xs ys
  up_to-more x d e p q =
      ap (λ (r : List A). set (take k xs ++ r) k x) (drop-cons ys k d q)
      ∙ set_at (take k xs) (get_or ys k d) (drop (suc k) ys) x k (length-take-le k xs (omega arith))
      ∙ sym (append_snoc (take k xs) x (drop (suc k) ys))
      ∙ ap (λ (y : A). (take k xs ++ (y ∷ [])) ++ drop (suc k) ys) e
      ∙ ap (λ (r : List A). r ++ drop (suc k) ys) (sym (take-suc xs k d p))
      ∙ ap (λ (j : ℕ). up_to j xs ys) (sym (add-one k))

-- nothing, written over a row
pub laid-nothing : {A : Type 0} (ys : List A) → laid [] ys ≡ ys
laid-nothing ys = let e : min 0 (length ys) ≡ 0 = omega arith in rw e

-- ---- the row place by place; d is any value

module _ {A : Type 0} (xs ys : List A) where
  abbrev fit : ℕ
  fit = min (length xs) (length ys)

  front : length (take (min (length xs) (length ys)) xs) ≡ min (length xs) (length ys)
  front = length-take-le fit xs (omega arith)

  pub laid-length : length (laid xs ys) ≡ length ys
  laid-length = up_to-length xs ys fit (omega arith) (omega arith)

  pub laid-written : (i : ℕ) (d : A) → i < length xs → i < length ys → get_or (laid xs ys) i d ≡ get_or xs i d
  laid-written i d p q = get_or-append (take fit xs) (drop fit ys) d i (omega (arith, front)) ∙ get_or-take fit xs i d (omega arith)

  pub laid-left : (i : ℕ) (d : A) → length xs ≤ i → get_or (laid xs ys) i d ≡ get_or ys i d
  laid-left i d p =
      let a : i ≡ length (take fit xs) + (i - fit) = omega (arith, front) in
      let b : fit + (i - fit) ≡ i = omega arith in
      ap (λ (j : ℕ). get_or (laid xs ys) j d) a
      ∙ get_or-append-add (take fit xs) (drop fit ys) (i - fit) d
      ∙ get_or-drop fit ys (i - fit) d
      ∙ ap (λ (j : ℕ). get_or ys j d) b
