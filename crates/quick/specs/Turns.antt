-- The loop of a pass: what is still to be done comes to the same whole at every turn. And a ring's two parts, behind the head and
-- before it, one after the other.
-- Assumes nothing.
use Rattle.std.specs.Prelude.{◌≡◌, refl, Bool, ℕ, ◌+◌, ◌-◌, ◌≤◌, ◌<◌, get_or, take, drop}
use Rattle.std.proofs.Math.Path.{sym, ap, ap₂}
use Rattle.std.proofs.Common.{◌∙◌, add-one, drop_of_length-le, length-take, length-drop, drop-cons, get_or-drop, get_or-take}
use Rattle.std.proofs.Math.Bool.{false}
use mathlib.Core.List.{List, [], ◌∷◌, ◌++◌}
use native.Mathlib.Omega.{arith}
use Rattle.std.proofs.Math.ListN.{length}
use Rattle.base.specs.Tab.{tab, length-tab, get_d-tab, tab-ext, tab-append}
use Rattle.layout.specs.Layout.{fixed_words, size_of}
use Rattle.ring.specs.declared.Bucket.{Bucket}
use Rattle.ring.specs.Ring.{bucket, no_bucket, len_of, head_of, wrap, cell_of, bucket_at, buckets, Shape}
use Rattle.ring.specs.View.{bucket-path, view-turn, view-end}
use Rattle.ring.specs.Wrap.{wrap-lo, wrap-hi, wrap-lt, wrap-wrap}
use Rattle.quick.specs.declared.Acc.{Acc}
use Rattle.quick.specs.Quick.{full_turn, turn_of, run_of, rows, cells}

module _ (plain : Bool) (cs ds ts : List ℕ) where
  rows-length : length (rows cs ds ts) ≡ length cs
  unfolding rows
  rows-length = length-tab (length cs) (λ i. bucket (get_or cs i 0) (get_or ds i 0) (get_or ts i 0))

  rows_at : (k : ℕ) → k < length cs → get_or (rows cs ds ts) k no_bucket ≡ bucket (get_or cs k 0) (get_or ds k 0) (get_or ts k 0)
  unfolding rows
  rows_at k h = get_d-tab (length cs) (λ i. bucket (get_or cs i 0) (get_or ds i 0) (get_or ts i 0)) k no_bucket h

  rows-turn : (k : ℕ) → k < length cs → drop k (rows cs ds ts) ≡ bucket (get_or cs k 0) (get_or ds k 0) (get_or ts k 0) ∷ drop (k + 1) (rows cs ds ts)
  rows-turn k h = drop-cons (rows cs ds ts) k no_bucket (omega (arith, rows-length)) ∙ rw (rows_at k h, add-one)

  pub run-turn : (k : ℕ) (a a' o : Acc) → k < length cs → a' ≡ turn_of plain a (bucket (get_or cs k 0) (get_or ds k 0) (get_or ts k 0)) →
      run_of plain a (drop k (rows cs ds ts)) ≡ o → run_of plain a' (drop (k + 1) (rows cs ds ts)) ≡ o
  unfolding run_of
  run-turn k a a' o h e i = ap (λ (y : Acc). run_of plain y (drop (k + 1) (rows cs ds ts))) e ∙ sym (ap (run_of plain a) (rows-turn k h)) ∙ i

  pub run_end : (k : ℕ) (a o : Acc) → length cs ≤ k → run_of plain a (drop k (rows cs ds ts)) ≡ o → a ≡ o
  unfolding run_of
  run_end k a o h i =
      let l : length (rows cs ds ts) ≤ k = omega (arith, rows-length) in
      sym (ap (run_of plain a) (drop_of_length-le (rows cs ds ts) l)) ∙ i

run-append : (plain : Bool) (xs ys : List Bucket) (a : Acc) → run_of plain (run_of plain a xs) ys ≡ run_of plain a (xs ++ ys)
unfolding run_of
run-append plain [] ys a = refl
run-append plain (x ∷ xs) ys a = run-append plain xs ys (turn_of plain a x)

-- ---- three parts of a body as cells

-- m words of a body from w on
abbrev part : List ℕ → ℕ → ℕ → List ℕ
part b w m = take (w + m - w) (drop w b)

part_length : (b : List ℕ) (w m : ℕ) → w + m ≤ length b → length (part b w m) ≡ m
part_length b w m h = simp (length-take, length-drop) (omega arith)

part_at : (b : List ℕ) (w m i v : ℕ) → i < m → w + i ≡ v → get_or (part b w m) i 0 ≡ get_or b v 0
part_at b w m i v h e =
    let l : i < w + m - w = omega arith in
    get_or-take (w + m - w) (drop w b) i 0 l ∙ get_or-drop w b i 0 ∙ ap (λ (k : ℕ). get_or b k 0) e

pub rows-cells : (r : ℕ) (b : List ℕ) (j m : ℕ) → length b ≡ size_of r → j + m ≤ r →
    rows (part b (fixed_words + j) m) (part b (fixed_words + j + r) m) (part b (fixed_words + j + r + r) m) ≡ cells r b j m
unfolding rows cells bucket_at
rows-cells r b j m l h =
    let w = fixed_words + j in
    let f : ℕ → Bucket = λ i. bucket (get_or (part b w m) i 0) (get_or (part b (w + r) m) i 0) (get_or (part b (w + r + r) m) i 0) in
    ap (λ (n : ℕ). tab n f) (part_length b w m (omega arith)) ∙
    tab-ext m f (λ i. bucket_at r b (fixed_words + (j + i)))
    (λ i k. bucket-path (part_at b w m i _ k (omega arith)) (part_at b (w + r) m i _ k (omega arith)) (part_at b (w + r + r) m i _ k (omega arith)))

-- ---- the cells behind the head, then those before it: n of them come first

module _ (r : ℕ) (b : List ℕ) (n : ℕ) (s : Shape r b) (p : n ≤ len_of b) (q : n ≤ r - head_of b) (u : n < len_of b → n ≡ r - head_of b) where
  abbrev at : ℕ → Bucket
  at i = bucket_at r b (cell_of r b i)

  behind-head : cells r b (head_of b) n ≡ tab n at
  unfolding cells
  behind-head =
      tab-ext n (λ i. bucket_at r b (fixed_words + (head_of b + i))) at
      (λ i k. ap (λ (j : ℕ). bucket_at r b (fixed_words + j)) (sym (wrap-lo r (head_of b + i) (omega (arith, s.head)))))

  before_head : cells r b 0 (len_of b - n) ≡ tab (len_of b - n) (λ i. at (n + i))
  unfolding cells
  before_head =
      tab-ext (len_of b - n) (λ i. bucket_at r b (fixed_words + (0 + i))) (λ i. at (n + i))
      (λ i k.
      let e : n ≡ r - head_of b = u (omega arith) in
      let v : 0 + i ≡ head_of b + (n + i) - r = omega (arith, s.head) in
      ap (λ (j : ℕ). bucket_at r b (fixed_words + j)) (v ∙ sym (wrap-hi r (head_of b + (n + i)) (omega (arith, s.head)))))

  both-parts : cells r b (head_of b) n ++ cells r b 0 (len_of b - n) ≡ buckets r b
  unfolding buckets
  both-parts =
      let e : n + (len_of b - n) ≡ len_of b = omega arith in
      ap₂ (λ (xs ys : List Bucket). xs ++ ys) behind-head before_head ∙ tab-append n (len_of b - n) at ∙ ap (λ (k : ℕ). tab k at) e

  run-parts : (plain : Bool) (a : Acc) → run_of plain (run_of plain a (cells r b (head_of b) n)) (cells r b 0 (len_of b - n)) ≡ run_of plain a (buckets r b)
  run-parts plain a = run-append plain (cells r b (head_of b) n) (cells r b 0 (len_of b - n)) a ∙ ap (run_of plain a) both-parts

-- the two passes that the code makes are one over the buckets
pub one-pass : (plain : Bool) (r : ℕ) (b : List ℕ) (n m : ℕ) (a y z : Acc) → Shape r b → n ≡ len_of b → m ≤ n → m ≤ r - head_of b →
    (m < n → m ≡ r - head_of b) → y ≡ run_of plain a (cells r b (head_of b) m) → z ≡ run_of plain y (cells r b 0 (n - m)) → z ≡ run_of plain a (buckets r b)
one-pass plain r b n m a y z s en p q l ey ez =
    let e : z ≡ run_of plain (run_of plain a (cells r b (head_of b) m)) (cells r b 0 (len_of b - m)) = cc in
    let w : m < len_of b → m ≡ r - head_of b = λ k. omega (arith, l (omega arith)) in
    e ∙ run-parts r b m s (omega arith) (omega arith) w plain a

-- ---- a walk from one bucket to the next

module _ (r : ℕ) (b : List ℕ) (s : Shape r b) where
  -- the place after that of bucket k is that of the next
  pub next_place : (k j : ℕ) → k < len_of b → j ≡ wrap r (head_of b + k) → wrap r (j + 1) ≡ wrap r (head_of b + (k + 1))
  next_place k j h e = ap (λ (i : ℕ). wrap r (i + 1)) e ∙ wrap-wrap r (head_of b) k 1 s.head (omega (arith, s.len))

  pub next-inside : (j x : ℕ) → j < r → x ≡ wrap r (j + 1) → x < r
  next-inside j x h e = omega (arith, e, wrap-lt r (j + 1) (omega arith))

  -- so what stands there is bucket k
  pub at_place : (k j : ℕ) (x : Bucket) → j ≡ wrap r (head_of b + k) → x ≡ bucket_at r b (fixed_words + j) → x ≡ bucket_at r b (cell_of r b k)
  at_place k j x e y = y ∙ ap (λ (n : ℕ). bucket_at r b (fixed_words + n)) e

  pub walk_turn : (k j : ℕ) (a a' o : Acc) (x : Bucket) → k < len_of b → j ≡ wrap r (head_of b + k) → x ≡ bucket_at r b (fixed_words + j) →
      a' ≡ full_turn a x → run_of false a (drop k (buckets r b)) ≡ o → run_of false a' (drop (k + 1) (buckets r b)) ≡ o
  unfolding run_of
  walk_turn k j a a' o x h e y f i =
      ap (λ (y : Acc). run_of false y (drop (k + 1) (buckets r b))) f ∙ sym (ap (run_of false a) (view-turn r b k x h (at_place k j x e y))) ∙ i

  pub walk_end : (k : ℕ) (a o : Acc) → len_of b ≤ k → run_of false a (drop k (buckets r b)) ≡ o → a ≡ o
  unfolding run_of
  walk_end k a o h i = sym (ap (run_of false a) (view-end r b k h)) ∙ i
