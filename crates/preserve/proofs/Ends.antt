-- The buckets from the end that a shortage is taken from.
-- Assumes nothing.
use Rattle.std.specs.Prelude.{◌≡◌, refl, ℕ, suc, ◌+◌, ◌-◌, ◌≤◌, ◌<◌, length, get_or, set, take, drop}
use Rattle.std.proofs.Common.{sym, ap, ◌∙◌, arith, not-suc-le-zero, add-one, length-drop, take-append-drop, drop_at, drop-cons, take-suc, length-take-le}
use mathlib.Core.List.{List, [], ◌∷◌, ◌++◌, reverse, reverse-cons, reverse-append, reverse-reverse}
use Rattle.std.proofs.Math.Decide.{dec_lt}
use Rattle.std.proofs.lemmas.List.{length-reverse, get_or_at, set_at}
use Rattle.std.proofs.Math.ListN.{get_or-append}
use Rattle.answers.specs.declared.HistoryPreservation.{HistoryPreservation}
use Rattle.answers.specs.declared.HistoryPreservation.TheVariants.{PreserveNewest, PreserveOldest}
use Rattle.ring.specs.declared.Bucket.{Bucket}
use Rattle.ring.specs.Ring.{no_bucket, sum_of}
use Rattle.ring.specs.Sums.{sum-append, sum_one, sum-split}
use Rattle.preserve.specs.Preserving.{facing, lost_at}
use Rattle.preserve.specs.Ends.{out}

get_d_reverse : (xs : List Bucket) (i : ℕ) → i < length xs → get_or (reverse xs) i no_bucket ≡ get_or xs (length xs - 1 - i) no_bucket
get_d_reverse [] i h = absurd (not-suc-le-zero h)
get_d_reverse (x ∷ xs) i h = ap (λ (ys : List Bucket). get_or ys i no_bucket) (reverse-cons x xs) ∙
    elim (dec_lt i (length xs)) [ yes p ↦ old p (get_d_reverse xs i p) | no p ↦ new p ]
  where
    old : i < length xs → get_or (reverse xs) i no_bucket ≡ get_or xs (length xs - 1 - i) no_bucket →
        get_or (reverse xs ++ (x ∷ [])) i no_bucket ≡ get_or (x ∷ xs) (suc (length xs) - 1 - i) no_bucket
    old p h =
        let e : suc (length xs - 1 - i) ≡ suc (length xs) - 1 - i = omega arith in
        get_or-append (reverse xs) (x ∷ []) no_bucket i (omega (arith, length-reverse xs)) ∙ h ∙ ap (λ (k : ℕ). get_or (x ∷ xs) k no_bucket) e

    new : (i < length xs → ⊥) → get_or (reverse xs ++ (x ∷ [])) i no_bucket ≡ get_or (x ∷ xs) (suc (length xs) - 1 - i) no_bucket
    new p =
        let e : 0 ≡ suc (length xs) - 1 - i = omega arith in
        get_or_at (reverse xs) x [] no_bucket i (omega (arith, length-reverse xs)) ∙ ap (λ (k : ℕ). get_or (x ∷ xs) k no_bucket) e

sum-reverse : (f : Bucket → ℕ) (xs : List Bucket) → sum_of f (reverse xs) ≡ sum_of f xs
unfolding sum_of
sum-reverse f [] = refl
sum-reverse f (x ∷ xs) = ap (sum_of f) (reverse-cons x xs) ∙ sum-append f (reverse xs) (x ∷ []) ∙ omega (arith, sum_one f x, sum-reverse f xs)

pub facing-length : (p : HistoryPreservation) (xs : List Bucket) → length (facing p xs) ≡ length xs
facing-length PreserveNewest xs = refl
facing-length PreserveOldest xs = length-reverse xs

pub facing-at : (p : HistoryPreservation) (xs : List Bucket) (k : ℕ) → k < length xs → get_or (facing p xs) k no_bucket ≡ get_or xs (lost_at p (length xs) k) no_bucket
facing-at PreserveNewest xs k h = refl
facing-at PreserveOldest xs k h = get_d_reverse xs k h

pub facing-sum : (p : HistoryPreservation) (f : Bucket → ℕ) (xs : List Bucket) → sum_of f (facing p xs) ≡ sum_of f xs
facing-sum PreserveNewest f xs = refl
facing-sum PreserveOldest f xs = sum-reverse f xs

pub facing-back : (p : HistoryPreservation) (xs : List Bucket) → facing p (facing p xs) ≡ xs
facing-back PreserveNewest xs = refl
facing-back PreserveOldest xs = reverse-reverse xs

pub lost-lt : (p : HistoryPreservation) (n k : ℕ) → k < n → lost_at p n k < n
lost-lt PreserveNewest n k h = h
lost-lt PreserveOldest n k h = omega arith

pub out-facing : (p : HistoryPreservation) (k : ℕ) (xs : List Bucket) → k ≤ length xs → facing p (out p k xs) ≡ drop k (facing p xs)
out-facing PreserveNewest k xs h = refl
out-facing PreserveOldest k xs h =
    let n = length xs - k in
    let l : length (reverse (drop n xs)) ≡ k = omega (arith, length-reverse (drop n xs), length-drop n xs) in
    sym (ap (λ (ys : List Bucket). drop k (reverse ys)) (sym (take-append-drop n xs)) ∙ ap (drop k) (reverse-append (take n xs) (drop n xs)) ∙
    drop_at (reverse (drop n xs)) (reverse (take n xs)) k l)

pub out-length : (p : HistoryPreservation) (k : ℕ) (xs : List Bucket) → k ≤ length xs → length (out p k xs) ≡ length xs - k
out-length PreserveNewest k xs h = length-drop k xs
out-length PreserveOldest k xs h = length-take-le (length xs - k) xs (omega arith)

-- what is in and what is out
pub out-sum : (p : HistoryPreservation) (f : Bucket → ℕ) (k : ℕ) (xs : List Bucket) → k ≤ length xs →
    sum_of f xs ≡ sum_of f (take k (facing p xs)) + sum_of f (out p k xs)
out-sum p f k xs h = omega (arith, facing-sum p f xs, sum-split f k (facing p xs), ap (sum_of f) (out-facing p k xs h), facing-sum p f (out p k xs))

-- the first that stays
pub out_at : (p : HistoryPreservation) (k : ℕ) (xs : List Bucket) → k < length xs →
    get_or (out p k xs) (lost_at p (length (out p k xs)) 0) no_bucket ≡ get_or (facing p xs) k no_bucket
out_at p k xs h =
    let h' : k ≤ length xs = omega arith in
    let l : 0 < length (out p k xs) = omega (arith, out-length p k xs h') in
    sym (facing-at p (out p k xs) 0 l) ∙ ap (λ (ys : List Bucket). get_or ys 0 no_bucket)
    (out-facing p k xs h' ∙ drop-cons (facing p xs) k no_bucket (omega (arith, facing-length p xs)))

-- the first is another
pub facing-set : (p : HistoryPreservation) (ys : List Bucket) (x : Bucket) → facing p (set (facing p ys) 0 x) ≡ set ys (lost_at p (length ys) 0) x
facing-set PreserveNewest ys x = refl
facing-set PreserveOldest ys x = go (reverse ys) ∙ cc (reverse-reverse ys, length-reverse ys)
  where
    go : (zs : List Bucket) → reverse (set zs 0 x) ≡ set (reverse zs) (length zs - 1 - 0) x
    go [] = refl
    go (z ∷ zs) =
        let e : length (reverse zs) ≡ suc (length zs) - 1 - 0 = omega (arith, length-reverse zs) in
        reverse-cons x zs ∙ sym (ap (λ (us : List Bucket). set us (suc (length zs) - 1 - 0) x) (reverse-cons z zs) ∙ set_at (reverse zs) z [] x _ e)

-- a turn of a walk from that end
pub turn-drop : (ys : List Bucket) (k : ℕ) (x : Bucket) → k < length ys → x ≡ get_or ys k no_bucket → drop k ys ≡ x ∷ drop (k + 1) ys
turn-drop ys k x h e = drop-cons ys k no_bucket h ∙ rw (e, add-one)

pub turn-sum : (f : Bucket → ℕ) (ys : List Bucket) (k : ℕ) (x : Bucket) → k < length ys → x ≡ get_or ys k no_bucket →
    sum_of f (take (k + 1) ys) ≡ sum_of f (take k ys) + f x
turn-sum f ys k x h e = rw (add-one, take-suc ys k no_bucket h, sum-append, sum_one, e)
