-- The words that a set which preserves leaves: a surplus in the bucket at the kept end, a shortage taken out at the other.
-- Assumes nothing.
use Rattle.std.specs.Prelude.{◌≡◌, cond, List, [], ◌∷◌, reverse, ℕ, suc, ◌+◌, ◌-◌, ◌≤◌, ◌<◌, take, leb, ltb, eqb}
use Rattle.answers.specs.declared.HistoryPreservation.{HistoryPreservation}
use Rattle.answers.specs.declared.HistoryPreservation.TheVariants.{PreserveNewest, PreserveOldest}
use Rattle.ring.specs.declared.Bucket.{Bucket}
use Rattle.layout.specs.Layout.{most_total}
use Rattle.ring.specs.Ring.{counts, declineds, total_of, declined_of, len_of, buckets, pushed, rewritten, without, trimmed}
use Rattle.ring.specs.Sound.{Sound}
use Rattle.preserve.specs.declared.Cut.{Cut}
use Rattle.rules.specs.Buckets.{kept_end, partial}
use Rattle.history.specs.Words.{bucket_of, raised_words}

unfoldable pub grown_words : HistoryPreservation → ℕ → List ℕ → ℕ → ℕ → List ℕ
grown_words p r b t s = cond (eqb (len_of b) 0) (pushed r b s 0 t) (raised_words r b (kept_end p (len_of b)) s 0)

pub record Grows (r : ℕ) (b : List ℕ) (t s : ℕ) : Type 0 where
  pub sound : Sound r b t
  pub total : total_of b + s ≤ most_total

-- the end that a shortage is taken from: the buckets from there on, and where the kth from there stands among n
abbrev pub facing : HistoryPreservation → List Bucket → List Bucket
facing PreserveNewest xs = xs
facing PreserveOldest xs = reverse xs

abbrev pub lost_at : HistoryPreservation → ℕ → ℕ → ℕ
lost_at PreserveNewest n k = k
lost_at PreserveOldest n k = n - 1 - k

-- how many whole buckets a shortage m takes from the front
unfoldable pub wholes : ℕ → List Bucket → ℕ
wholes m [] = 0
wholes m (x ∷ xs) = cond (eqb m 0) 0 (cond (leb x.count m) (suc (wholes (m - x.count) xs)) 0)

-- what it has left to take then
abbrev pub rest_of : ℕ → List Bucket → ℕ
rest_of m xs = m - counts (take (wholes m xs) xs)

pub record Walked (p : HistoryPreservation) (r : ℕ) (b : List ℕ) (m : ℕ) (x : Cut) : Type 0 where
  pub whole-are : x.whole ≡ wholes m (facing p (buckets r b))
  pub rest-is : x.rest + counts (take x.whole (facing p (buckets r b))) ≡ m
  pub declined-is : x.declined ≡ declined_of b - declineds (take x.whole (facing p (buckets r b)))

-- k out at that end
abbrev pub out_words : HistoryPreservation → ℕ → List ℕ → ℕ → List ℕ
out_words PreserveNewest r b k = without r b k
out_words PreserveOldest r b k = trimmed r b k

-- the last, partial one: q of its count go
abbrev pub rewritten_as : ℕ → List ℕ → ℕ → Bucket → List ℕ
rewritten_as r b i x = rewritten r b i x.count x.declined

unfoldable pub part_words : HistoryPreservation → ℕ → List ℕ → ℕ → List ℕ
part_words p r b q = rewritten_as r b (lost_at p (len_of b) 0) (partial q (bucket_of r b (lost_at p (len_of b) 0)))

pub record Parts (p : HistoryPreservation) (r : ℕ) (b : List ℕ) (t q : ℕ) : Type 0 where
  pub sound : Sound r b t
  pub some : 0 < len_of b
  pub less : q < (bucket_of r b (lost_at p (len_of b) 0)).count

unfoldable pub shrunk_words : HistoryPreservation → ℕ → List ℕ → ℕ → List ℕ
shrunk_words p r b m =
    let ys = facing p (buckets r b) in
    let b' = out_words p r b (wholes m ys) in
    cond (eqb (rest_of m ys) 0) b' (part_words p r b' (rest_of m ys))

pub record Shrinks (r : ℕ) (b : List ℕ) (t m : ℕ) : Type 0 where
  pub sound : Sound r b t
  pub most : m ≤ total_of b

unfoldable pub preserved_words : HistoryPreservation → ℕ → List ℕ → ℕ → ℕ → List ℕ
preserved_words p r b t n = cond (ltb (total_of b) n) (grown_words p r b t (n - total_of b)) (shrunk_words p r b (total_of b - n))
