-- What a shortage, and a set that preserves, make of a sound body.
-- Assumes nothing.
use Rattle.std.specs.Prelude.{◌≡◌, List, ℕ, ◌+◌, ◌-◌, ◌≤◌, take, drop}
use Rattle.answers.specs.declared.HistoryPreservation.{HistoryPreservation}
use Rattle.answers.specs.declared.HistoryPreservation.TheVariants.{PreserveNewest, PreserveOldest}
use Rattle.ring.specs.declared.Bucket.{Bucket}
use Rattle.ring.specs.Ring.{bucket, no_bucket, sum_of, count_of, denied_of, counts, declineds, total_of, declined_of, len_of, buckets, Rewrites}
use Rattle.ring.specs.Ring as ring
use Rattle.preserve.specs.declared.Cut.{Cut}
use Rattle.preserve.specs.Preserving.{facing, wholes}

-- what it comes to: the count that is wanted, and no more declined than before
pub record Comes (n : ℕ) (xs ys : List Bucket) : Type 0 where
  pub count : counts ys ≡ n
  pub fewer : declineds ys ≤ declineds xs

-- ---- the walk of a shortage, turn by turn

pub record Walking (p : HistoryPreservation) (r : ℕ) (b : List ℕ) (m k rest declined : ℕ) : Type 0 where
  pub whole-are : k + wholes rest (drop k (facing p (buckets r b))) ≡ wholes m (facing p (buckets r b))
  pub rest-is : rest + counts (take k (facing p (buckets r b))) ≡ m
  pub declined-is : declined ≡ declined_of b - declineds (take k (facing p (buckets r b)))

abbrev pub cut_of : ℕ → ℕ → ℕ → Cut
cut_of k rest declined = record { whole = k; rest = rest; declined = declined }

-- the totals without k at that end
abbrev pub OutLeaves : HistoryPreservation → ℕ → List ℕ → ℕ → ℕ → ℕ → Type 0
OutLeaves PreserveNewest r b k total declined = ring.Leaves r b k (drop k (buckets r b)) total declined
OutLeaves PreserveOldest r b k total declined = ring.Leaves r b k (take (len_of b - k) (buckets r b)) total declined
