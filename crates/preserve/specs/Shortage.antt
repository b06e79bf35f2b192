-- A shortage: so many whole buckets from one end, and a part of the next. It leaves what is wanted, in order.
-- Assumes nothing.
use Rattle.std.specs.Prelude.{◌≡◌, ◌≢◌, cond, List, ℕ, ◌+◌, ◌-◌, ◌≤◌, ◌<◌, length, get_or, set, take, eqb}
use Rattle.answers.specs.declared.HistoryPreservation.{HistoryPreservation}
use Rattle.ring.specs.declared.Bucket.{Bucket}
use Rattle.ring.specs.Ring.{no_bucket, counts, declineds}
use Rattle.rules.specs.Buckets.{partial, shrunk}
use Rattle.preserve.specs.Preserving.{facing, lost_at}
use Rattle.preserve.specs.Ends.{out}

-- ---- the walk

-- the three ways that a turn of it goes
pub data Way (m : ℕ) (x : Bucket) : Type 0 where
  done : m ≡ 0 → Way m x
  whole : m ≢ 0 → x.count ≤ m → Way m x
  part : m ≢ 0 → m < x.count → Way m x

-- what holds of it: no more goes than is to go, and what is left to go is less than the next bucket counts
pub record Walks (m : ℕ) (ys : List Bucket) (k : ℕ) : Type 0 where
  pub within : k ≤ length ys
  pub least : counts (take k ys) ≤ m
  pub next : m - counts (take k ys) ≢ 0 → m ≤ counts ys → (k < length ys) × (m - counts (take k ys) < (get_or ys k no_bucket).count)

-- ---- from either end

-- zs with q gone from the bucket at that end
unfoldable pub parted_at : HistoryPreservation → ℕ → List Bucket → List Bucket
parted_at p q zs = cond (eqb q 0) zs (set zs (lost_at p (length zs) 0) (partial q (get_or zs (lost_at p (length zs) 0) no_bucket)))

-- what a walk says of the buckets as they stand
pub record Cuts (p : HistoryPreservation) (m : ℕ) (xs : List Bucket) (k q : ℕ) : Type 0 where
  pub within : k ≤ length xs
  pub least : q + counts (take k (facing p xs)) ≡ m
  pub next : q ≢ 0 → m ≤ counts xs → (0 < length (out p k xs)) × (q < (get_or (out p k xs) (lost_at p (length (out p k xs)) 0) no_bucket).count)
  pub is : shrunk p m xs ≡ parted_at p q (out p k xs)

pub record Reduced (m : ℕ) (xs ys : List Bucket) : Type 0 where
  pub count : counts ys + m ≡ counts xs
  pub fewer : declineds ys ≤ declineds xs
