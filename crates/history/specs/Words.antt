-- The words that each change of a history leaves: the ring's stores, one after the other.
-- Assumes nothing.
use Rattle.std.specs.Prelude.{◌≡◌, false, cond, List, ℕ, ◌+◌, ◌-◌, ◌≤◌, ◌<◌}
use Rattle.ring.specs.declared.Bucket.{Bucket}
use Rattle.layout.specs.Layout.{most_total}
use Rattle.ring.specs.Ring.{total_of, declined_of, len_of, cell_of, bucket_at, buckets, Shape, pushed, rewritten, without}
use Rattle.ring.specs.Sound.{Sound}
use Rattle.rules.specs.Buckets.{joins}

-- the ith bucket of the words
abbrev pub bucket_of : ℕ → List ℕ → ℕ → Bucket
bucket_of r b i = bucket_at r b (cell_of r b i)

-- ---- a bucket that counts more

abbrev pub raised_words : ℕ → List ℕ → ℕ → ℕ → ℕ → List ℕ
raised_words r b i c d = rewritten r b i ((bucket_of r b i).count + c) ((bucket_of r b i).declined + d)

pub record Raises (r : ℕ) (b : List ℕ) (i c d : ℕ) : Type 0 where
  pub shape : Shape r b
  pub some : i < len_of b
  pub count : (bucket_of r b i).count ≤ total_of b
  pub denied : (bucket_of r b i).declined ≤ declined_of b
  pub total : total_of b + c ≤ most_total
  pub declined : declined_of b + d ≤ most_total

-- ---- an increment: s is the bucket size, t the reading

unfoldable pub incremented : ℕ → List ℕ → ℕ → ℕ → ℕ → ℕ → List ℕ
incremented r b s t c d = cond (joins s t (buckets r b)) (raised_words r b (len_of b - 1) c d) (pushed r b c d t)

-- sound at the reading, with room for the count, and for a bucket if one is added
pub record Takes (r : ℕ) (b : List ℕ) (s t c d : ℕ) : Type 0 where
  pub sound : Sound r b t
  pub least : d ≤ c
  pub total : total_of b + c ≤ most_total
  pub free : joins s t (buckets r b) ≡ false → len_of b < r

-- ---- a set

unfoldable pub replaced_words : ℕ → List ℕ → ℕ → ℕ → List ℕ
replaced_words r b t n = pushed r (without r b (len_of b)) n 0 t

-- sound at the reading, and a count that may be a total
pub record Sets (r : ℕ) (b : List ℕ) (t n : ℕ) : Type 0 where
  pub sound : Sound r b t
  pub most : n ≤ most_total
