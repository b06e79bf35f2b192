-- The words that an edit leaves in a slot's body, and what it asks. r is the ring, s the bucket size, t the reading.
-- Assumes nothing.
use Rattle.std.specs.Prelude.{◌≡◌, false, cond, List, [], ◌∷◌, ℕ, ◌+◌, ◌≤◌, ◌<◌, length, drop}
use Rattle.base.specs.Writes.{writes}
use Rattle.history.specs.Words.{incremented, replaced_words, Takes, Sets}
use Rattle.preserve.specs.Preserving.{preserved_words}
use Rattle.rules.specs.Buckets.{joins, joined, replaced, preserved}
use Rattle.ring.specs.declared.Bucket.{Bucket}
use Rattle.layout.specs.Layout.{limit_at, total_at, declined_at, head_at, len_at, factor_at, factor_time_at, most_ring, most_total, size_of}
use Rattle.ring.specs.Ring.{counts, declineds, len_of, buckets, without, Leaves}
use Rattle.ring.specs.Sound.{Sound}
use Rattle.edit.specs.declared.Then.{Then}
use Rattle.edit.specs.declared.Then.TheVariants.{Nothing, Increment, Replace, Preserve}
use Rattle.edit.specs.declared.Edit.{Edit}

-- ---- a body

unfoldable pub begun : List ℕ → List ℕ
begun b = writes b ((total_at, 0) ∷ (declined_at, 0) ∷ (head_at, 0) ∷ (len_at, 0) ∷ [])

unfoldable pub started : ℕ → List ℕ → Edit → List ℕ
started r b e = cond e.begins (begun b) (without r b e.gone)

unfoldable pub acted : ℕ → ℕ → ℕ → Then → List ℕ → List ℕ
acted r s t Nothing b = b
acted r s t (Increment c d) b = incremented r b s t c d
acted r s t (Replace n) b = replaced_words r b t n
acted r s t (Preserve p n) b = preserved_words p r b t n

unfoldable pub fixed : List ℕ → ℕ → ℕ → ℕ → List ℕ
fixed b limit factor time = writes b ((limit_at, limit) ∷ (factor_at, factor) ∷ (factor_time_at, time) ∷ [])

unfoldable pub edited : ℕ → ℕ → ℕ → List ℕ → Edit → List ℕ
edited r s t b e = fixed (acted r s t e.then (started r b e)) e.limit e.factor e.factor_time

-- ---- what it asks of a body: of the words that are stored to, and of the buckets

pub record Starts (r : ℕ) (b : List ℕ) (e : Edit) : Type 0 where
  pub long : length b ≡ size_of r
  pub leaves : e.begins ≡ false → Leaves r b e.gone (drop e.gone (buckets r b)) e.total e.declined

abbrev pub Acts : ℕ → ℕ → ℕ → List ℕ → Then → Type 0
Acts r s t b Nothing = Unit {0}
Acts r s t b (Increment c d) = Takes r b s t c d
Acts r s t b (Replace n) = Sets r b t n
Acts r s t b (Preserve p n) = Sets r b t n

-- the buckets that stay, and what becomes of them
unfoldable pub started_view : Edit → List Bucket → List Bucket
started_view e xs = cond e.begins [] (drop e.gone xs)

unfoldable pub acted_view : ℕ → ℕ → Then → List Bucket → List Bucket
acted_view s t Nothing xs = xs
acted_view s t (Increment c d) xs = joined s t c d xs
acted_view s t (Replace n) xs = replaced t n
acted_view s t (Preserve p n) xs = preserved p t n xs

unfoldable pub edited_view : ℕ → ℕ → Edit → List Bucket → List Bucket
edited_view s t e xs = acted_view s t e.then (started_view e xs)

-- an increment fits the total, and the ring where it adds a bucket
pub record Fits (r s t c d : ℕ) (xs : List Bucket) : Type 0 where
  pub least : d ≤ c
  pub total : counts xs + c ≤ most_total
  pub free : joins s t xs ≡ false → length xs < r

abbrev pub ActsOn : ℕ → ℕ → ℕ → Then → List Bucket → Type 0
ActsOn r s t Nothing xs = Unit {0}
ActsOn r s t (Increment c d) xs = Fits r s t c d xs
ActsOn r s t (Replace n) xs = n ≤ most_total
ActsOn r s t (Preserve p n) xs = n ≤ most_total

-- what stays of the oldest
pub record Stays (r t : ℕ) (b : List ℕ) (e : Edit) : Type 0 where
  pub sound : Sound r b t
  pub some : e.gone ≤ len_of b
  pub total : e.total ≡ counts (drop e.gone (buckets r b))
  pub declined : e.declined ≡ declineds (drop e.gone (buckets r b))

pub record Edits (r s t : ℕ) (b : List ℕ) (e : Edit) : Type 0 where
  pub long : length b ≡ size_of r
  pub one : 1 ≤ r
  pub small : r ≤ most_ring
  pub stays : e.begins ≡ false → Stays r t b e
  pub acts : ActsOn r s t e.then (started_view e (buckets r b))
