-- The rules on a key's buckets, oldest first: what is expired, the last second, joining, replacing and preserving a history.
-- In ticks are w, the window, t, the reading, and b, the longest age that joins (`join_ticks`); n is the number of ticks in a millisecond.
-- Assumes nothing.
use Rattle.std.specs.Prelude.{Bool, ◌&&◌, cond, List, [], ◌∷◌, ◌++◌, reverse, ℕ, suc, ◌+◌, ◌-◌, length, get_or, set, drop, leb, ltb, eqb}
use Rattle.share.specs.Share.{mul_div}
use Rattle.settings.specs.Clock.{age, longest}
use Rattle.answers.specs.declared.HistoryPreservation.{HistoryPreservation}
use Rattle.answers.specs.declared.HistoryPreservation.TheVariants.{PreserveNewest, PreserveOldest}
use Rattle.ring.specs.declared.Bucket.{Bucket}
use Rattle.ring.specs.Ring.{bucket, no_bucket, counts}

-- ---- expired

-- the age is over w
unfoldable pub older : ℕ → ℕ → Bucket → Bool
older w t x = ltb w (age t x.time)

-- the buckets whose age is at most w, wherever they stand
unfoldable pub recent : ℕ → ℕ → List Bucket → List Bucket
recent w t [] = []
recent w t (x ∷ xs) = cond (older w t x) (recent w t xs) (x ∷ recent w t xs)

-- how many at the front are over w
unfoldable pub ahead : ℕ → ℕ → List Bucket → ℕ
ahead w t [] = 0
ahead w t (x ∷ xs) = cond (older w t x) (suc (ahead w t xs)) 0

-- "A bucket is expired when its age is over 1000 W ms", in full precision; eviction takes every expired bucket out
abbrev pub expired : ℕ → ℕ → Bucket → Bool
expired w t x = older w t x

abbrev pub evicted : ℕ → ℕ → List Bucket → List Bucket
evicted w t xs = recent w t xs

-- where times do not fall, that is the oldest ones
abbrev pub gone : ℕ → ℕ → List Bucket → ℕ
gone w t xs = ahead w t xs

abbrev pub live : ℕ → ℕ → List Bucket → List Bucket
live w t xs = drop (gone w t xs) xs

-- with the expired ones out, or not
abbrev pub gone_if : Bool → ℕ → ℕ → List Bucket → ℕ
gone_if out w t xs = cond out (gone w t xs) 0

abbrev pub out_if : Bool → ℕ → ℕ → List Bucket → List Bucket
out_if out w t xs = drop (gone_if out w t xs) xs

-- "the counts at age at most 1000 ms", cut to milliseconds (`Ages.antt`: `older-cut`)
abbrev pub last_second : ℕ → ℕ → List Bucket → ℕ
last_second n t xs = counts (recent (longest n 1000) t xs)

-- ---- an increment

abbrev pub newest : List Bucket → Bucket
newest xs = get_or xs (length xs - 1) no_bucket

-- the ith counts c more, d of it declined
unfoldable pub raised : ℕ → ℕ → ℕ → List Bucket → List Bucket
raised i c d xs = set xs i (bucket ((get_or xs i no_bucket).count + c) ((get_or xs i no_bucket).declined + d) (get_or xs i no_bucket).time)

-- "An increment joins the newest bucket at age at most b; else it adds one with the reading", cut to milliseconds (`Ages.antt`: `joins-cut`)
unfoldable pub joins : ℕ → ℕ → List Bucket → Bool
joins b t xs = ltb 0 (length xs) && leb (age t (newest xs).time) b

unfoldable pub joined : ℕ → ℕ → ℕ → ℕ → List Bucket → List Bucket
joined b t c d xs = cond (joins b t xs) (raised (length xs - 1) c d xs) (xs ++ (bucket c d t ∷ []))

-- ---- a set: "Replace (one bucket) or Preserve"

abbrev pub replaced : ℕ → ℕ → List Bucket
replaced t n = bucket n 0 t ∷ []

-- of n buckets, the one that a surplus goes to
abbrev pub kept_end : HistoryPreservation → ℕ → ℕ
kept_end PreserveNewest n = n - 1
kept_end PreserveOldest n = 0

-- "a surplus goes to the newest (PreserveNewest) or oldest bucket, or a new one if there is none"
unfoldable pub grown : HistoryPreservation → ℕ → ℕ → List Bucket → List Bucket
grown p t s xs = cond (ltb 0 (length xs)) (raised (kept_end p (length xs)) s 0 xs) (bucket s 0 t ∷ [])

-- "The last, partial one keeps floor(declined * retained / count) declined": m of its count go
unfoldable pub partial : ℕ → Bucket → Bucket
partial m x = bucket (x.count - m) (mul_div x.declined (x.count - m) x.count) x.time

-- "a shortage takes whole buckets": m goes from the front, and the walk ends where nothing is left to go
unfoldable pub cut_oldest : ℕ → List Bucket → List Bucket
cut_oldest m [] = []
cut_oldest m (x ∷ xs) = cond (eqb m 0) (x ∷ xs) (cond (leb x.count m) (cut_oldest (m - x.count) xs) (partial m x ∷ xs))

unfoldable pub cut_newest : ℕ → List Bucket → List Bucket
cut_newest m xs = reverse (cut_oldest m (reverse xs))

-- "from the other end"
abbrev pub shrunk : HistoryPreservation → ℕ → List Bucket → List Bucket
shrunk PreserveNewest m xs = cut_oldest m xs
shrunk PreserveOldest m xs = cut_newest m xs

-- the live buckets, made to count n; an equal count is a shortage of 0, which leaves them
unfoldable pub preserved : HistoryPreservation → ℕ → ℕ → List Bucket → List Bucket
preserved p t n xs = cond (ltb (counts xs) n) (grown p t (n - counts xs) xs) (shrunk p (counts xs - n) xs)
