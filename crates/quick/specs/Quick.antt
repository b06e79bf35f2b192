-- A pass over a key's buckets with no branch: sums and differences of words, which may wrap, and the bits of all that must be small.
-- Where these come to less than 2^54 nothing wrapped, so order and sums are exact (`Laws`).
-- Assumes nothing.
use Rattle.std.specs.Prelude.{Bool, ◌&&◌, cond, List, [], ◌∷◌, ℕ, ◌+◌, ◌-◌, ◌^◌, length, get_or, leb, ltb, eqb}
use Rattle.std.specs.Int.Bits.{bit_or}
use Rattle.base.specs.Tab.{tab}
use Rattle.layout.specs.Layout.{fixed_words, most_total}
use Rattle.ring.specs.declared.Bucket.{Bucket}
use Rattle.ring.specs.Ring.{bucket, bucket_at, buckets, len_of, head_of, total_of, declined_of}
use Rattle.quick.specs.declared.Acc.{Acc}

-- below it lie 512 sums without wrapping: 512 times 2^54 is 2^63
abbrev pub small : ℕ
small = 2 ^ 54

-- an oldest time below it leaves 512 gaps of 2^54 to come
abbrev pub early : ℕ
early = 2 ^ 63

-- how many words there are
abbrev pub words : ℕ
words = 2 ^ 64

-- the difference and the sum of two words, as a word
unfoldable pub minus : ℕ → ℕ → ℕ
minus a b = cond (leb b a) (a - b) (a + words - b)

unfoldable pub plus : ℕ → ℕ → ℕ
plus a b = cond (leb words (a + b)) (a + b - words) (a + b)

-- one bucket further
unfoldable pub full_turn : Acc → Bucket → Acc
full_turn a x = record {
  lo = x.time;
  kept = plus a.kept (minus x.count x.declined);
  declined = plus a.declined x.declined;
  bits = bit_or (bit_or (bit_or a.bits x.declined) (minus x.count x.declined)) (minus x.time a.lo);
}

-- the same where each declined is taken for 0, and their bits are kept apart: quicker
unfoldable pub plain_turn : Acc → Bucket → Acc
plain_turn a x = record {
  lo = x.time;
  kept = plus a.kept x.count;
  declined = bit_or a.declined x.declined;
  bits = bit_or (bit_or a.bits x.count) (minus x.time a.lo);
}

abbrev pub turn_of : Bool → Acc → Bucket → Acc
turn_of plain a x = cond plain (plain_turn a x) (full_turn a x)

unfoldable pub run_of : Bool → Acc → List Bucket → Acc
run_of plain a [] = a
run_of plain a (x ∷ xs) = run_of plain (turn_of plain a x) xs

-- three lists as buckets
unfoldable pub rows : List ℕ → List ℕ → List ℕ → List Bucket
rows cs ds ts = tab (length cs) (λ i. bucket (get_or cs i 0) (get_or ds i 0) (get_or ts i 0))

-- m cells of a body, from place j on
unfoldable pub cells : ℕ → List ℕ → ℕ → ℕ → List Bucket
cells r b j m = tab m (λ i. bucket_at r b (fixed_words + (j + i)))

-- up to so many buckets a walk from one to the next is the quicker pass; over more of them a plain one is, if it may be
abbrev pub few : ℕ
few = 24

abbrev pub plainly : List ℕ → Bool
plainly b = ltb few (len_of b) && eqb (declined_of b) 0

-- a pass that has met nothing but the oldest time
abbrev pub begun : ℕ → Acc
begun t = record { lo = t; kept = 0; declined = 0; bits = 0 }

-- what is asked of a pass from an oldest time, with these totals
unfoldable pub met_of : Acc → ℕ → ℕ → ℕ → ℕ → Bool
met_of a first last total declined =
    ltb a.bits small && (ltb first early && (leb a.lo last &&
    (eqb (plus a.kept a.declined) total && (eqb a.declined declined && leb total most_total))))

-- where the oldest time stands
abbrev pub first_of : ℕ → List ℕ → ℕ
first_of r b = get_or b (fixed_words + head_of b + r + r) 0

-- whether a pass over the buckets shows them sound
unfoldable pub shown : ℕ → List ℕ → ℕ → Bool
shown r b last = met_of (run_of (plainly b) (begun (first_of r b)) (buckets r b)) (first_of r b) last (total_of b) (declined_of b)
