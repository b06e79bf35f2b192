-- Where each word of a room stands, and which numbers the words may be: the code's constants, by the same names. A room is a
-- header, an entry for each slot, and a body for each slot. The header says who holds each slot: a word of 64 bits for each of the two parties.
-- Assumes nothing.
use Rattle.std.specs.Prelude.{ℕ, ◌+◌, ◌*◌, ◌^◌}

-- ---- the header's words, and how many

abbrev pub slots_word : ℕ
slots_word = 0

abbrev pub ring_word : ℕ
ring_word = 1

abbrev pub last_word : ℕ
last_word = 2

-- bit s of the first is set where party 1 holds slot s, and of the second where party 2 does
abbrev pub firsts_word : ℕ
firsts_word = 3

abbrev pub seconds_word : ℕ
seconds_word = 4

abbrev pub header_words : ℕ
header_words = 5

-- ---- who holds a slot, its two bits as a number: nobody's slots are free, and where both are set the slot is neither party's

abbrev pub nobody : ℕ
nobody = 0

abbrev pub first_mark : ℕ
first_mark = 1

abbrev pub second_mark : ℕ
second_mark = 2

-- ---- an entry's words behind the use, which is its first, and how many with it

abbrev pub len_word : ℕ
len_word = 1

abbrev pub a_word : ℕ
a_word = 2

abbrev pub b_word : ℕ
b_word = 3

abbrev pub c_word : ℕ
c_word = 4

abbrev pub d_word : ℕ
d_word = 5

abbrev pub entry_words : ℕ
entry_words = 6

-- ---- a slot's use

abbrev pub series_use : ℕ
series_use = 1

abbrev pub cached_use : ℕ
cached_use = 2

abbrev pub both_use : ℕ
both_use = 3

-- ---- a body's words before its cells, and how many

abbrev pub limit_at : ℕ
limit_at = 0

abbrev pub total_at : ℕ
total_at = 1

abbrev pub declined_at : ℕ
declined_at = 2

abbrev pub head_at : ℕ
head_at = 3

abbrev pub len_at : ℕ
len_at = 4

abbrev pub factor_at : ℕ
factor_at = 5

abbrev pub factor_time_at : ℕ
factor_time_at = 6

abbrev pub fixed_words : ℕ
fixed_words = 7

-- ---- a bucket's words: its count, its declined and its time. A ring of r has r counts, then r declined, then r times

abbrev pub cell_words : ℕ
cell_words = 3

-- ---- the most slots, the longest ring, the longest key, and the largest total

abbrev pub most_slots : ℕ
most_slots = 64

abbrev pub most_ring : ℕ
most_ring = 512

abbrev pub longest_key : ℕ
longest_key = 32

abbrev pub most_total : ℕ
most_total = 2 ^ 53

-- ---- the words of a body whose ring is r

abbrev pub size_of : ℕ → ℕ
size_of r = fixed_words + cell_words * r
