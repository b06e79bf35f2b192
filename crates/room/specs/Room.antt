-- A room's words: slots, ring, last reading; the slots that party 1 holds, and that party 2 holds, as bits; an entry of six words for each slot (use, key
-- length, four words of key); then a body for each slot. Which lengths are right, what an entry and a body are, which slot is found, and what a change writes.
-- Assumes nothing.
use Rattle.std.specs.Prelude.{◌≡◌, Bool, cond, not, ◌&&◌, List, [], ◌∷◌, ℕ, zero, suc, ◌+◌, ◌*◌, ◌/◌, ◌%◌, ◌≤◌, length, get_or, take, drop, set, replicate, leb, eqb, Result, Ok}
use Rattle.base.specs.Writes.{writes}
use Rattle.base.specs.Bits.{bit_at, with_bit}
use Rattle.base.specs.Splice.{splice}
use Rattle.base.specs.Seek.{seek}
use Rattle.common.specs.Refusals.{refuse}
use Rattle.common.specs.declared.refusal.Refusal.{Refusal}
use Rattle.layout.specs.Layout.{slots_word, ring_word, last_word, firsts_word, seconds_word, header_words, len_word, a_word, b_word, c_word, d_word, entry_words, nobody}
use Rattle.layout.specs.Layout.{most_slots, most_ring, size_of}
use Rattle.keys.specs.declared.Key.{Key}
use Rattle.keys.specs.Keys.{same_key, key_fits}

-- ---- the header, and where entries and bodies stand

abbrev pub slots_of : List ℕ → ℕ
slots_of w = get_or w slots_word 0

abbrev pub ring_of : List ℕ → ℕ
ring_of w = get_or w ring_word 0

abbrev pub last_of : List ℕ → ℕ
last_of w = get_or w last_word 0

-- all words of a room
abbrev pub length_of : ℕ → ℕ → ℕ
length_of n r = header_words + entry_words * n + n * size_of r

-- where slot s's entry starts; where its body starts and ends
abbrev pub entry_of : ℕ → ℕ
entry_of s = header_words + entry_words * s

abbrev pub start_of : List ℕ → ℕ → ℕ
start_of w s = header_words + entry_words * slots_of w + s * size_of (ring_of w)

abbrev pub end_of : List ℕ → ℕ → ℕ
end_of w s = start_of w s + size_of (ring_of w)

-- ---- lengths

-- n slots with rings of r are in range, and need l words
unfoldable pub fits : ℕ → ℕ → ℕ → Bool
fits n r l = leb 1 n && (leb n most_slots && (leb 1 r && (leb r most_ring && eqb l (length_of n r))))

-- the same as facts
pub record Lengths (n r l : ℕ) : Type 0 where
  pub one : 1 ≤ n
  pub few : n ≤ most_slots
  pub some : 1 ≤ r
  pub small : r ≤ most_ring
  pub long : l ≡ length_of n r

-- a room's words are as many as its header says
abbrev pub sized : List ℕ → Bool
sized w = fits (slots_of w) (ring_of w) (length w)

abbrev pub Room : List ℕ → Type 0
Room w = Lengths (slots_of w) (ring_of w) (length w)

-- its header and entries are there, whatever stands behind them
pub record Directory (w : List ℕ) : Type 0 where
  pub few : slots_of w ≤ most_slots
  pub long : header_words + entry_words * slots_of w ≤ length w

-- an empty room: last reading 0, every slot free, every other word 0
unfoldable pub empty : ℕ → ℕ → List ℕ
empty n r = n ∷ r ∷ 0 ∷ 0 ∷ 0 ∷ replicate (entry_words * n + n * size_of r) 0

-- what making something in lent words answers, by whether they fit: 5 where they do not
abbrev pub if_fits : Bool → Result (Unit {0}) Refusal
if_fits fit = cond fit (Ok tt) (refuse 5)

-- making one in lent words: done exactly where they fit; else every word stays
pub record Made (n r : ℕ) (w : List ℕ) (x : Result (Unit {0}) Refusal) (v : List ℕ) : Type 0 where
  pub answer : x ≡ if_fits (fits n r (length w))
  pub words : v ≡ cond (fits n r (length w)) (empty n r) w

-- ---- entries

-- who holds slot s, its two bits as a number: it is in use unless nobody does
unfoldable pub holder_of : List ℕ → ℕ → ℕ
holder_of w s = bit_at (get_or w firsts_word 0) s + 2 * bit_at (get_or w seconds_word 0) s

-- slot s's use
abbrev pub use_of : List ℕ → ℕ → ℕ
use_of w s = get_or w (entry_of s) 0

unfoldable pub key_at : List ℕ → ℕ → Key
key_at w s = record {
  holder = holder_of w s;
  len = get_or w (entry_of s + len_word) 0;
  a = get_or w (entry_of s + a_word) 0;
  b = get_or w (entry_of s + b_word) 0;
  c = get_or w (entry_of s + c_word) 0;
  d = get_or w (entry_of s + d_word) 0;
}

unfoldable pub free : List ℕ → ℕ → Bool
free w s = eqb (holder_of w s) nobody

-- slot s's use as it counts: none where it is free
abbrev pub used_at : List ℕ → ℕ → ℕ
used_at w s = cond (free w s) 0 (use_of w s)

-- slot s has the bytes of key k, whoever holds it
unfoldable pub spells : List ℕ → Key → ℕ → Bool
spells w k s = eqb (get_or w (entry_of s + len_word) 0) k.len && (eqb (get_or w (entry_of s + a_word) 0) k.a && (eqb (get_or w (entry_of s + b_word) 0) k.b &&
    (eqb (get_or w (entry_of s + c_word) 0) k.c && eqb (get_or w (entry_of s + d_word) 0) k.d)))

-- slot s is in use with key k
unfoldable pub has : List ℕ → Key → ℕ → Bool
has w k s = not (free w s) && same_key (key_at w s) k

-- slot s's key is one
abbrev pub key_sound : List ℕ → ℕ → Bool
key_sound w s = key_fits (key_at w s)

-- the lowest slot with key k, and the lowest free one; or the number of slots
abbrev pub find : List ℕ → Key → ℕ
find w k = seek (has w k) 0 (slots_of w)

abbrev pub vacant : List ℕ → ℕ
vacant w = seek (free w) 0 (slots_of w)

-- ---- bodies

-- the body that starts at a, and the room with b in its place
unfoldable pub body_from : List ℕ → ℕ → List ℕ
body_from w a = take (size_of (ring_of w)) (drop a w)

abbrev pub with_from : List ℕ → ℕ → List ℕ → List ℕ
with_from w a b = splice a (a + size_of (ring_of w)) w b

abbrev pub body_of : List ℕ → ℕ → List ℕ
body_of w s = body_from w (start_of w s)

-- where a body starts, and that it ends within the room
pub record Starts (w : List ℕ) (s x : ℕ) : Type 0 where
  pub at : x ≡ start_of w s
  pub inside : x + size_of (ring_of w) ≤ length w

-- ---- the room with a change

abbrev pub with_body : List ℕ → ℕ → List ℕ → List ℕ
with_body w s b = with_from w (start_of w s) b

-- who holds slot s is m: its two bits, and no other
unfoldable pub held : List ℕ → ℕ → ℕ → List ℕ
held w s m =
    writes w
    ((firsts_word, with_bit (get_or w firsts_word 0) s (m % 2)) ∷ (seconds_word, with_bit (get_or w seconds_word 0) s (m / 2 % 2)) ∷ [])

-- use u and key k at slot s
unfoldable pub entered : List ℕ → ℕ → ℕ → Key → List ℕ
entered w s u k =
    writes (held w s k.holder)
    ((entry_of s, u) ∷ (entry_of s + len_word, k.len) ∷ (entry_of s + a_word, k.a) ∷ (entry_of s + b_word, k.b) ∷
    (entry_of s + c_word, k.c) ∷ (entry_of s + d_word, k.d) ∷ [])

-- use u alone
unfoldable pub with_use : List ℕ → ℕ → ℕ → List ℕ
with_use w s u = set w (entry_of s) u

-- the slot freed: nobody holds it
unfoldable pub released : List ℕ → ℕ → List ℕ
released w s = held w s nobody

-- freed where m holds it
unfoldable pub released_own : List ℕ → ℕ → ℕ → List ℕ
released_own w s m = cond (eqb (holder_of w s) m) (released w s) w

unfoldable pub with_reading : List ℕ → ℕ → List ℕ
with_reading w t = set w last_word t

-- of the first n slots those freed that m holds; of all of them
unfoldable pub freed : List ℕ → ℕ → ℕ → List ℕ
freed w m zero = w
freed w m (suc n) = released_own (freed w m n) n m

abbrev pub cleared : List ℕ → ℕ → List ℕ
cleared w m = freed w m (slots_of w)
