-- The header's two words tell at once whether each slot is nobody's or a party's, and how many slots each party holds: no slot has both bits, and the bits of
-- a word are counted (`census-counts` in `Laws.antt`).
-- Assumes nothing.
use Rattle.std.specs.Prelude.{◌≡◌, Bool, ◌||◌, List, ℕ, ◌+◌, ltb, eqb, get_or}
use Rattle.base.specs.Bits.{bit_at}
use Rattle.layout.specs.Layout.{first_mark, second_mark, firsts_word, seconds_word}
use Rattle.room.specs.Room.{slots_of}
use Rattle.parties.specs.declared.Caller.{Caller}
use Rattle.parties.specs.declared.Holdings.{Holdings}
use Rattle.parties.specs.Parties.{ours, many, slots_held}

-- how many of the room's slots have their bit in a word of the header
unfoldable pub bits_held : List ℕ → ℕ → ℕ
bits_held w j = many (λ s. eqb (bit_at (get_or w j 0) s) 1) (slots_of w)

unfoldable pub census_of : List ℕ → Holdings
census_of w = record { ours = ours w; first = bits_held w firsts_word; second = bits_held w seconds_word }

-- the counts are the room's
pub record Counts (w : List ℕ) (z : Holdings) : Type 0 where
  pub first-is : z.first ≡ slots_held w first_mark
  pub second_is : z.second ≡ slots_held w second_mark

-- 16 on the counts
unfoldable pub overdrawn_by : ℕ → Caller → Holdings → Bool
overdrawn_by n c z = ltb n (c.first + c.second) || (ltb c.first z.first || ltb c.second z.second)
