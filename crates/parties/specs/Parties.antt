-- Two parties share a room (document 02, ticket 6): whose a slot is, how many slots each holds, and what is refused by that. A call comes with its party
-- and the two promises; a key belongs to the party that sends it.
-- Assumes nothing.
use Rattle.std.specs.Prelude.{Ok, Bool, false, cond, not, ◌||◌, List, [], ◌∷◌, ℕ, zero, suc, ◌+◌, leb, ltb, eqb}
use Rattle.base.specs.Every.{every}
use Rattle.layout.specs.Layout.{nobody, first_mark, second_mark}
use Rattle.keys.specs.declared.Key.{Key}
use Rattle.keys.specs.Keys.{key_of}
use Rattle.room.specs.Room.{slots_of, holder_of}
use Rattle.common.specs.Refusals.{first, ruled}
use Rattle.parties.specs.declared.Caller.{Caller}
use Rattle.parties.specs.declared.Standing.{Standing}

-- ---- a party, and who holds its slots, as their bits say it

-- "a party other than 1 and 2"
abbrev pub is_party : ℕ → Bool
is_party party = eqb party 1 || eqb party 2

-- a party other than these has no mark
abbrev pub mark_of : ℕ → ℕ
mark_of party = cond (eqb party 1) first_mark (cond (eqb party 2) second_mark nobody)

-- ---- a key as it is sent: "A key belongs to the party that sends it"

pub record Sent : Type 0 where
  pub caller : Caller
  pub bytes : List ℕ

abbrev pub sent : Caller → List ℕ → Sent
sent caller key = record { caller = caller; bytes = key }

abbrev pub key_for : Sent → Key
key_for key = key_of (mark_of key.caller.party) key.bytes

-- ---- slots

-- the slot is free, or one of the two parties'
abbrev pub is_ours : ℕ → Bool
is_ours holder = eqb holder nobody || (eqb holder first_mark || eqb holder second_mark)

-- not so: "a slot in use is neither party's"
unfoldable pub ours : List ℕ → Bool
ours w = every (λ s. is_ours (holder_of w s)) (slots_of w)

-- how many of the first n pass
unfoldable pub many : (ℕ → Bool) → ℕ → ℕ
many p zero = 0
many p (suc n) = many p n + cond (p n) 1 0

-- how many slots are held with mark m
unfoldable pub slots_held : List ℕ → ℕ → ℕ
slots_held w m = many (λ s. eqb (holder_of w s) m) (slots_of w)

-- of the caller's party: what it is promised, and what it holds
abbrev pub promised : Caller → ℕ
promised c = cond (eqb c.party 1) c.first c.second

abbrev pub holding : List ℕ → Caller → ℕ
holding w c = cond (eqb c.party 1) (slots_held w first_mark) (slots_held w second_mark)

-- ---- refusals

-- 16: "promises that together pass the room's slots or where either party holds more than its own"
unfoldable pub overdrawn : List ℕ → Caller → Bool
overdrawn w c = ltb (slots_of w) (c.first + c.second) || (ltb c.first (slots_held w first_mark) || ltb c.second (slots_held w second_mark))

-- 15 and 16, "judged after 7 in that order"
unfoldable pub turns : List ℕ → Caller → List (ℕ × Bool)
turns w c = (15, not (is_party c.party)) ∷ (16, overdrawn w c) ∷ []

-- 11, where a slot is needed: "the party already holds its promised number"
unfoldable pub none_left : List ℕ → Caller → Bool
none_left w c = leb (promised c) (holding w c)

-- what is judged of the parties alone: whether none of the slots in use "is neither party's" (5); where so, 15 and 16, and whether no slot is left
unfoldable pub standing_of : List ℕ → Caller → Standing
standing_of w c = record {
  ours = ours w;
  turned = cond (ours w) (ruled (first (turns w c))) (Ok tt);
  none = cond (ours w) (none_left w c) false;
}
