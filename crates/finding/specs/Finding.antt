-- What the read-out finds: its refusal, the key's slot, and the buckets to show, for every input.
-- Assumes nothing.
use Rattle.std.specs.Prelude.{Result, ◌≡◌, not, ◌&&◌, cond, List, [], ◌∷◌, ◌++◌, ℕ, ◌<◌, length, ltb, eqb}
use Rattle.common.specs.Refusals.{first, unless}
use Rattle.common.specs.declared.refusal.Refusal.{Refusal}
use Rattle.settings.specs.Settings.{faults}
use Rattle.settings.specs.declared.Settings.{Settings}
use Rattle.rules.specs.declared.RoomKind.{RoomKind}
use Rattle.opened.specs.Sound.{has_series, addressed, sound_at}
use Rattle.ring.specs.declared.Bucket.{Bucket}
use Rattle.ring.specs.Ring.{buckets, Shape}
use Rattle.room.specs.Room.{Room, sized, slots_of, ring_of, use_of, body_of}
use Rattle.parties.specs.declared.Caller.{Caller}
use Rattle.parties.specs.Parties.{Sent, sent, is_party, ours}
use Rattle.parties.specs.Census.{census_of}
use Rattle.finding.specs.declared.Found.{Found}

-- ---- who reads

-- a party that is promised nothing: the read-out takes no slot
abbrev pub reader : ℕ → Caller
reader party = record { party = party; first = 0; second = 0 }

-- a key as the read-out is asked for it
abbrev pub asked : ℕ → List ℕ → Sent
asked party key = sent (reader party) key

-- ---- what it shows

-- "It takes settings, no reading; its refusals are 1 to 5 and 7", and 15 of the party, "judged after 7": the first that holds, or 0
unfoldable pub refusal : RoomKind → Settings → List ℕ → Sent → ℕ
refusal kind s w key =
    let unsound = not (sized w && (ours w && sound_at kind s w (addressed w key))) in
    first (faults s ++ ((5, unsound) ∷ (7, ltb 32 (length key.bytes)) ∷ (15, not (is_party key.caller.party)) ∷ []))

-- a key's buckets, "oldest first, expired ones too"; "a key is unknown while it has no series", and then there are none
unfoldable pub buckets_of : List ℕ → Sent → List Bucket
buckets_of w key =
    let at = addressed w key in
    cond (ltb at (slots_of w) && has_series (use_of w at)) (buckets (ring_of w) (body_of w at)) []

-- ---- what the code finds first

-- each party promised just the slots that it holds: the reader as `judge` is told of it, for whom 16 is not met
abbrev pub as_held : List ℕ → ℕ → Caller
as_held w party = record { party = party; first = cond (sized w) (census_of w).first 0; second = cond (sized w) (census_of w).second 0 }

-- turned away, or the key's slot with the number of its buckets
unfoldable pub found : RoomKind → Settings → List ℕ → Sent → Result Found Refusal
found kind s w key = unless (refusal kind s w key) (record { slot = addressed w key; count = length (buckets_of w key) })

-- a slot whose buckets can be read
pub record Readable (w : List ℕ) (at : ℕ) : Type 0 where
  pub room : Room w
  pub inside : at < slots_of w
  pub shape : Shape (ring_of w) (body_of w at)

-- and its buckets are xs
pub record Reads (w : List ℕ) (at : ℕ) (xs : List Bucket) : Type 0 where
  pub readable : Readable w at
  pub view : buckets (ring_of w) (body_of w at) ≡ xs
