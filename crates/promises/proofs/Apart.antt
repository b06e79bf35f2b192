-- Non-interference reaches the read-out: after two histories as `Apart` speaks of them, each of the party's keys is read out the same.
-- Assumes nothing.
use Rattle.std.specs.Prelude.{◌≡◌, refl, Bool, true, false, not, ◌&&◌, cond, List, [], ◌∷◌, ◌++◌, ℕ, eqb, ltb, length, Ok}
use Rattle.std.proofs.Common.{sym, ap, ◌∙◌}
use Rattle.common.specs.Refusals.{first, refuse}
use Rattle.settings.specs.Settings.{faults}
use Rattle.settings.specs.declared.Settings.{Settings}
use Rattle.ring.specs.declared.Bucket.{Bucket}
use Rattle.ring.specs.Ring.{buckets}
use Rattle.rules.specs.declared.RoomKind.{RoomKind}
use Rattle.room.specs.Room.{slots_of, ring_of, use_of, body_of, fits, empty}
use Rattle.parties.specs.Parties.{Sent, is_party}
use Rattle.opened.specs.Sound.{has_series, addressed}
use Rattle.judge.specs.Held.{held_in}
use Rattle.finding.specs.Finding.{refusal, buckets_of}
use Rattle.readout.specs.Row.{laid}
use Rattle.readout.specs.ReadOut.{read_out}
use Rattle.places.specs.SoundRoom.{SoundRoom, five-unmet}
use Rattle.steps.specs.Ops.{Call, words}
use Rattle.apart.specs.Apart.{picked, Rising, AllGive, AllBytes, SameCalls}
use Rattle.apart.proofs.Apart.{held-apart, sane-apart}

-- what is shown of a key is what it holds
buckets-held : (w : List ℕ) (key : Sent) → buckets_of w key ≡ (held_in w key).buckets
unfolding buckets_of held_in
buckets-held w key = go (ltb (addressed w key) (slots_of w))
  where
    go : (z : Bool) → cond (z && has_series (use_of w (addressed w key))) (buckets (ring_of w) (body_of w (addressed w key))) [] ≡
        cond (has_series (cond z (use_of w (addressed w key)) 0)) (buckets (ring_of w) (body_of w (addressed w key))) []
    go true = refl
    go false = refl

-- a sound room turns a read-out away by the settings, the key and the party alone
refusal-same : (k : RoomKind) (s : Settings) (w v : List ℕ) (key : Sent) → SoundRoom k s w → SoundRoom k s v → refusal k s w key ≡ refusal k s v key
unfolding refusal
refusal-same k s w v key o p =
    let five = five-unmet k s w key o ∙ sym (five-unmet k s v key p) in
    (λ i. first (faults s ++ ((5, not (five i)) ∷ (7, ltb 32 (length key.bytes)) ∷ (15, not (is_party key.caller.party)) ∷ [])))

same_read : (k : RoomKind) (s : Settings) (w v : List ℕ) (key : Sent) (row : List Bucket) → refusal k s w key ≡ refusal k s v key →
    buckets_of w key ≡ buckets_of v key → read_out k s w key row ≡ read_out k s v key row
unfolding read_out
same_read k s w v key row e f =
    λ i. record {
      answer = cond (eqb (e i) 0) (Ok (length (f i))) (refuse (e i));
      row = cond (eqb (e i) 0) (laid (f i) row) row;
    }

-- the answer, and the row lent beside it
pub read-apart : (k : RoomKind) (s : Settings) (p a b slots ring l : ℕ) → is_party p ≡ true → fits slots ring l ≡ true →
    (cs ds : List (Call k)) → AllBytes cs → AllBytes ds → (u : ℕ) → Rising u cs → Rising u ds → AllGive a b cs → AllGive a b ds →
    SameCalls k s (picked p cs) (picked p ds) → (key : Sent) → key.caller.party ≡ p → (row : List Bucket) →
    read_out k s (words k s (empty slots ring) cs) key row ≡ read_out k s (words k s (empty slots ring) ds) key row
read-apart k s p a b slots ring l y e cs ds by by' u r r' g g' q key m row =
    let w = words k s (empty slots ring) cs in
    let v = words k s (empty slots ring) ds in
    let h = held-apart k s p a b slots ring l y e cs ds by by' u r r' g g' q key m in
    same_read k s w v key row
    (refusal-same k s w v key (sane-apart k s p a b slots ring l y e cs by u r g).sound (sane-apart k s p a b slots ring l y e ds by' u r' g').sound)
    (buckets-held w key ∙ ap (λ h. h.buckets) h ∙ sym (buckets-held v key))
