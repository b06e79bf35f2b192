-- A sound room: its lengths are right, and every slot in use is a party's and sound. An empty room is, and a call on a sound room does not meet 5
-- (`empty-sound`, `five-unmet`).
-- Assumes nothing.
use Rattle.std.specs.Prelude.{◌≡◌, refl, Bool, true, false, not, ◌||◌, ◌&&◌, cond, List, ◌≢◌, ℕ, ◌≤◌, ◌<◌, ltb, length}
use Rattle.std.proofs.Common.{ap, ◌∙◌, arith, ltb-true}
use Rattle.base.specs.Decides.{true-and}
use Rattle.settings.specs.declared.Settings.{Settings}
use Rattle.room.specs.Room.{Room, slots_of, ring_of, last_of, holder_of, use_of, find, body_of, sized, fits, empty}
use Rattle.keys.specs.Keys.{key_fits}
use Rattle.room.specs.Laws.{room-sized}
use Rattle.frame.specs.Distinct.{find-held}
use Rattle.frame.specs.Whole.{empty-free, empty-room}
use Rattle.parties.specs.Parties.{Sent, key_for, ours}
use Rattle.parties.proofs.Laws.{none, all-ours}
use Rattle.rules.specs.declared.RoomKind.{RoomKind}
use Rattle.opened.specs.Sound.{right_use, has_series, has_cached, sound_series, sound_cached, sound_slot, addressed, sound_at}
use Rattle.cleanup.specs.Laws.{sound-parts, parts-sound}
use Rattle.leaves.proofs.Cleanup.{series-later, cached-later}
use Rattle.places.specs.Has.{Untouched}

-- the lengths are right, no "slot in use is neither party's", and "a slot is sound if .." of every slot in use
pub record SoundRoom (kind : RoomKind) (s : Settings) (w : List ℕ) : Type 0 where
  pub room : Room w
  pub theirs : ours w ≡ true
  pub slots : (i : ℕ) → i < slots_of w → holder_of w i ≢ 0 → sound_slot kind s w i ≡ true

-- ---- a slot whose words stay is sound at a later reading

still : (a p q : Bool) → (p ≡ true → q ≡ true) → not a || p ≡ true → not a || q ≡ true
still true p q f e = f e
still false p q f e = refl

module _ (kind : RoomKind) (s : Settings) (w v : List ℕ) (ring : ring_of v ≡ ring_of w) (later : last_of w ≤ last_of v) where
  pub slot-later : (i : ℕ) → Untouched w v i → sound_slot kind s w i ≡ true → sound_slot kind s v i ≡ true
  slot-later i o e =
      let p = sound-parts kind s w i e in
      let series : not (has_series (use_of w i)) || sound_series kind s (ring_of w) (last_of v) (body_of w i) ≡ true =
      still (has_series (use_of w i)) (sound_series kind s (ring_of w) (last_of w) (body_of w i)) (sound_series kind s (ring_of w) (last_of v) (body_of w i))
      (series-later kind s (ring_of w) (last_of w) (last_of v) (body_of w i) later) p.series in
      let cached : not (has_cached (use_of w i)) || sound_cached (last_of v) (body_of w i) ≡ true =
      still (has_cached (use_of w i)) (sound_cached (last_of w) (body_of w i)) (sound_cached (last_of v) (body_of w i))
      (cached-later (last_of w) (last_of v) (body_of w i) later) p.cached in
      parts-sound kind s v i
      (record {
        key = ap key_fits o.key ∙ p.key;
        uses = ap (right_use kind) o.used ∙ p.uses;
        series = ap (λ (y : ℕ). not (has_series y) || sound_series kind s (ring_of v) (last_of v) (body_of v i)) o.used ∙
            ap (λ (r : ℕ). not (has_series (use_of w i)) || sound_series kind s r (last_of v) (body_of v i)) ring ∙
            ap (λ (y : List ℕ). not (has_series (use_of w i)) || sound_series kind s (ring_of w) (last_of v) y) o.body ∙ series;
        cached = ap (λ (y : ℕ). not (has_cached y) || sound_cached (last_of v) (body_of v i)) o.used ∙
            ap (λ (y : List ℕ). not (has_cached (use_of w i)) || sound_cached (last_of v) y) o.body ∙ cached;
      })

-- ---- an empty room is sound, and a sound one does not meet 5

pub empty-sound : (kind : RoomKind) (s : Settings) (slots ring l : ℕ) → fits slots ring l ≡ true → SoundRoom kind s (empty slots ring)
empty-sound kind s slots ring l e = record {
  room = empty-room slots ring l e;
  theirs = all-ours (empty slots ring) (λ i h. none (empty-free slots ring i));
  slots = λ i h n. absurd (n (empty-free slots ring i));
}

-- the slot that a key addresses is in use
pub addressed-held : (w : List ℕ) (key : Sent) → addressed w key < slots_of w → holder_of w (addressed w key) ≢ 0
unfolding addressed
addressed-held w key h = go (ltb 32 (length key.bytes)) h
  where
    go : (x : Bool) → cond x (slots_of w) (find w (key_for key)) < slots_of w → holder_of w (cond x (slots_of w) (find w (key_for key))) ≢ 0
    go true l = absurd (omega arith)
    go false l = find-held w (key_for key) l

-- "the room's lengths are wrong, or the slot addressed is unsound": neither, whatever the key
pub five-unmet : (kind : RoomKind) (s : Settings) (w : List ℕ) (key : Sent) → SoundRoom kind s w → sized w &&
    (ours w && sound_at kind s w (addressed w key)) ≡ true
unfolding sound_at
five-unmet kind s w key o =
    true-and (sized w) _ (room-sized w o.room) (true-and (ours w) _ o.theirs (go (ltb (addressed w key) (slots_of w)) refl))
  where
    go : (b : Bool) → ltb (addressed w key) (slots_of w) ≡ b → cond b (sound_slot kind s w (addressed w key)) true ≡ true
    go true e = let h = ltb-true (addressed w key) (slots_of w) e in o.slots (addressed w key) h (addressed-held w key h)
    go false e = refl
