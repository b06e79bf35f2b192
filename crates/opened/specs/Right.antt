-- Soundness of a slot as the code judges it, on the opened slot; it is `sound_slot` of the words.
-- Assumes nothing.
use Rattle.std.specs.Prelude.{◌≡◌, Bool, ◌&&◌, ◌||◌, cond, List, ℕ, ◌≤◌, ◌<◌, length, leb, ltb}
use Rattle.std.proofs.Math.Path.{refl}
use Rattle.std.proofs.Common.{sym, ap, ◌∙◌, arith, lt-ltb, le-ltb, ltb-false}
use Rattle.std.proofs.Math.Bool.{true, false, not}
use Rattle.suppression.specs.Factor.{factor_word_ok}
use Rattle.common.specs.Limits.{limit_ok}
use Rattle.settings.specs.Settings.{window_in, factor_in}
use Rattle.settings.specs.Clock.{window_ticks}
use Rattle.settings.specs.declared.Settings.{Settings}
use Rattle.sweep.specs.Sweep.{found, unsound, pick, pass_of}
use Rattle.ring.specs.Ring.{declined_of, len_of, buckets}
use Rattle.ring.specs.Sound.{sound_buckets}
use Rattle.room.specs.Room.{Room, slots_of, ring_of, last_of, use_of, key_sound, find, body_of}
use Rattle.frame.specs.Keys.{Bytes}
use Rattle.frame.specs.Distinct.{has-sound, find-le, find-has}
use Rattle.parties.specs.Parties.{Sent, key_for, mark_of}
use Rattle.rules.specs.declared.RoomKind.{RoomKind}
use Rattle.opened.specs.declared.Slot.{Slot}
use Rattle.opened.specs.Sound.{limit_of, has_series, has_cached, right_use, declined_right, sound_series, sound_cached, sound_slot, addressed, sound_at}
use Rattle.rules.specs.Both.{divisor}
use Rattle.opened.specs.Slot.{no_slot, pick_pass, opened, pick_slot, slot_of, first_look}
use Rattle.opened.specs.Look.{by-look, look_at}

unfoldable pub series_right : RoomKind → Settings → Slot → Bool
series_right kind s x =
    not x.series || (x.pass.sound && (declined_right kind x.declined && limit_ok (window_in s) (divisor kind (factor_in s)) x.limit))

unfoldable pub cached_right : ℕ → Slot → Bool
cached_right last x = not x.cached || (factor_word_ok x.factor && leb x.factor_time last)

unfoldable pub slot_right : RoomKind → Settings → ℕ → ℕ → Slot → Bool
slot_right kind s last u x = right_use kind u && (series_right kind s x && cached_right last x)

-- x is the slot that a key addresses, as some look leaves it
pub record Addresses (w : List ℕ) (key : Sent) (s : Settings) (x : Slot) : Type 0 where
  pub room : Room w
  pub reading : ℕ
  pub look : ℕ
  pub is : x ≡ first_look look reading (slot_of (window_ticks s) w reading (addressed w key))

-- a look changes nothing that is judged
look-right : (kind : RoomKind) (s : Settings) (last u look t : ℕ) (x : Slot) → slot_right kind s last u (first_look look t x) ≡ slot_right kind s last u x
unfolding slot_right series_right cached_right
look-right kind s last u look t x = by-look look t x (λ (y : Slot). slot_right kind s last u y ≡ slot_right kind s last u x) refl refl

-- ---- the words' soundness

pass-sound : (r : ℕ) (b : List ℕ) (last t w : ℕ) → (pass_of r b last t w).sound ≡ sound_buckets r b last
unfolding pass_of
pass-sound r b last t w = go (sound_buckets r b last)
  where
    go : (x : Bool) → (pick x (found (len_of b) (buckets r b) t w) unsound).sound ≡ x
    go true = refl
    go false = refl

module _ (kind : RoomKind) (s : Settings) (W r last t at u : ℕ) (b : List ℕ) where
  series-is : series_right kind s (opened W r last t at u b) ≡ not (has_series u) || sound_series kind s r last b
  unfolding series_right opened sound_series
  series-is = go (has_series u)
    where
      go :
          (x : Bool) →
          not x || ((pick_pass x (pass_of r b last t W)).sound &&
          (declined_right kind (declined_of b) && limit_ok (window_in s) (divisor kind (factor_in s)) (limit_of b))) ≡
          not x || (sound_buckets r b last && (declined_right kind (declined_of b) && limit_ok (window_in s) (divisor kind (factor_in s)) (limit_of b)))
      go true = rw (pass-sound r b last t W)
      go false = refl

  cached-is : cached_right last (opened W r last t at u b) ≡ not (has_cached u) || sound_cached last b
  unfolding cached_right opened sound_cached
  cached-is = refl

-- a slot whose key is sound
pub right_is : (kind : RoomKind) (s : Settings) (W t : ℕ) (w : List ℕ) (at : ℕ) → key_sound w at ≡ true →
    slot_right kind s (last_of w) (use_of w at) (opened W (ring_of w) (last_of w) t at (use_of w at) (body_of w at)) ≡ sound_slot kind s w at
unfolding slot_right sound_slot
right_is kind s W t w at k =
    rw (series-is kind s W (ring_of w) (last_of w) t at (use_of w at) (body_of w at), cached-is kind s W (ring_of w) (last_of w) t at (use_of w at) (body_of w at), k)

-- ---- the slot that a key addresses

pub slot-here : (W t : ℕ) (w : List ℕ) (at : ℕ) → at < slots_of w → slot_of W w t at ≡ opened W (ring_of w) (last_of w) t at (use_of w at) (body_of w at)
unfolding slot_of
slot-here W t w at h = rw (lt-ltb at (slots_of w) h)

pub slot-none : (W t : ℕ) (w : List ℕ) (at : ℕ) → slots_of w ≤ at → slot_of W w t at ≡ no_slot (slots_of w)
unfolding slot_of
slot-none W t w at h = rw (le-ltb at (slots_of w) h)

-- where a slot is that is there
slot_at : (W t : ℕ) (w : List ℕ) (at : ℕ) → at ≤ slots_of w → (slot_of W w t at).at ≡ at
unfolding slot_of opened
slot_at W t w at h = go (ltb at (slots_of w)) refl
  where
    go : (x : Bool) → ltb at (slots_of w) ≡ x → (pick_slot x (opened W (ring_of w) (last_of w) t at (use_of w at) (body_of w at)) (no_slot (slots_of w))).at ≡ at
    go true e = refl
    go false e = omega (arith, ltb-false at (slots_of w) e)

pub addressed-le : (w : List ℕ) (key : Sent) → addressed w key ≤ slots_of w
unfolding addressed
addressed-le w key = go (ltb 32 (length key.bytes))
  where
    go : (x : Bool) → cond x (slots_of w) (find w (key_for key)) ≤ slots_of w
    go true = omega arith
    go false = find-le w (key_for key)

pub slot-addressed : (W t : ℕ) (w : List ℕ) (key : Sent) → (slot_of W w t (addressed w key)).at ≡ addressed w key
slot-addressed W t w key = slot_at W t w (addressed w key) (addressed-le w key)

pub addressed-at : (w : List ℕ) (key : Sent) (s : Settings) (x : Slot) → Addresses w key s x → x.at ≡ addressed w key
addressed-at w key s x a =
    ap (λ (y : Slot). y.at) a.is ∙ look_at a.look a.reading (slot_of (window_ticks s) w a.reading (addressed w key)) ∙
    slot-addressed (window_ticks s) a.reading w key

-- its key is the one that was looked for
pub addressed-key : (w : List ℕ) (key : Sent) → Bytes key.bytes → addressed w key < slots_of w → key_sound w (addressed w key) ≡ true
unfolding addressed
addressed-key w key y h = go (ltb 32 (length key.bytes)) refl h
  where
    go : (x : Bool) → ltb 32 (length key.bytes) ≡ x → cond x (slots_of w) (find w (key_for key)) < slots_of w →
        key_sound w (cond x (slots_of w) (find w (key_for key))) ≡ true
    go true e l = absurd (omega arith)
    go false e l = has-sound w (mark_of key.caller.party) key.bytes (find w (key_for key)) y (ltb-false 32 (length key.bytes) e)
        (find-has w (key_for key) l)

pub sound_none : (kind : RoomKind) (s : Settings) (w : List ℕ) (key : Sent) (x : Slot) → Addresses w key s x → slots_of w ≤ x.at →
    true ≡ sound_at kind s w (addressed w key)
unfolding sound_at
sound_none kind s w key x a h = rw (le-ltb (addressed w key) (slots_of w) (omega (arith, addressed-at w key s x a)))

pub sound-some : (kind : RoomKind) (s : Settings) (w : List ℕ) (key : Sent) (x : Slot) (y : Bool) → Bytes key.bytes → Addresses w key s x →
    x.at < slots_of w →
    y ≡ slot_right kind s (last_of w) (use_of w x.at) x → y ≡ sound_at kind s w (addressed w key)
unfolding sound_at
sound-some kind s w key x y z a h e =
    let at = addressed w key in
    let p : x.at ≡ at = addressed-at w key s x a in
    let l : at < slots_of w = omega arith in
    e ∙
    ap (λ (n : ℕ). slot_right kind s (last_of w) (use_of w n) x) p ∙
    ap (slot_right kind s (last_of w) (use_of w at)) a.is ∙
    look-right kind s (last_of w) (use_of w at) a.look a.reading (slot_of (window_ticks s) w a.reading at) ∙
    ap (slot_right kind s (last_of w) (use_of w at)) (slot-here (window_ticks s) a.reading w at l) ∙
    right_is kind s (window_ticks s) a.reading w at (addressed-key w key z l) ∙
    sym (rw (lt-ltb at (slots_of w) l))
