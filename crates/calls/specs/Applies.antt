-- What delete, setting a rate and a set change can be carried out, where they are not refused.
-- Assumes nothing.
use Rattle.std.specs.Prelude.{◌≡◌, Bool, not, ◌&&◌, ◌||◌, cond, List, [], ℕ, ◌≤◌, ◌<◌}
use Rattle.std.proofs.Math.Path.{refl, subst}
use Rattle.std.proofs.Common.{sym, ◌∙◌, true≢false, arith}
use Rattle.std.proofs.Math.Bool.{true, false}
use Rattle.std.proofs.Math.Dec.{eqb}
use Rattle.settings.specs.Clock.{join_ticks}
use Rattle.settings.specs.declared.Settings.{Settings}
use Rattle.common.specs.declared.comparator.RateLimitComparator.{RateLimitComparator}
use Rattle.answers.specs.declared.HistoryUpdateMode.{HistoryUpdateMode}
use Rattle.answers.specs.declared.HistoryUpdateMode.TheVariants as mode
use Rattle.layout.specs.Layout.{most_total}
use Rattle.ring.specs.Ring.{count_of}
use Rattle.ring.specs.Sums.{sum-none}
use Rattle.rules.specs.declared.RoomKind.{RoomKind}
use Rattle.room.specs.Room.{Room, slots_of, ring_of}
use Rattle.parties.specs.Parties.{Sent, none_left}
use Rattle.edit.specs.declared.Then.TheVariants as then
use Rattle.change.specs.declared.Change.TheVariants.{Keep, Free, Update, Take}
use Rattle.change.specs.Words.{Applies, EditsAt}
use Rattle.edit.specs.Bodies.{Fits}
use Rattle.opened.specs.declared.Slot.{Slot}
use Rattle.judge.specs.Judge.{Passed, slot_in}
use Rattle.judge.proofs.Laws.{free-there}
use Rattle.opened.specs.Slot.{has_slot}
use Rattle.plan.specs.Known.{keeping-edits, evicting-edits, opening-edits}
use Rattle.plan.specs.Plan.{place_of, lacks_at, keeping, relimited}
use Rattle.shared_opened.specs.Opened.{deleting, used_with, limiting}
use Rattle.sets_opened.specs.Sets.{vain, idle_at, met_at, reset, begins, stored, setting}
use Rattle.calls.specs.Calls.{slot-within, known_at}

pub delete-applies : (kind : RoomKind) (s : Settings) (w : List ℕ) (t : ℕ) (key : Sent) → Passed kind s w t key →
    Applies w (slot_in s w t key).at (join_ticks s) t (deleting (slot_in s w t key))
unfolding deleting
delete-applies kind s w t key p = go (has_slot (slot_in s w t key)) refl
  where
    go : (b : Bool) → has_slot (slot_in s w t key) ≡ b → Applies w (slot_in s w t key).at (join_ticks s) t (cond b Free Keep)
    go true e = record { room = p.room; inside = slot-within kind s w t key p e }
    go false e = p.room

-- "Setting a rate touches only a known series"
pub rate-applies : (kind : RoomKind) (s : Settings) (w : List ℕ) (t : ℕ) (key : Sent) (limit : ℕ) → Passed kind s w t key →
    Applies w (slot_in s w t key).at (join_ticks s) t (limiting (slot_in s w t key) limit)
unfolding limiting
rate-applies kind s w t key limit p = go (slot_in s w t key).series refl
  where
    go : (b : Bool) → (slot_in s w t key).series ≡ b → Applies w (slot_in s w t key).at (join_ticks s) t
        (cond b (Update (relimited (keeping (slot_in s w t key) then.Nothing) limit (used_with (slot_in s w t key) limit))) Keep)
    go true e = keeping-edits kind s w t (slot_in s w t key).at true (slot_in s w t key) p.room (known_at kind s w t key p e)
        (join_ticks s) _ refl refl refl refl tt
    go false e = p.room

-- ---- tests that fail

or-false : (a b : Bool) → a || b ≡ false → (a ≡ false) × (b ≡ false)
or-false true b e = absurd (true≢false e)
or-false false b e = (refl, e)

-- a key whose set to 0 changes something is known
not-vain : (series : Bool) (count : ℕ) → eqb count 0 ≡ true → vain series count ≡ false → series ≡ true
not-vain true count h e = refl
not-vain false count h e = absurd (true≢false (sym h ∙ e))

pub busy-known : (x : Slot) (limit count : ℕ) (comparator : RateLimitComparator) (mode : HistoryUpdateMode) → eqb count 0 ≡ true →
    false ≡ idle_at x limit comparator count mode → x.series ≡ true
unfolding idle_at
busy-known x limit count comparator mode h e =
    let a = or-false (not (met_at x comparator)) _ (sym e) in
    let b = or-false (vain x.series count) _ a.1 in
    not-vain x.series count h b.0

pub known-has : (x : Slot) → x.series ≡ true → has_slot x ≡ true
known-has x e = rw e

pub cached-has : (x : Slot) → x.series ≡ false → x.cached ≡ true → has_slot x ≡ true
cached-has x e f = rw (e, f)

pub place-own : (w : List ℕ) (x : Slot) → has_slot x ≡ true → place_of w x ≡ x.at
unfolding place_of
place-own w x e = rw e

-- the party has a slot left, where one is needed
pub needs-left : (full : Bool) (x : Slot) → x.series ≡ false → x.cached ≡ false → not false && lacks_at full x ≡ false → full ≡ false
unfolding lacks_at
needs-left full x e f h = rw (e, f) at h

-- ---- the change

pub begins-fit : (w : List ℕ) (b t count : ℕ) → Room w → count ≤ most_total → Fits (ring_of w) b t count 0 []
begins-fit w b t count o m = record { least = omega arith; total = omega (arith, sum-none count_of); free = λ e. o.some }

module _ (kind : RoomKind) (s : Settings) (w : List ℕ) (t : ℕ) (key : Sent) (p : Passed kind s w t key) where
  -- so it is there
  pub place-free : (slot_in s w t key).series ≡ false → (slot_in s w t key).cached ≡ false →
      not false && lacks_at (none_left w key.caller) (slot_in s w t key) ≡ false → place_of w (slot_in s w t key) < slots_of w
  unfolding place_of
  place-free e f h =
      let l = free-there kind s w t key p (needs-left (none_left w key.caller) (slot_in s w t key) e f h) in
      let q : has_slot (slot_in s w t key) ≡ false = rw (e, f) in
      rw q l

  pub place-within : has_slot (slot_in s w t key) ≡ true → place_of w (slot_in s w t key) < slots_of w
  place-within e = omega (arith, place-own w (slot_in s w t key) e, slot-within kind s w t key p e)

  pub reset-applies : (limit count : ℕ) (mode : HistoryUpdateMode) → (slot_in s w t key).series ≡ true → count ≤ most_total →
      EditsAt w (slot_in s w t key).at (join_ticks s) t (reset (slot_in s w t key) limit count mode)
  reset-applies limit count mode.Replace e m = keeping-edits kind s w t (slot_in s w t key).at true (slot_in s w t key) p.room (known_at kind s w t key p e)
      (join_ticks s) _ refl refl refl refl m
  reset-applies limit count (mode.Preserve q) e m = evicting-edits kind s w t (slot_in s w t key).at true (slot_in s w t key) p.room
      (known_at kind s w t key p e) (join_ticks s) _ refl refl refl refl m

  pub begins-applies : (limit count factor time : ℕ) → count ≤ most_total → place_of w (slot_in s w t key) < slots_of w →
      EditsAt w (place_of w (slot_in s w t key)) (join_ticks s) t (begins limit count factor time)
  begins-applies limit count factor time m h =
      opening-edits w (place_of w (slot_in s w t key)) p.room h (join_ticks s) t limit factor time 1 (then.Increment count 0)
      (begins-fit w (join_ticks s) t count p.room m)

  stored-applies : (limit count : ℕ) (mode : HistoryUpdateMode) → count ≤ most_total →
      not false && lacks_at (none_left w key.caller) (slot_in s w t key) ≡ false →
      Applies w (place_of w (slot_in s w t key)) (join_ticks s) t (stored (slot_in s w t key) limit count mode)
  unfolding stored
  stored-applies limit count mode m f = go (slot_in s w t key).series refl (slot_in s w t key).cached refl
    where
      go : (a : Bool) → (slot_in s w t key).series ≡ a → (b : Bool) → (slot_in s w t key).cached ≡ b →
          Applies w (place_of w (slot_in s w t key)) (join_ticks s) t
          (cond a (Update (reset (slot_in s w t key) limit count mode))
          (cond b (Update (begins limit count (slot_in s w t key).factor (slot_in s w t key).factor_time)) (Take (begins limit count 0 0))))
      go true e b g = subst (λ (at : ℕ). EditsAt w at (join_ticks s) t (reset (slot_in s w t key) limit count mode))
          (sym (place-own w (slot_in s w t key) (known-has (slot_in s w t key) e))) (reset-applies limit count mode e m)
      go false e true g = begins-applies limit count (slot_in s w t key).factor (slot_in s w t key).factor_time m
          (place-within (cached-has (slot_in s w t key) e g))
      go false e false g = begins-applies limit count 0 0 m (place-free e g f)

  pub set-applies : (still : Bool) (limit count : ℕ) (comparator : RateLimitComparator) (mode : HistoryUpdateMode) →
      still ≡ idle_at (slot_in s w t key) limit comparator count mode → count ≤ most_total →
      not still && lacks_at (none_left w key.caller) (slot_in s w t key) ≡ false →
      Applies w (place_of w (slot_in s w t key)) (join_ticks s) t (setting (slot_in s w t key) still limit count mode)
  unfolding setting
  set-applies true limit count comparator mode e m f = p.room
  set-applies false limit count comparator mode e m f = go (eqb count 0) refl
    where
      go : (b : Bool) → eqb count 0 ≡ b → Applies w (place_of w (slot_in s w t key)) (join_ticks s) t (cond b Free (stored (slot_in s w t key) limit count mode))
      go true h = record {
        room = p.room;
        inside = place-within
            (known-has (slot_in s w t key) (busy-known (slot_in s w t key) limit count comparator mode h e));
      }
      go false h = stored-applies limit count mode m f
