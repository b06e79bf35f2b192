-- What a call that passes refusals 1 to 7, 15 and 16 knows of its key's slot in an absolute room, and that each call's change can be carried out.
-- Assumes nothing.
use Rattle.std.specs.Prelude.{◌≡◌, Bool, ◌&&◌, List, ℕ, ◌+◌, ◌<◌, length, drop, ltb}
use Rattle.std.proofs.Math.Path.{refl, ap, subst}
use Rattle.std.proofs.Common.{sym, ◌∙◌, arith}
use Rattle.std.proofs.Math.Bool.{true, false, not, cond}
use Rattle.std.proofs.lemmas.Bool.{false≢true}
use borrow.Author.Tests.{ltb-true, ltb-false, leb-false}
use Rattle.common.specs.Limits.{cut_word}
use Rattle.common.specs.Refusals.{first, all-false}
use Rattle.settings.specs.Clock.{look_ticks, join_ticks}
use Rattle.settings.specs.declared.Settings.{Settings}
use Rattle.rules.specs.Buckets.{newest}
use Rattle.ring.specs.declared.Bucket.{Bucket}
use Rattle.layout.specs.Layout.{most_total}
use Rattle.ring.specs.Ring.{counts, sum_of, buckets}
use Rattle.ring.specs.View.{view-length}
use Rattle.room.specs.Room.{slots_of, ring_of, body_of, vacant}
use Rattle.parties.specs.Parties.{Sent, none_left}
use Rattle.change.specs.declared.Change.TheVariants.{Keep, Update, Take}
use Rattle.edit.specs.declared.Then.TheVariants.{Nothing, Increment}
use Rattle.change.specs.Words.{EditsAt, Applies}
use Rattle.edit.specs.Bodies.{Fits}
use Rattle.rules.specs.declared.RoomKind.TheVariants.{Absolute}
use Rattle.opened.specs.declared.Slot.{Slot}
use Rattle.opened.specs.Sound.{addressed}
use Rattle.opened.specs.Look.{look-series}
use Rattle.judge.specs.Judge.{Passed, slot_in, looked_in}
use Rattle.judge.proofs.Laws.{free-there}
use Rattle.plan.specs.Plan.{place_of, lacks_at, full_after, evicting, opening}
use Rattle.plan.specs.Looked.{known-looked}
use Rattle.plan.specs.Seen.{full-after}
use Rattle.plan.specs.Known.{Known, found, none, series-known, keeping-edits, evicting-edits, opening-edits}
use Rattle.rules.specs.Both.{overdue, passes, ring_full}
use Rattle.absolute_verdicts.specs.Opened.{may_in}
use Rattle.absolute_verdicts.specs.Seen.{has-series}
use Rattle.absolute_opened.specs.Opened.{leaving, inc_refusals, pick_change, get_change, ask_change, inc_change}
use Rattle.absolute_test.specs.Test.{gone_if, total_if, allowed_at}

-- ---- an increment fits where it meets neither 10 nor 12

pub fits_after : (r b t c k : ℕ) (x : Slot) (xs : List Bucket) → x.pass.buckets ≡ length xs → x.pass.newest_time ≡ (newest xs).time →
    passes c (counts (drop k xs)) ≡ false → full_after r b t k x ≡ false → Fits r b t c 0 (drop k xs)
unfolding passes ring_full
fits_after r b t c k x xs n e o f =
    let g : ring_full r b t (drop k xs) ≡ false = sym (full-after r b t k x xs n e) ∙ f in
    record {
      least = omega arith;
      total = ltb-false most_total (counts (drop k xs) + c) o;
      free = λ z. leb-false r (length (drop k xs)) (rw z at g);
    }

unknown-allowed : (n : ℕ) (x : Slot) → x.series ≡ false → allowed_at n x ≡ true
unfolding allowed_at
unknown-allowed n x e = rw e

module _ (s : Settings) (w : List ℕ) (t : ℕ) (key : Sent) (p : Passed Absolute s w t key) where
  -- ---- a known key

  known-inside : (slot_in s w t key).series ≡ true → addressed w key < slots_of w
  known-inside e = go (ltb (addressed w key) (slots_of w)) refl
    where
      go : (x : Bool) → ltb (addressed w key) (slots_of w) ≡ x → addressed w key < slots_of w
      go true h = ltb-true _ _ h
      go false h = absurd (false≢true (sym (ap (λ (y : Slot). y.series) (none Absolute s w t key p (ltb-false _ _ h))) ∙ e))

  pub known : (slot_in s w t key).series ≡ true → Known Absolute s w t (addressed w key) true (slot_in s w t key)
  known e = series-known Absolute s w t (addressed w key) (slot_in s w t key) (found Absolute s w t key p (known-inside e)) p.later e

  -- taking the expired buckets out, of the slot as it is or as a first look leaves it
  evicts-at : (out : Bool) (x : Slot) → ((slot_in s w t key).series ≡ true → Known Absolute s w t (addressed w key) out x) →
      (slot_in s w t key).series ≡ true → Applies w (slot_in s w t key).at (join_ticks s) t (Update (evicting x Nothing))
  evicts-at out x f e =
      subst (λ (n : ℕ). EditsAt w n (join_ticks s) t (evicting x Nothing)) (sym (known e).at-is)
      (evicting-edits Absolute s w t (addressed w key) out x p.room (f e) (join_ticks s) (evicting x Nothing) refl refl refl refl tt)

  pub evict-applies : (slot_in s w t key).series ≡ true → Applies w (slot_in s w t key).at (join_ticks s) t (Update (evicting (slot_in s w t key) Nothing))
  evict-applies = evicts-at true (slot_in s w t key) known

  pub known_look : (slot_in s w t key).series ≡ true →
      Known Absolute s w t (addressed w key) (overdue s t (buckets (ring_of w) (body_of w (addressed w key)))) (looked_in s w t key)
  known_look e = known-looked Absolute s w t (addressed w key) (slot_in s w t key) (known e)

  pub look-applies : (slot_in s w t key).series ≡ true → Applies w (slot_in s w t key).at (join_ticks s) t (Update (evicting (looked_in s w t key) Nothing))
  look-applies = evicts-at (overdue s t (buckets (ring_of w) (body_of w (addressed w key)))) (looked_in s w t key) known_look

  -- where it is said, or nothing
  picked-applies : (x : Slot) (y : Bool) → (y ≡ true → Applies w (slot_in s w t key).at (join_ticks s) t (Update (evicting x Nothing))) →
      Applies w (slot_in s w t key).at (join_ticks s) t (pick_change y (Update (evicting x Nothing)) Keep)
  picked-applies x true f = f refl
  picked-applies x false f = p.room

  pub get-applies : Applies w (slot_in s w t key).at (join_ticks s) t (get_change (slot_in s w t key))
  unfolding get_change
  get-applies = picked-applies (slot_in s w t key) (slot_in s w t key).series evict-applies

  pub ask-applies : (again : Bool) → Applies w (slot_in s w t key).at (join_ticks s) t (ask_change again (looked_in s w t key))
  unfolding get_change
  ask-applies true =
      picked-applies (looked_in s w t key) (looked_in s w t key).series (λ e. look-applies (sym (look-series (look_ticks s) t (slot_in s w t key)) ∙ e))
  ask-applies false = p.room

  -- an increment that is not refused, with the expired buckets out or not
  pub leaving-applies : (c : ℕ) (out : Bool) → (slot_in s w t key).series ≡ true → passes c (total_if out (slot_in s w t key)) ≡ false →
      full_after (ring_of w) (join_ticks s) t (gone_if out (slot_in s w t key)) (slot_in s w t key) ≡ false →
      EditsAt w (addressed w key) (join_ticks s) t (leaving out (slot_in s w t key) (Increment c 0))
  leaving-applies c out e o f = go out o f
    where
      xs : List Bucket
      xs = buckets (ring_of w) (body_of w (addressed w key))

      n : (slot_in s w t key).pass.buckets ≡ length (buckets (ring_of w) (body_of w (addressed w key)))
      n = (known e).measured.buckets-are ∙ sym (view-length (ring_of w) (body_of w (addressed w key)))

      go : (z : Bool) → passes c (total_if z (slot_in s w t key)) ≡ false →
          full_after (ring_of w) (join_ticks s) t (gone_if z (slot_in s w t key)) (slot_in s w t key) ≡ false →
          EditsAt w (addressed w key) (join_ticks s) t (leaving z (slot_in s w t key) (Increment c 0))
      go true o f =
          let k = known e in
          evicting-edits Absolute s w t (addressed w key) true (slot_in s w t key) p.room k (join_ticks s)
          (evicting (slot_in s w t key) (Increment c 0)) refl refl refl refl
          (fits_after (ring_of w) (join_ticks s) t c (slot_in s w t key).pass.expired (slot_in s w t key) (buckets (ring_of w) (body_of w (addressed w key))) n
          k.measured.newest-is (ap (passes c) (sym k.measured.total) ∙ o) f)
      go false o f =
          let k = known e in
          keeping-edits Absolute s w t (addressed w key) true (slot_in s w t key) p.room k (join_ticks s)
          (leaving false (slot_in s w t key) (Increment c 0)) refl refl refl refl
          (fits_after (ring_of w) (join_ticks s) t c 0 (slot_in s w t key) (buckets (ring_of w) (body_of w (addressed w key))) n k.measured.newest-is
          (ap (passes c) (sym (k.total-is ∙ k.now.total)) ∙ o) f)

  -- an unknown key's series begins
  pub opening-applies : (limit c total : ℕ) → passes c total ≡ false → vacant w < slots_of w →
      EditsAt w (vacant w) (join_ticks s) t (opening limit (Increment c 0) 0 0 1)
  unfolding passes sum_of
  opening-applies limit c total o h =
      opening-edits w (vacant w) p.room h (join_ticks s) t limit 0 0 1 (Increment c 0)
      (record { least = omega arith; total = omega (arith, ltb-false most_total (total + c) o); free = λ z. omega (arith, p.room.some) })

  -- its place: its slot, or a free one
  place_is : place_of w (slot_in s w t key) ≡ cond (slot_in s w t key).series (slot_in s w t key).at (vacant w)
  unfolding place_of
  place_is = ap (λ (z : Bool). cond z (slot_in s w t key).at (vacant w)) (has-series s w t key p)

  lacks-as : (none : Bool) → lacks_at none (slot_in s w t key) ≡ not (slot_in s w t key).series && none
  unfolding lacks_at
  lacks-as none = ap (λ (z : Bool). not z && none) (has-series s w t key p)

  -- an increment that is not refused, of a key that may or may not; an unknown one may
  pub inc-applies : (limit c : ℕ) (rated may out : Bool) → ((slot_in s w t key).series ≡ false → may ≡ true) →
      first (inc_refusals (ring_of w) (join_ticks s) t c rated may (lacks_at (none_left w key.caller) (slot_in s w t key)) out (slot_in s w t key)) ≡ 0 →
      Applies w (place_of w (slot_in s w t key)) (join_ticks s) t (inc_change limit c may out (slot_in s w t key) (looked_in s w t key))
  unfolding inc_refusals inc_change
  inc-applies limit c rated may out unknown h =
      let f = all-false _ (omega arith) h in
      subst (λ (n : ℕ). Applies w n (join_ticks s) t (inc_change limit c may out (slot_in s w t key) (looked_in s w t key))) (sym place_is)
      (go (slot_in s w t key).series refl may refl f.1.0 (sym (lacks-as (none_left w key.caller)) ∙ f.1.1.0) f.1.1.1.0)
    where
      go : (y : Bool) → (slot_in s w t key).series ≡ y → (z : Bool) → may ≡ z →
          z && passes c (total_if out (slot_in s w t key)) ≡ false → not y && none_left w key.caller ≡ false →
          z && full_after (ring_of w) (join_ticks s) t (gone_if out (slot_in s w t key)) (slot_in s w t key) ≡ false →
          Applies w (cond y (slot_in s w t key).at (vacant w)) (join_ticks s) t
          (pick_change y (pick_change z (Update (leaving out (slot_in s w t key) (Increment c 0))) (Update (evicting (looked_in s w t key) Nothing)))
          (Take (opening limit (Increment c 0) 0 0 1)))
      go true e true a o l f = subst (λ (n : ℕ). EditsAt w n (join_ticks s) t (leaving out (slot_in s w t key) (Increment c 0))) (sym (known e).at-is)
          (leaving-applies c out e o f)
      go true e false a o l f = look-applies e
      go false e true a o l f = opening-applies limit c (total_if out (slot_in s w t key)) o (free-there Absolute s w t key p l)
      go false e false a o l f = absurd (false≢true (sym a ∙ unknown e))

  -- by the rule
  pub may-unknown : (slot_in s w t key).series ≡ false → may_in s t (slot_in s w t key) ≡ true
  may-unknown e = unknown-allowed (cut_word (slot_in s w t key).limit) (looked_in s w t key) (look-series (look_ticks s) t (slot_in s w t key) ∙ e)
