-- A call with a key, decided on the key's slot: its own refusals and what it does are functions of that slot. What the judging function answered is turned
-- into what the call is told.
-- Assumes nothing.
use Rattle.std.specs.Prelude.{◌≡◌, refl, Bool, true, false, ◌||◌, List, ℕ, ◌<◌, ltb, Ok, Err}
use Rattle.std.proofs.Common.{sym, ap, subst, ◌∙◌, ltb-true, ltb-false}
use Rattle.std.proofs.lemmas.Bool.{false≢true}
use Rattle.common.specs.Refusals.{first}
use Rattle.settings.specs.Clock.{join_ticks}
use Rattle.settings.specs.declared.Settings.{Settings}
use Rattle.room.specs.Room.{slots_of}
use Rattle.parties.specs.Parties.{Sent, none_left}
use Rattle.change.specs.declared.Change.{Change}
use Rattle.change.specs.Words.{Applies}
use Rattle.rules.specs.declared.RoomKind.{RoomKind}
use Rattle.judge.specs.declared.Judged.{Judged}
use Rattle.opened.specs.declared.Slot.{Slot}
use Rattle.opened.specs.Sound.{addressed}
use Rattle.judge.specs.Judge.{early, judged, Passed, slot_in}
use Rattle.opened.specs.Slot.{has_slot}
use Rattle.judge.proofs.Laws.{judged-ok, passed}
use Rattle.common.specs.declared.refusal.Refusal.{Refusal}
use Rattle.judge.specs.Verdict.{Verdict, Told, call}
use Rattle.judge.proofs.Verdict.{call-refused, call-own, call-done}
use Rattle.plan.specs.Known.{Found, Known, found, none, at-as, series-known}

-- a call whose own refusals, and what it does, are functions of the slot
abbrev pub calls : {A : Type 0} → (ℕ → A) → RoomKind → Settings → List ℕ → ℕ → Sent → (Slot → List (ℕ × Bool)) → (Slot → Verdict A) → Verdict A
calls turned kind s w t key own does = call turned kind s w t key (own (slot_in s w t key)) (does (slot_in s w t key))

-- ---- not refused early

module _ (kind : RoomKind) (s : Settings) (w : List ℕ) (t : ℕ) (key : Sent) (j : Judged) (e : Ok j ≡ judged kind s w t key) where
  judged-none-early : early kind s w t key ≡ 0
  judged-none-early = (judged-ok kind s w t key false j e).0

  pub judged-passed : Passed kind s w t key
  judged-passed = passed kind s w t key judged-none-early

  pub judged-slot : j.slot ≡ slot_in s w t key
  judged-slot = (judged-ok kind s w t key false j e).1

  pub judged-none : j.none ≡ none_left w key.caller
  judged-none = (judged-ok kind s w t key false j e).2

  -- a change that applies at the key's slot
  pub judged-applies : (change : Slot → Change) → Applies w (slot_in s w t key).at (join_ticks s) t (change (slot_in s w t key)) →
      Applies w j.slot.at (join_ticks s) t (change j.slot)
  judged-applies change a = subst (λ (x : Slot). Applies w x.at (join_ticks s) t (change x)) (sym judged-slot) a

  module _ {A : Type 0} (turned : ℕ → A) (own : Slot → List (ℕ × Bool)) (does : Slot → Verdict A) where
    pub judged-own : (n : ℕ) → n ≡ first (own j.slot) → (n ≡ 0 → ⊥) → Told (calls turned kind s w t key own does) (turned n) w
    judged-own n f z =
        call-own turned kind s w t key (own (slot_in s w t key)) (does (slot_in s w t key)) n judged-none-early
        (f ∙ ap (λ (x : Slot). first (own x)) judged-slot) z

    pub judged-done : (r : A) (x : List ℕ) → first (own j.slot) ≡ 0 → Told (does j.slot) r x → Told (calls turned kind s w t key own does) r x
    judged-done r x f o =
        call-done turned kind s w t key (own (slot_in s w t key)) (does (slot_in s w t key)) r x judged-none-early
        (ap (λ (y : Slot). first (own y)) (sym judged-slot) ∙ f) (subst (λ (y : Slot). Told (does y) r x) judged-slot o)

-- refused early
module _ {A : Type 0} (turned : ℕ → A) (kind : RoomKind) (s : Settings) (w : List ℕ) (t : ℕ) (key : Sent) (own : Slot → List (ℕ × Bool))
    (does : Slot → Verdict A) where
  pub judged-early : (r : Refusal) → Err r ≡ judged kind s w t key → Told (calls turned kind s w t key own does) (turned r.0) w
  judged-early r e = call-refused turned kind s w t key (own (slot_in s w t key)) (does (slot_in s w t key)) false r e

-- ---- the key's slot is there, where it holds anything

pub true-or : (a b : Bool) → a ≡ true → a || b ≡ true
true-or true b e = refl
true-or false b e = absurd (false≢true e)

module _ (kind : RoomKind) (s : Settings) (w : List ℕ) (t : ℕ) (key : Sent) (p : Passed kind s w t key) where
  slot-there : has_slot (slot_in s w t key) ≡ true → addressed w key < slots_of w
  slot-there e = go (ltb (addressed w key) (slots_of w)) refl
    where
      go : (b : Bool) → ltb (addressed w key) (slots_of w) ≡ b → addressed w key < slots_of w
      go true h = ltb-true _ _ h
      go false h = absurd (false≢true (sym (ap (λ (x : Slot). has_slot x) (none kind s w t key p (ltb-false _ _ h))) ∙ e))

  pub found_at : has_slot (slot_in s w t key) ≡ true → Found kind s w t (slot_in s w t key).at (slot_in s w t key)
  found_at e =
      let x = slot_in s w t key in
      let f = found kind s w t key p (slot-there e) in
      subst (λ (at : ℕ). Found kind s w t at x) (sym (at-as kind s w t (addressed w key) x f)) f

  pub slot-within : has_slot (slot_in s w t key) ≡ true → (slot_in s w t key).at < slots_of w
  slot-within e = (found_at e).inside

  pub known_at : (slot_in s w t key).series ≡ true → Known kind s w t (slot_in s w t key).at true (slot_in s w t key)
  known_at e =
      let x = slot_in s w t key in
      series-known kind s w t x.at x (found_at (true-or x.series x.cached e)) p.later e
