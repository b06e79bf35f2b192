-- Clear: every slot of the caller's party is freed. It judges settings, lengths, whose the slots are, the reading and the caller alone.
-- Assumes nothing.
use Rattle.std.specs.Prelude.{◌≡◌, refl, Bool, true, false, not, ◌&&◌, List, ◌∷◌, ◌++◌, ℕ, ◌≤◌, ◌<◌, ltb, eqb, Result, Ok, Err}
use Rattle.std.proofs.Math.Path.{sym}
use Rattle.std.proofs.Common.{subst, ◌∙◌, arith}
use borrow.Author.Tests.{lt-ltb, le-ltb, eqb-true, eqb-false, ltb-false, not-false}
use Rattle.base.specs.Decides.{and-true}
use Rattle.common.specs.Refusals.{first, first_found, first-none, all-false, refuse}
use Rattle.settings.specs.Settings.{faults}
use Rattle.settings.specs.declared.Settings.{Settings}
use Rattle.room.specs.Room.{Room, sized, last_of, with_reading, cleared}
use Rattle.room.specs.Laws.{room-sized, sized-room}
use Rattle.parties.specs.declared.Caller.{Caller}
use Rattle.parties.specs.Parties.{mark_of, is_party, ours, turns}
use Rattle.judge.proofs.Laws.{faults-positive}
use Rattle.judge.specs.Verdict.{Verdict, verdict, unless_refused, Told}
use Rattle.judge.proofs.Verdict.{told-turned, told-done}
use Rattle.common.specs.declared.refusal.Refusal.{Refusal}

-- "clear judges lengths only"; 5 is given, "by clear too, where a slot in use is neither party's"; 6: "the reading is below the last of a call not refused"
unfoldable pub unclear : List ℕ → ℕ → Caller → List (ℕ × Bool)
unclear w t c = (5, not (sized w && ours w)) ∷ (6, ltb t (last_of w)) ∷ turns w c

abbrev pub clear_refusal : Settings → List ℕ → ℕ → Caller → ℕ
clear_refusal s w t c = first (faults s ++ unclear w t c)

-- "Clear removes the caller's keys only": its party's slots are free then, and no other word changes but the last reading
abbrev pub clear : Settings → List ℕ → ℕ → Caller → Verdict (Result (Unit {0}) Refusal)
clear s w t c = unless_refused refuse (clear_refusal s w t c) w (verdict (Ok tt) (with_reading (cleared w (mark_of c.party)) t))

-- ---- its number

module _ (s : Settings) (w : List ℕ) (t : ℕ) (c : Caller) where
  pub clear-fault : (n : ℕ) → n ≡ first (faults s) → (n ≡ 0 → ⊥) → n ≡ clear_refusal s w t c
  clear-fault n e z = e ∙ sym (first_found (faults s) (unclear w t c) (λ f. z (e ∙ f)))

  past : first (faults s) ≡ 0 → clear_refusal s w t c ≡ first (unclear w t c)
  past e = first-none (faults s) (unclear w t c) (faults-positive s) e

  pub clear-lengths : first (faults s) ≡ 0 → sized w ≡ false → 5 ≡ clear_refusal s w t c
  unfolding unclear first
  clear-lengths p e = sym (past p ∙ rw e)

  pub clear-stray : first (faults s) ≡ 0 → Room w → ours w ≡ false → 5 ≡ clear_refusal s w t c
  unfolding unclear first
  clear-stray p o a = sym (past p ∙ rw (room-sized w o, a))

  pub clear-reading : first (faults s) ≡ 0 → Room w → ours w ≡ true → t < last_of w → 6 ≡ clear_refusal s w t c
  unfolding unclear first
  clear-reading p o a l = sym (past p ∙ rw (room-sized w o, a, lt-ltb t (last_of w) l))

  -- past 6
  pub clear-late : first (faults s) ≡ 0 → Room w → ours w ≡ true → last_of w ≤ t → clear_refusal s w t c ≡ first (turns w c)
  unfolding unclear first
  clear-late p o a l = past p ∙ rw (room-sized w o, a, le-ltb t (last_of w) l)

  fault-none : clear_refusal s w t c ≡ 0 → first (faults s) ≡ 0
  fault-none e = go (eqb (first (faults s)) 0) refl
    where
      go : (b : Bool) → eqb (first (faults s)) 0 ≡ b → first (faults s) ≡ 0
      go true h = eqb-true _ _ h
      go false h = sym (first_found (faults s) (unclear w t c) (eqb-false _ _ h)) ∙ e

  -- what holds of a clear that is not refused
  pub record Clears : Type 0 where
    pub room : Room w
    pub later : last_of w ≤ t
    pub theirs : ours w ≡ true
    pub party : is_party c.party ≡ true

  pub clear-passed : clear_refusal s w t c ≡ 0 → Clears
  unfolding unclear turns
  clear-passed e =
      let f = all-false (unclear w t c) (omega arith) (sym (past (fault-none e)) ∙ e) in
      let q = and-true (sized w) (ours w) (not-false _ f.0) in
      record { room = sized-room w q.0; later = ltb-false _ _ f.1.0; theirs = q.1; party = not-false _ f.1.1.0 }

  pub clear_room : clear_refusal s w t c ≡ 0 → Room w
  clear_room e = (clear-passed e).room

  -- ---- what it is told
  pub clear-refused : (n : ℕ) → n ≡ clear_refusal s w t c → (n ≡ 0 → ⊥) → Told (clear s w t c) (refuse n) w
  clear-refused n e z =
      subst (λ (m : ℕ). Told (unless_refused refuse m w (verdict (Ok tt) (with_reading (cleared w (mark_of c.party)) t))) (refuse n) w) e
      (told-turned refuse n w (verdict (Ok tt) (with_reading (cleared w (mark_of c.party)) t)) z)

  pub clear-done : (x : List ℕ) → clear_refusal s w t c ≡ 0 → x ≡ with_reading (cleared w (mark_of c.party)) t → Told (clear s w t c) (Ok tt) x
  clear-done x e p =
      told-done refuse (clear_refusal s w t c) w (verdict (Ok tt) (with_reading (cleared w (mark_of c.party)) t)) (Ok tt) x e (record { answer = refl; words = p })
