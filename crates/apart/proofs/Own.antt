-- A room in which one party alone calls stays that party's, whatever it calls and whatever its readings are: no slot ever becomes the other's.
-- `Alone` says so where readings never fall; here calls may be turned away with 6 in between.
-- Assumes nothing.
use Rattle.std.specs.Prelude.{◌≡◌, refl, Bool, false, List, ◌≢◌, ℕ, zero, suc, ◌<◌, eqb}
use Rattle.std.proofs.Common.{sym, subst, ◌∙◌, arith, ne_eqb}
use Rattle.std.proofs.Math.Decide.{ℕ_discrete}
use Rattle.settings.specs.Clock.{ticks_in, join_ticks}
use Rattle.settings.specs.declared.Settings.{Settings}
use Rattle.layout.specs.Layout.{second_mark}
use Rattle.room.specs.Room.{slots_of, holder_of, empty}
use Rattle.frame.specs.Distinct.{changed-holder}
use Rattle.frame.specs.Frame.{key-holder}
use Rattle.frame.specs.Whole.{clear-read-run, empty-free}
use Rattle.parties.specs.Parties.{Sent, mark_of, many, slots_held}
use Rattle.rules.specs.declared.RoomKind.{RoomKind}
use Rattle.change.specs.declared.Change.{Change}
use Rattle.change.specs.declared.Change.TheVariants.{Keep, Free, Update, Take}
use Rattle.change.specs.Words.{applied}
use Rattle.leaves.specs.Calls.{free-changed, update-changed, take-changed}
use Rattle.leaves.proofs.Cleanup.{clean_run}
use Rattle.steps.specs.Moves.{Does}
use Rattle.steps.specs.Ops.{Op, slot_of, touches}
use Rattle.steps.specs.Step as Steps
use Rattle.steps.specs.Step.{Step, refused, changed, cleaned}
use Rattle.steps.specs.Leaves.{sent-holder, keep-untouched, others, around}
use Rattle.steps.specs.Sound.{Kept, gone, same}
use Rattle.steps.proofs.Sound.{cleaned-holder, cleared-holder}
use Rattle.steps.specs.History.{Sane}
use Rattle.apart.specs.Alone.{Alone, as_first}
use Rattle.apart.specs.Own.{NoneOf}

module _ (m : ℕ) (z : m ≢ 0) where
  pub none-empty : (slots ring : ℕ) → NoneOf m (empty slots ring)
  none-empty slots ring i h e = z (sym e ∙ empty-free slots ring i)

  kept-none : {a b : ℕ} → Kept a b → a ≢ m → b ≢ m
  kept-none (gone e) n q = z (sym q ∙ e)
  kept-none (same e) n q = n (sym e ∙ q)

  module _ (kind : RoomKind) (s : Settings) (w : List ℕ) (t : ℕ) (o : NoneOf m w) where
    module _ (key : Sent) (at : ℕ) (n : mark_of key.caller.party ≢ m) where
      here : (change : Change) → Does kind s w t key at change → at < slots_of w → holder_of (applied w at key (join_ticks s) t change) at ≢ m
      here Keep d h e = o at h (sym (keep-untouched kind s w t key at d.applies at h).holder ∙ e)
      here Free d h e = z (sym e ∙ changed-holder (free-changed w at key (join_ticks s) t d.applies.room d.applies.inside))
      here (Update c) d h e = o at h (sym (changed-holder (update-changed w at key (join_ticks s) t c d.applies) ∙ key-holder w at) ∙ e)
      here (Take c) d h e = n (sym (changed-holder (take-changed w at key (join_ticks s) t c d.applies) ∙ sent-holder key) ∙ e)

      changed-none : (change : Change) → Does kind s w t key at change → NoneOf m (applied w at key (join_ticks s) t change)
      changed-none change d i h = go (omega (arith, h, (around kind s w t key at change d).slots)) (ℕ_discrete i at)
        where
          go : i < slots_of w → Dec (i ≡ at) → holder_of (applied w at key (join_ticks s) t change) i ≢ m
          go l (yes q) = subst (λ (j : ℕ). holder_of (applied w at key (join_ticks s) t change) j ≢ m) (sym q) (here change d (omega (arith, l, q)))
          go l (no q) = λ e. o i l (sym (others kind s w t key at change d i l q).holder ∙ e)

    -- a call of a party with another mark
    pub none-step : (op : Op kind) (v : List ℕ) → ((key : Sent) → touches op ≡ slot_of key → mark_of key.caller.party ≢ m) → Step kind s w t op v →
        NoneOf m v
    none-step op v f (refused e) = subst (NoneOf m) (sym e) o
    none-step op v f (changed key who at change d e) = subst (NoneOf m) (sym e) (changed-none key at (f key who) change d)
    none-step op v f (cleaned stale who y p e) =
        let c = clean_run w t (ticks_in s) stale p.room in
        subst (NoneOf m) (sym e)
        (λ i h. let l : i < slots_of w = omega (arith, h, c.slots) in kept-none (cleaned-holder c i l) (o i l))
    none-step op v f (Steps.cleared k y r l e) =
        let c = clear-read-run w k r t in
        subst (NoneOf m) (sym e)
        (λ i h. let q : i < slots_of w = omega (arith, h, c.slots) in kept-none (cleared-holder w k t r i q) (o i q))

-- ---- so it holds none

many-none : (p : ℕ → Bool) (n : ℕ) → ((i : ℕ) → i < n → p i ≡ false) → many p n ≡ 0
unfolding many
many-none p zero f = refl
many-none p (suc n) f =
    let last : p n ≡ false = f n (omega arith) in
    rw last (omega (arith, many-none p n (λ i h. f i (omega arith))))

pub none-held : (w : List ℕ) (m : ℕ) → NoneOf m w → slots_held w m ≡ 0
unfolding slots_held
none-held w m o = many-none (λ i. eqb (holder_of w i) m) (slots_of w) (λ i h. ne_eqb (holder_of w i) m (o i h))

-- party 1, promised every slot
pub own_alone : (kind : RoomKind) (s : Settings) (w : List ℕ) → Sane kind s w → NoneOf second_mark w →
    Alone w (record { party = 1; first = slots_of w; second = 0 })
own_alone kind s w o n = as_first o.sound.theirs refl refl refl (none-held w second_mark n)
