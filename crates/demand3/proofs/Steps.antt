-- A call that leaves a key alone keeps what holds of the key and its log (`Kept`), whatever call it is: one of another key, a cleanup with a stale time
-- of at least the window, or a clear of the other party.
-- Assumes nothing.
use Rattle.std.specs.Prelude.{refl, List, ◌≢◌, ℕ, ◌≤◌}
use Rattle.std.proofs.Common.{sym, subst}
use Rattle.settings.specs.Clock.{ticks_in, window_ticks, join_ticks}
use Rattle.settings.specs.declared.Settings.{Settings}
use Rattle.room.specs.Room.{Room, last_of}
use Rattle.frame.specs.Distinct.{distinct-still}
use Rattle.frame.specs.Whole.{clear-read-run}
use Rattle.parties.specs.Parties.{Sent, key_for}
use Rattle.change.specs.declared.Change.TheVariants.{Keep}
use Rattle.change.specs.Words.{applied}
use Rattle.rules.specs.declared.RoomKind.TheVariants as kind
use Rattle.stale.specs.Uses as Uses
use Rattle.leaves.specs.Calls.{keep-words}
use Rattle.leaves.proofs.Cleanup.{clean_run}
use Rattle.admissions.specs.Log.{Entry}
use Rattle.places.specs.Has.{still-same}
use Rattle.places.specs.Placed.{read-change}
use Rattle.steps.proofs.Keys.{change-same}
use Rattle.steps.proofs.Leaves.{step-leaves}
use Rattle.steps.specs.Ops.{Op, touches}
use Rattle.steps.specs.Step.{Step, refused, changed, cleaned, cleared}
use Rattle.demand3.specs.History.{IsKey}
use Rattle.demand3.proofs.Keys.{other-for}
use Rattle.demand3.specs.Kept.{Kept, kept_same}
use Rattle.demand3.proofs.Cleans.{cleaned-kept}
use Rattle.demand3.proofs.Clears.{cleared-kept}
use Rattle.demand3.specs.Steps.{Beside}

module _ (s : Settings) (le : join_ticks s ≤ window_ticks s) (limit : ℕ) (key : Sent) (is : IsKey key) (w : List ℕ) (t : ℕ) (log : List Entry)
    (a : Kept s (key_for key) limit w log) where
  abbrev KeptBy : List ℕ → Type 0
  KeptBy v = Kept s (key_for key) limit v log

  -- only the reading
  pub keep-kept : (at : ℕ) (j : Sent) → Room w → last_of w ≤ t → KeptBy (applied w at j (join_ticks s) t Keep)
  keep-kept at j o l =
      let c = read-change w at j (join_ticks s) t a.distinct o in
      subst KeptBy (sym (keep-words w at j (join_ticks s) t))
      (kept_same s le (key_for key) limit w _ t log (still-same c (key_for key)) l (distinct-still c a.distinct refl) a)

  pub beside-kept : (op : Op kind.Suppressed) (v : List ℕ) → Beside s key (touches op) → Step kind.Suppressed s w t op v → KeptBy v
  beside-kept op v b (refused e) = subst KeptBy (sym e) a
  beside-kept op v b (changed j who at change d e) =
      let n = subst (Beside s key) who b in
      let other : key_for key ≢ key_for j = other-for j key is n.0 d.passed.short n.1 in
      let after : Step kind.Suppressed s w t op (applied w at j (join_ticks s) t change) = changed j who at change d refl in
      subst KeptBy (sym e)
      (kept_same s le (key_for key) limit w _ t log (change-same kind.Suppressed s w t j at change d a.distinct (key_for key) other) d.passed.later
      ((step-leaves kind.Suppressed s w t op _ d.passed.room after).distinct a.distinct) a)
  beside-kept op v b (cleaned stale who by p e) =
      subst KeptBy (sym e)
      (cleaned-kept s le limit stale (subst (Beside s key) by b) (key_for key) w (Uses.cleaned w t (ticks_in s) stale) t who log p
      (clean_run w t (ticks_in s) stale p.room) a)
  beside-kept op v b (cleared m by o l e) =
      subst KeptBy (sym e) (cleared-kept (key_for key) w _ m t (clear-read-run w m o t) s le limit log (subst (Beside s key) by b) l a)
