-- What a call leaves of what any key holds: its own key's as the limiter of one key says, another key's as it was; and the room's slots, ring and last reading.
-- Assumes nothing.
use Rattle.std.specs.Prelude.{◌≡◌, ◌≢◌, ℕ, ◌≤◌}
use Rattle.std.proofs.Common.{sym, subst, ◌∙◌, arith, eq-eqb}
use Rattle.std.proofs.Math.Path.{ap}
use Rattle.std.proofs.lemmas.Bool.{false≢true}
use mathlib.Core.List.{List}
use Rattle.std.proofs.Math.Decide.{ℕ_discrete}
use Rattle.common.specs.Refusals.{first}
use Rattle.settings.specs.Clock.{ticks_in, join_ticks}
use Rattle.settings.specs.declared.Settings.{Settings}
use Rattle.keys.specs.declared.Key.{Key}
use Rattle.rules.specs.Held.{nothing}
use Rattle.rules.specs.declared.RoomKind.{RoomKind}
use Rattle.rules.specs.declared.RoomKind.TheVariants as kind
use Rattle.room.specs.Room.{slots_of, ring_of, last_of, with_reading, cleared}
use Rattle.frame.specs.Keys.{Bytes}
use Rattle.frame.specs.Whole.{clear-read-run}
use Rattle.parties.specs.declared.Caller.{Caller}
use Rattle.parties.specs.Parties.{Sent, key_for, mark_of}
use Rattle.judge.specs.Held.{held_in}
use Rattle.judge.specs.Verdict.{unless_refused}
use Rattle.stale.specs.Uses as Uses
use Rattle.change.specs.declared.Change.{Change}
use Rattle.change.specs.Words.{applied}
use Rattle.cleanup.specs.Cleanup as Cleanup
use Rattle.provider.specs.Provider as Provider
use Rattle.provider.specs.Laws.{both-by-table}
use Rattle.leaves.proofs.Cleanup.{clean_run}
use Rattle.steps.specs.Ops.{
  Op,
  inc,
  is_allowed,
  get,
  draws,
  snapshot,
  get_factor,
  set_rate,
  set,
  delete,
  cleanup,
  cleanup_both,
  clear,
  after,
  Keyed,
  slot_of,
  touches,
}
use Rattle.steps.proofs.Each.{step}
use Rattle.steps.specs.Moves.{Does}
use Rattle.steps.specs.Step.{Step, refused, changed, cleaned, cleared as cleared_by}
use Rattle.steps.specs.Leaves.{around}
use Rattle.steps.proofs.Leaves.{step-leaves}
use Rattle.steps.proofs.Keys.{stands, finds}
use Rattle.steps.specs.Table.{table_of}
use Rattle.steps.specs.History.{Sane}
use Rattle.steps.proofs.History.{step-sane}
use Rattle.apart.specs.Holds.{held_for}
use Rattle.apart.proofs.Holds.{beside-held}
use Rattle.apart.specs.One.{left_by, cleaned_to, named_by, is_named, key_in, Named}
use Rattle.apart.proofs.One.{named-touches}
use Rattle.apart.proofs.Calls.{left_is}
use Rattle.apart.proofs.Whole.{clean-held, clear-held, clear-beside}
use Rattle.apart.proofs.Told.{turned-words}

-- the key that a call names is one of bytes
pub bytes-keyed : {k : RoomKind} (op : Op k) → Bytes (key_in op).bytes → Keyed op
bytes-keyed (inc key rate c) by = by
bytes-keyed (is_allowed key) by = tt
bytes-keyed (get key) by = tt
bytes-keyed (draws key rate c draw) by = by
bytes-keyed (snapshot key) by = tt
bytes-keyed (get_factor key) by = by
bytes-keyed (set_rate key rate) by = tt
bytes-keyed (set key rate comparator count mode) by = by
bytes-keyed (delete key) by = tt
bytes-keyed (cleanup who stale) by = tt
bytes-keyed (cleanup_both who other whose stale) by = tt
bytes-keyed (clear who) by = tt

-- ---- a call with a key

-- a change of another key's slot, or of a slot that it enters
change-beside : (k : RoomKind) (s : Settings) (w : List ℕ) (t : ℕ) (key : Sent) (at : ℕ) (change : Change) → Does k s w t key at change →
    (j : Key) → key_for key ≢ j → held_for (applied w at key (join_ticks s) t change) j ≡ held_for w j
change-beside k s w t key at change d j n =
    let a = around k s w t key at change d in
    beside-held w (applied w at key (join_ticks s) t change) j a.slots a.ring (finds k s w t key at j n change d) (stands k s w t key at j n change d)

step-beside : (k : RoomKind) (s : Settings) (w : List ℕ) (t : ℕ) (op : Op k) (key : Sent) → touches op ≡ slot_of key → (v : List ℕ) → Step k s w t op v →
    (j : Key) → key_for key ≢ j → held_for v j ≡ held_for w j
step-beside k s w t op key z v (refused e) j n = ap (λ (y : List ℕ). held_for y j) e
step-beside k s w t op key z v (changed other q at change d e) j n =
    let p : key_for other ≢ j = subst (λ (y : Sent). key_for y ≢ j) (ap named_by (sym z ∙ q)) n in
    ap (λ (y : List ℕ). held_for y j) e ∙ change-beside k s w t other at change d j p
step-beside k s w t op key z v (cleaned stale who q p e) j n = absurd (false≢true (ap is_named (sym q ∙ z)))
step-beside k s w t op key z v (cleared_by m q r l e) j n = absurd (false≢true (ap is_named (sym q ∙ z)))

-- ---- each call

module _ (k : RoomKind) (s : Settings) (w : List ℕ) (t : ℕ) (o : Sane k s w) where
  module _ (op : Op k) (by : Bytes (key_in op).bytes) where
    pub takes : Step k s w t op (after k s w t op)
    takes = step k s w t op (bytes-keyed op by)

    pub sane-after : Sane k s (after k s w t op)
    sane-after = step-sane k s w t op (after k s w t op) o takes

    pub slots-after : slots_of (after k s w t op) ≡ slots_of w
    slots-after = (step-leaves k s w t op (after k s w t op) o.sound.room takes).slots

    pub ring-after : ring_of (after k s w t op) ≡ ring_of w
    ring-after = (step-leaves k s w t op (after k s w t op) o.sound.room takes).ring

    pub turned-held : first (table_of k s w t op) ≢ 0 → (j : Key) → held_for (after k s w t op) j ≡ held_for w j
    turned-held z j = ap (λ (y : List ℕ). held_for y j) (turned-words k s w t op z)

    -- its own key, and another
    pub own_held : Named op → first (table_of k s w t op) ≡ 0 →
        held_for (after k s w t op) (key_for (key_in op)) ≡ left_by k s (ring_of w) t op (held_in w (key_in op))
    own_held n e = left_is k s w t o op n by sane-after.distinct e

    pub other-held : Named op → (j : Key) → key_for (key_in op) ≢ j → held_for (after k s w t op) j ≡ held_for w j
    other-held n j z = step-beside k s w t op (key_in op) (named-touches op n) (after k s w t op) takes j z

  -- the last reading
  later : (op : Op k) (v : List ℕ) (u : ℕ) → last_of w ≤ u → t ≤ u → Step k s w t op v → last_of v ≤ u
  later op v u p q (refused e) = omega (arith, p, ap last_of e)
  later op v u p q (changed key z at change d e) = omega (arith, q, ap last_of e, (around k s w t key at change d).last)
  later op v u p q (cleaned stale who z d e) = omega (arith, q, ap last_of e, (clean_run w t (ticks_in s) stale d.room).last)
  later op v u p q (cleared_by m z r l e) = omega (arith, q, ap last_of e, (clear-read-run w m r t).last)

  pub last-after : (op : Op k) → Bytes (key_in op).bytes → (u : ℕ) → last_of w ≤ u → t ≤ u → last_of (after k s w t op) ≤ u
  last-after op by u p q = later op (after k s w t op) u p q (takes op by)

  -- ---- a cleanup

  pub cleaned-held : (who : Caller) (stale : ℕ) → first (table_of k s w t (cleanup who stale)) ≡ 0 →
      (j : Key) → held_for (after k s w t (cleanup who stale)) j ≡ cleaned_to s t stale (held_for w j)
  unfolding Cleanup.cleanup unless_refused
  cleaned-held who stale e j =
      ap (λ (y : List ℕ). held_for y j) (rw (eq-eqb _ 0 e)) ∙
      clean-held s w (Uses.cleaned w t (ticks_in s) stale) t stale (clean_run w t (ticks_in s) stale o.sound.room) o.distinct j

  -- ---- a clear

  clear-words : (who : Caller) → first (table_of k s w t (clear who)) ≡ 0 → after k s w t (clear who) ≡ with_reading (cleared w (mark_of who.party)) t
  unfolding unless_refused
  clear-words who e = rw (eq-eqb _ 0 e)

  pub cleared-held : (who : Caller) → first (table_of k s w t (clear who)) ≡ 0 → (j : Key) → j.holder ≡ mark_of who.party →
      held_for (after k s w t (clear who)) j ≡ nothing
  cleared-held who e j h =
      ap (λ (y : List ℕ). held_for y j) (clear-words who e) ∙
      clear-held w _ (mark_of who.party) t (clear-read-run w (mark_of who.party) o.sound.room t) j h

  pub uncleared-held : (who : Caller) (j : Key) → j.holder ≢ mark_of who.party → held_for (after k s w t (clear who)) j ≡ held_for w j
  uncleared-held who j h = go (ℕ_discrete (first (table_of k s w t (clear who))) 0)
    where
      go : Dec (first (table_of k s w t (clear who)) ≡ 0) → held_for (after k s w t (clear who)) j ≡ held_for w j
      go (yes e) =
          ap (λ (y : List ℕ). held_for y j) (clear-words who e) ∙
          clear-beside w _ (mark_of who.party) t (clear-read-run w (mark_of who.party) o.sound.room t) j h
      go (no n) = ap (λ (y : List ℕ). held_for y j) (turned-words k s w t (clear who) n)

-- the provider's
module _ (s : Settings) (w : List ℕ) (t : ℕ) (who : Caller) (other : List ℕ) (whose : Caller) (stale : ℕ) where
  both_words : (k : RoomKind) → first (table_of k s w t (cleanup_both who other whose stale)) ≡ 0 →
      after k s w t (cleanup_both who other whose stale) ≡ Uses.cleaned w t (ticks_in s) stale
  unfolding Provider.decided
  both_words kind.Absolute e = rw (eq-eqb _ 0 (both-by-table s w other t who whose ∙ e))
  both_words kind.Suppressed e = rw (eq-eqb _ 0 (both-by-table s other w t whose who ∙ e))

  pub both-held : (k : RoomKind) → Sane k s w → first (table_of k s w t (cleanup_both who other whose stale)) ≡ 0 →
      (j : Key) → held_for (after k s w t (cleanup_both who other whose stale)) j ≡ cleaned_to s t stale (held_for w j)
  both-held k o e j =
      ap (λ (y : List ℕ). held_for y j) (both_words k e) ∙
      clean-held s w (Uses.cleaned w t (ticks_in s) stale) t stale (clean_run w t (ticks_in s) stale o.sound.room) o.distinct j
