-- Where a call with a key changes a room: at the key's own slot, or at a free one where the key has none. So every other key's slot stands, and a key
-- stands in one slot.
-- Assumes nothing.
use Rattle.std.specs.Prelude.{◌≡◌, refl, Bool, true, false, cond, List, ◌≢◌, ℕ, ◌≤◌}
use Rattle.std.proofs.Common.{sym, subst, ◌∙◌}
use Rattle.keys.specs.declared.Key.{Key}
use Rattle.room.specs.Room.{Room, slots_of, ring_of, holder_of, use_of, key_at, find, body_of, with_reading}
use Rattle.frame.specs.Distinct.{Distinct, changed-holder, find_none, distinct-taken, distinct-kept, distinct-freed, distinct-still}
use Rattle.frame.specs.Frame.{Changed, read-run}
use Rattle.parties.specs.Parties.{Sent, key_for}
use Rattle.change.specs.declared.Change.{Change}
use Rattle.change.specs.declared.Change.TheVariants.{Keep, Free, Update, Take}
use Rattle.edit.specs.declared.Edit.{Edit}
use Rattle.change.specs.Words.{applied, Applies, EditsAt}
use Rattle.edit.specs.Bodies.{edited}
use Rattle.leaves.specs.Calls.{keep-words, free-changed, update-changed, take-changed}
use Rattle.places.specs.Has.{Has, free-has, Same, changed-same, still-same}

-- slot at is in use with key k
pub record Owns (w : List ℕ) (at : ℕ) (k : Key) : Type 0 where
  pub held : holder_of w at ≢ 0
  pub key : key_at w at ≡ k

-- slot at is free, and no slot in use has key k
pub record Lacks (w : List ℕ) (at : ℕ) (k : Key) : Type 0 where
  pub free : holder_of w at ≡ 0
  pub none : slots_of w ≤ find w k

abbrev pub Placed : List ℕ → ℕ → Key → Change → Type 0
Placed w at k Keep = Unit {0}
Placed w at k Free = Owns w at k
Placed w at k (Update e) = Owns w at k
Placed w at k (Take e) = Lacks w at k

has-held : {w : List ℕ} {k : Key} {i : ℕ} → Has w k i → holder_of w i ≢ 0
has-held h e = free-has e h

-- ---- an edit of the key's slot, with what stands around it

pub record Own (w v : List ℕ) (at b t : ℕ) (k : Key) (e : Edit) : Type 0 where
  pub edits : EditsAt w at b t e
  pub changed : Changed w v at e.used k (edited (ring_of w) b t (body_of w at) e) t
  pub distinct : Distinct v
  pub only : (i : ℕ) → i ≢ at → Has w k i → ⊥
  pub apart : (q : Key) → q ≢ k → Has w q at → ⊥

module _ (w : List ℕ) (at : ℕ) (key : Sent) (b t : ℕ) (d : Distinct w) where
  own-update : (e : Edit) → EditsAt w at b t e → Owns w at (key_for key) → Own w (applied w at key b t (Update e)) at b t (key_for key) e
  own-update e o p =
      let c = update-changed w at key b t e o in
      record {
        edits = o;
        changed = subst (λ (k : Key). Changed w (applied w at key b t (Update e)) at e.used k (edited (ring_of w) b t (body_of w at) e) t) p.key c;
        distinct = distinct-kept c d p.held refl;
        only = λ i n h. n (d.once i at h.inside o.inside (has-held h) p.held (h.key ∙ sym p.key));
        apart = λ q n h. n (sym h.key ∙ p.key);
      }

  own-take : (e : Edit) → EditsAt w at b t e → Lacks w at (key_for key) → Own w (applied w at key b t (Take e)) at b t (key_for key) e
  own-take e o p =
      let c = take-changed w at key b t e o in
      record {
        edits = o;
        changed = c;
        distinct = distinct-taken c d p.none;
        only = λ i n h. find_none w (key_for key) p.none i h.inside (has-held h) h.key;
        apart = λ q n h. free-has p.free h;
      }

  -- either of the two
  pub own-either : (e : Edit) (z : Bool) → Applies w at b t (cond z (Update e) (Take e)) → Placed w at (key_for key) (cond z (Update e) (Take e)) →
      Own w (applied w at key b t (cond z (Update e) (Take e))) at b t (key_for key) e
  own-either e true o p = own-update e o p
  own-either e false o p = own-take e o p

  own_same : (v : List ℕ) (e : Edit) (k : Key) → k ≢ key_for key → Own w v at b t (key_for key) e → Same k w v t
  own_same v e k n o = changed-same o.changed k (o.apart k n) (λ h. n (sym h.key ∙ o.changed.key))

  -- ---- every other key's slot stands, and a key stands in one slot

  pub read-change : Room w → Changed w (with_reading w t) 0 (use_of w 0) (key_at w 0) (body_of w 0) t
  read-change o = read-run w 0 t o o.one

  pub placed-distinct : (change : Change) → Applies w at b t change → Placed w at (key_for key) change → Distinct (applied w at key b t change)
  placed-distinct Keep a p = subst (λ (v : List ℕ). Distinct v) (sym (keep-words w at key b t)) (distinct-still (read-change a) d refl)
  placed-distinct Free a p = distinct-freed (free-changed w at key b t a.room a.inside) d refl
  placed-distinct (Update e) a p = (own-update e a p).distinct
  placed-distinct (Take e) a p = (own-take e a p).distinct

  pub placed_same : (change : Change) → Applies w at b t change → Placed w at (key_for key) change → (k : Key) → k ≢ key_for key →
      Same k w (applied w at key b t change) t
  placed_same Keep a p k n = subst (λ (v : List ℕ). Same k w v t) (sym (keep-words w at key b t)) (still-same (read-change a) k)
  placed_same Free a p k n =
      let c = free-changed w at key b t a.room a.inside in
      changed-same c k (λ h. n (sym h.key ∙ p.key)) (λ h. free-has (changed-holder c) h)
  placed_same (Update e) a p k n = own_same _ e k n (own-update e a p)
  placed_same (Take e) a p k n = own_same _ e k n (own-take e a p)
