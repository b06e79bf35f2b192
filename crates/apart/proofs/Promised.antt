-- While the promises given stay the same, no party comes to hold more than its own (`kept-after`): a slot that was free is taken only where 11 is not given.
-- Assumes nothing.
use Rattle.std.specs.Prelude.{◌≡◌, refl, Bool, true, false, not, ◌&&◌, ◌||◌, cond, List, [], ◌∷◌, ◌≢◌, ℕ, ◌≤◌, ◌<◌, eqb}
use Rattle.std.proofs.Common.{sym, ap, ap₂, subst, ◌∙◌, true≢false, arith, eqb-true, leb-false}
use Rattle.std.proofs.lemmas.Bool.{false≢true}
use Rattle.std.proofs.Math.Decide.{ℕ_discrete}
use Rattle.common.specs.Refusals.{first, all-false}
use Rattle.settings.specs.Clock.{ticks_in, window_ticks}
use Rattle.settings.specs.declared.Settings.{Settings}
use Rattle.ring.specs.Ring.{bucket}
use Rattle.layout.specs.Layout.{nobody, first_mark, second_mark}
use Rattle.keys.specs.declared.Key.{Key}
use Rattle.keys.specs.Keys.{same_key}
use Rattle.rules.specs.Held.{Held, nothing, has_any, lacks_slot}
use Rattle.rules.specs.Both.{limit_in}
use Rattle.rules.specs.Stale.{series_stays, factor_stays}
use Rattle.rules.specs.Absolute as absolute
use Rattle.rules.specs.Suppressed as suppressed
use Rattle.rules.specs.Sets as sets
use Rattle.rules.specs.declared.RoomKind.{RoomKind}
use Rattle.rules.specs.declared.RoomKind.TheVariants as kind
use Rattle.room.specs.Room.{ring_of}
use Rattle.frame.specs.Keys.{Bytes}
use Rattle.frame.specs.Distinct.{same-key, key-same}
use Rattle.parties.specs.declared.Caller.{Caller}
use Rattle.parties.specs.Parties.{key_for, mark_of, is_party, slots_held, promised, holding, none_left}
use Rattle.judge.specs.Held.{held_in}
use Rattle.judge.specs.Judge.{Passed}
use Rattle.judge.proofs.Laws.{passed}
use Rattle.leaves.specs.Follows.{unrefused-early, unrefused-own}
use Rattle.steps.specs.Leaves.{sent-holder}
use Rattle.steps.specs.Ops.{Op, inc, is_allowed, get, draws, snapshot, get_factor, set_rate, set, delete, cleanup, cleanup_both, clear, after}
use Rattle.steps.specs.Table.{table_of}
use Rattle.steps.specs.History.{Sane}
use Rattle.apart.specs.Holds.{held_for}
use Rattle.apart.proofs.Holds.{held-short}
use Rattle.apart.proofs.Count.{any-slot, held-into, held-but}
use Rattle.apart.specs.One.{plainly, left_by, cleaned_to, key_in, Named}
use Rattle.apart.proofs.Step.{sane-after, own_held, other-held, cleaned-held, cleared-held, uncleared-held, both-held}
use Rattle.apart.proofs.Told.{turned-words}
use Rattle.apart.specs.Promised.{caller_in, Gives, Kept, Bounded, Promise}

-- ---- a party's own

pub party-or : {A : Type 0} (party : ℕ) → is_party party ≡ true → (party ≡ 1 → A) → (party ≡ 2 → A) → A
party-or {A} party e f g = go (eqb party 1) refl (eqb party 2) refl
  where
    go : (x : Bool) → eqb party 1 ≡ x → (y : Bool) → eqb party 2 ≡ y → A
    go true x y z = f (eqb-true party 1 x)
    go false x true y = g (eqb-true party 2 y)
    go false x false y = absurd (false≢true (sym (ap₂ ◌||◌ x y) ∙ e))

pub holding-is : (w : List ℕ) (c : Caller) → is_party c.party ≡ true → holding w c ≡ slots_held w (mark_of c.party)
holding-is w c e =
    party-or c.party e
    (λ z. ap (λ (p : ℕ). cond (eqb p 1) (slots_held w first_mark) (slots_held w second_mark)) z ∙ ap (λ (p : ℕ). slots_held w (mark_of p)) (sym z))
    (λ z. ap (λ (p : ℕ). cond (eqb p 1) (slots_held w first_mark) (slots_held w second_mark)) z ∙ ap (λ (p : ℕ). slots_held w (mark_of p)) (sym z))

-- ---- a slot is needed

left-under : (w : List ℕ) (c : Caller) → none_left w c ≡ false → holding w c < promised c
unfolding none_left
left-under w c e = leb-false (promised c) (holding w c) e

lacking : (full : Bool) (h : Held) → has_any h ≡ false → lacks_slot full h ≡ false → full ≡ false
lacking full h e f = sym (ap (λ (z : Bool). not z && full) e) ∙ f

-- what is not known, and has nothing cached
any_none : (h : Held) → has_any h ≡ false → h.known ≡ false
any_none h e = go h.known refl
  where
    go : (z : Bool) → h.known ≡ z → h.known ≡ false
    go true f = absurd (true≢false (sym (ap (λ (z : Bool). z || h.cached) f) ∙ e))
    go false f = f

known-else : (h x : Held) → has_any h ≡ false → cond h.known x h ≡ h
known-else h x e = ap (λ (z : Bool). cond z x h) (any_none h e)

-- what is left as it was takes no slot
nothing-taken : {A : Type 0} (h x : Held) → has_any h ≡ false → x ≡ h → has_any x ≡ true → A
nothing-taken h x e q f = absurd (false≢true (sym e ∙ ap has_any (sym q) ∙ f))

-- a call that takes a slot was not turned away with 11
module _ (s : Settings) (w : List ℕ) (t : ℕ) where
  pub slot-left : (k : RoomKind) (op : Op k) → Named op → first (table_of k s w t op) ≡ 0 → has_any (held_in w (key_in op)) ≡ false →
      has_any (left_by k s (ring_of w) t op (held_in w (key_in op))) ≡ true → none_left w (key_in op).caller ≡ false
  slot-left k (inc key rate c) n e h f =
      let own = absolute.inc_turns s (ring_of w) (none_left w key.caller) t rate c (held_in w key) in
      lacking (none_left w key.caller) (held_in w key) h (all-false own (omega arith) (unrefused-own kind.Absolute s w t key own e)).1.1.0
  slot-left k (is_allowed key) n e h f = nothing-taken (held_in w key) _ h (known-else (held_in w key) _ h) f
  slot-left k (get key) n e h f = nothing-taken (held_in w key) _ h (known-else (held_in w key) _ h) f
  slot-left k (draws key rate c draw) n e h f =
      let own = suppressed.inc_turns s (ring_of w) (none_left w key.caller) t rate c draw (held_in w key) in
      lacking (none_left w key.caller) (held_in w key) h (all-false own (omega arith) (unrefused-own kind.Suppressed s w t key own e)).1.1.1.0
  slot-left k (snapshot key) n e h f = nothing-taken (held_in w key) _ h (known-else (held_in w key) _ h) f
  slot-left k (get_factor key) n e h f =
      let own = suppressed.factor_turns (none_left w key.caller) (held_in w key) in
      lacking (none_left w key.caller) (held_in w key) h (all-false own (omega arith) (unrefused-own kind.Suppressed s w t key own e)).0
  slot-left k (set_rate key rate) n e h f = nothing-taken (held_in w key) _ h (known-else (held_in w key) _ h) f
  slot-left k (set key rate comparator count mode) n e h f = go (sets.still_for k s t rate comparator count mode (held_in w key)) refl
    where
      own : List (ℕ × Bool)
      own = sets.set_turns k s (none_left w key.caller) t rate comparator count mode (held_in w key)

      changed : Held
      changed =
          cond (eqb count 0) nothing
          (plainly (limit_in k s rate)
          (cond (held_in w key).known (sets.reset_to (window_ticks s) t mode count (held_in w key).buckets) (bucket count 0 t ∷ [])))

      go : (z : Bool) → sets.still_for k s t rate comparator count mode (held_in w key) ≡ z → none_left w key.caller ≡ false
      go true z =
          nothing-taken (held_in w key) _ h (ap (λ (y : Bool). cond y (held_in w key) changed) z) f
      go false z =
          let q = (all-false own (omega arith) (unrefused-own k s w t key own e)).1.1.0 in
          lacking (none_left w key.caller) (held_in w key) h
          (sym (ap (λ (y : Bool). not y && lacks_slot (none_left w key.caller) (held_in w key)) z) ∙ q)
  slot-left k (delete key) n e h f =
      nothing-taken (held_in w key) _ h (ap (λ (y : Bool). cond y nothing (held_in w key)) h) f
  slot-left k (cleanup who stale) n e h f = absurd (false≢true n)
  slot-left k (cleanup_both who other whose stale) n e h f = absurd (false≢true n)
  slot-left k (clear who) n e h f = absurd (false≢true n)

-- a call with a key that is not turned away has passed
pub named-passed : (k : RoomKind) (s : Settings) (w : List ℕ) (t : ℕ) (op : Op k) → Named op → first (table_of k s w t op) ≡ 0 → Passed k s w t (key_in op)
named-passed k s w t (inc key rate c) n e = passed kind.Absolute s w t key (unrefused-early kind.Absolute s w t key _ e)
named-passed k s w t (is_allowed key) n e = passed kind.Absolute s w t key (unrefused-early kind.Absolute s w t key _ e)
named-passed k s w t (get key) n e = passed kind.Absolute s w t key (unrefused-early kind.Absolute s w t key _ e)
named-passed k s w t (draws key rate c draw) n e = passed kind.Suppressed s w t key (unrefused-early kind.Suppressed s w t key _ e)
named-passed k s w t (snapshot key) n e = passed kind.Suppressed s w t key (unrefused-early kind.Suppressed s w t key _ e)
named-passed k s w t (get_factor key) n e = passed kind.Suppressed s w t key (unrefused-early kind.Suppressed s w t key _ e)
named-passed k s w t (set_rate key rate) n e = passed k s w t key (unrefused-early k s w t key _ e)
named-passed k s w t (set key rate comparator count mode) n e = passed k s w t key (unrefused-early k s w t key _ e)
named-passed k s w t (delete key) n e = passed k s w t key (unrefused-early k s w t key _ e)
named-passed k s w t (cleanup who stale) n e = absurd (false≢true n)
named-passed k s w t (cleanup_both who other whose stale) n e = absurd (false≢true n)
named-passed k s w t (clear who) n e = absurd (false≢true n)

-- ---- the law

-- what is kept by a cleanup was there
cleaned-any : (s : Settings) (t stale : ℕ) (h : Held) → has_any (cleaned_to s t stale h) ≡ true → has_any h ≡ true
cleaned-any s t stale h e = go h.known refl h.cached refl
  where
    go : (x : Bool) → h.known ≡ x → (y : Bool) → h.cached ≡ y → has_any h ≡ true
    go true x y z = ap (λ (q : Bool). q || h.cached) x
    go false x true z = ap₂ ◌||◌ x z
    go false x false z =
        absurd (false≢true (sym (ap₂ (λ (p q : Bool). (p && series_stays h.buckets t (ticks_in s) stale) ||
        (q && factor_stays h.since t (ticks_in s) stale)) x z) ∙ e))

module _ (k : RoomKind) (s : Settings) (w : List ℕ) (t : ℕ) (o : Sane k s w) (m : ℕ) (z : m ≢ 0) where
  -- of a call with a key that is not turned away, with its mark and promise
  module _ (op : Op k) (by : Bytes (key_in op).bytes) (n : Named op) (e : first (table_of k s w t op) ≡ 0) where
    abbrev v : List ℕ
    v = after k s w t op

    abbrev own : Key
    own = key_for (key_in op)

    safe : Sane k s (after k s w t op)
    safe = sane-after k s w t o op by

    -- of another party, or of a key that has something, or has nothing then
    same_count : ((j : Key) → j.holder ≡ m → key_for (key_in op) ≡ j → has_any (held_for (after k s w t op) j) ≡ true → has_any (held_for w j) ≡ true) →
        slots_held (after k s w t op) m ≤ slots_held w m
    same_count f = held-into w m z safe (λ j h a. go j h a (same_key (key_for (key_in op)) j) refl)
      where
        go : (j : Key) → j.holder ≡ m → has_any (held_for (after k s w t op) j) ≡ true → (y : Bool) → same_key (key_for (key_in op)) j ≡ y →
            has_any (held_for w j) ≡ true
        go j h a true q = f j h (same-key (key_for (key_in op)) j q) a
        go j h a false q =
            ap has_any (sym (other-held k s w t o op by n j
            (λ r. false≢true (sym q ∙ subst (λ (x : Key). same_key (key_for (key_in op)) x ≡ true) r (key-same _))))) ∙ a

    passing : Passed k s w t (key_in op)
    passing = named-passed k s w t op n e

    short : held_in w (key_in op) ≡ held_for w (key_for (key_in op))
    short = held-short w (key_in op) passing.short

    pub named-bound : (p : ℕ) → (m ≡ mark_of (key_in op).caller.party → promised (key_in op).caller ≡ p) → Bounded w (after k s w t op) m p
    named-bound p f l = go (ℕ_discrete m (mark_of (key_in op).caller.party))
      where
        mark : (key_for (key_in op)).holder ≡ mark_of (key_in op).caller.party
        mark = sent-holder (key_in op)

        taken : m ≡ mark_of (key_in op).caller.party → has_any (held_for w (key_for (key_in op))) ≡ false →
            has_any (held_for (after k s w t op) (key_for (key_in op))) ≡ true → slots_held (after k s w t op) m ≤ p
        taken q a b =
            let c = slot-left s w t k op n e (ap has_any short ∙ a) (ap has_any (sym (own_held k s w t o op by n e)) ∙ b) in
            let d = holding-is w (key_in op).caller passing.party in
            let r : slots_held w (mark_of (key_in op).caller.party) < promised (key_in op).caller =
            subst (λ (x : ℕ). x < promised (key_in op).caller) d (left-under w (key_in op).caller c) in
            let u = held-but w m z safe (key_for (key_in op)) (any-slot _ _ b) (mark ∙ sym q)
            (λ j h y a'. ap has_any (sym (other-held k s w t o op by n j y)) ∙ a') in
            omega (arith, u, r, f q, ap (slots_held w) q)

        mine : m ≡ mark_of (key_in op).caller.party → (x : Bool) → has_any (held_for w (key_for (key_in op))) ≡ x →
            (y : Bool) → has_any (held_for (after k s w t op) (key_for (key_in op))) ≡ y → slots_held (after k s w t op) m ≤ p
        mine q true x y y' = omega (arith, l, same_count (λ j h r a. ap (λ (i : Key). has_any (held_for w i)) (sym r) ∙ x))
        mine q false x true y = taken q x y
        mine q false x false y =
            omega (arith, l, same_count (λ j h r a. absurd (false≢true (sym y ∙ ap (λ (i : Key). has_any (held_for (after k s w t op) i)) r ∙ a))))

        go : Dec (m ≡ mark_of (key_in op).caller.party) → slots_held (after k s w t op) m ≤ p
        go (yes q) = mine q (has_any (held_for w (key_for (key_in op)))) refl (has_any (held_for (after k s w t op) (key_for (key_in op)))) refl
        go (no q) = omega (arith, l, same_count (λ j h r a. absurd (q (sym h ∙ ap (λ (i : Key). i.holder) (sym r) ∙ mark))))

  -- of a cleanup or a clear, what is there was there
  into-bound : (op : Op k) → Bytes (key_in op).bytes → ((j : Key) → has_any (held_for (after k s w t op) j) ≡ true → has_any (held_for w j) ≡ true) →
      slots_held (after k s w t op) m ≤ slots_held w m
  into-bound op by f = held-into w m z (sane-after k s w t o op by) (λ j h a. f j a)

-- whoever calls
module _ (k : RoomKind) (s : Settings) (w : List ℕ) (t : ℕ) (o : Sane k s w) (m : ℕ) (z : m ≢ 0) where
  cleaning : (op : Op k) (stale : ℕ) → Bytes (key_in op).bytes → ((j : Key) → held_for (after k s w t op) j ≡ cleaned_to s t stale (held_for w j)) →
      slots_held (after k s w t op) m ≤ slots_held w m
  cleaning op stale by f = into-bound k s w t o m z op by (λ j a. cleaned-any s t stale (held_for w j) (ap has_any (sym (f j)) ∙ a))

  clearing : (who : Caller) → first (table_of k s w t (clear who)) ≡ 0 → (j : Key) → has_any (held_for (after k s w t (clear who)) j) ≡ true →
      has_any (held_for w j) ≡ true
  clearing who e j a = go (ℕ_discrete j.holder (mark_of who.party))
    where
      go : Dec (j.holder ≡ mark_of who.party) → has_any (held_for w j) ≡ true
      go (yes q) = absurd (false≢true (ap has_any (sym (cleared-held k s w t o who e j q)) ∙ a))
      go (no q) = ap has_any (sym (uncleared-held k s w t o who j q)) ∙ a

undone : (k : RoomKind) (s : Settings) (w : List ℕ) (t m p : ℕ) → Sane k s w → m ≢ 0 → (op : Op k) → Bytes (key_in op).bytes → Promise m p (caller_in op) →
    first (table_of k s w t op) ≡ 0 → Bounded w (after k s w t op) m p
undone k s w t m p o z (inc key rate c) by f e l = named-bound k s w t o m z (inc key rate c) by refl e p f l
undone k s w t m p o z (is_allowed key) by f e l = named-bound k s w t o m z (is_allowed key) by refl e p f l
undone k s w t m p o z (get key) by f e l = named-bound k s w t o m z (get key) by refl e p f l
undone k s w t m p o z (draws key rate c draw) by f e l = named-bound k s w t o m z (draws key rate c draw) by refl e p f l
undone k s w t m p o z (snapshot key) by f e l = named-bound k s w t o m z (snapshot key) by refl e p f l
undone k s w t m p o z (get_factor key) by f e l = named-bound k s w t o m z (get_factor key) by refl e p f l
undone k s w t m p o z (set_rate key rate) by f e l = named-bound k s w t o m z (set_rate key rate) by refl e p f l
undone k s w t m p o z (set key rate comparator count mode) by f e l = named-bound k s w t o m z (set key rate comparator count mode) by refl e p f l
undone k s w t m p o z (delete key) by f e l = named-bound k s w t o m z (delete key) by refl e p f l
undone k s w t m p o z (cleanup who stale) by f e l = omega (arith, l, cleaning k s w t o m z (cleanup who stale) stale by (cleaned-held k s w t o who stale e))
undone k s w t m p o z (cleanup_both who other whose stale) by f e l =
    omega (arith, l, cleaning k s w t o m z (cleanup_both who other whose stale) stale by (both-held s w t who other whose stale k o e))
undone k s w t m p o z (clear who) by f e l = omega (arith, l, into-bound k s w t o m z (clear who) by (clearing k s w t o m z who e))

bound-after : (k : RoomKind) (s : Settings) (w : List ℕ) (t m p : ℕ) → Sane k s w → m ≢ 0 → (op : Op k) → Bytes (key_in op).bytes →
    Promise m p (caller_in op) → Bounded w (after k s w t op) m p
bound-after k s w t m p o z op by f l = go (ℕ_discrete (first (table_of k s w t op)) 0)
  where
    go : Dec (first (table_of k s w t op) ≡ 0) → slots_held (after k s w t op) m ≤ p
    go (yes e) = undone k s w t m p o z op by f e l
    go (no n) = omega (arith, l, ap (λ (y : List ℕ). slots_held y m) (turned-words k s w t op n))

-- what a party is promised, by its mark
promise-first : (c : Caller) → first_mark ≡ mark_of c.party → promised c ≡ c.first
promise-first c e = go (eqb c.party 1) refl (eqb c.party 2) refl
  where
    go : (x : Bool) → eqb c.party 1 ≡ x → (y : Bool) → eqb c.party 2 ≡ y → promised c ≡ c.first
    go true x y z = ap (λ (b : Bool). cond b c.first c.second) x
    go false x true y = absurd (omega (arith, e ∙ ap₂ (λ (a b : Bool). cond a first_mark (cond b second_mark nobody)) x y))
    go false x false y = absurd (omega (arith, e ∙ ap₂ (λ (a b : Bool). cond a first_mark (cond b second_mark nobody)) x y))

promise-second : (c : Caller) → second_mark ≡ mark_of c.party → promised c ≡ c.second
promise-second c e = go (eqb c.party 1) refl
  where
    go : (x : Bool) → eqb c.party 1 ≡ x → promised c ≡ c.second
    go true x = absurd (omega (arith, e ∙ ap (λ (a : Bool). cond a first_mark (cond (eqb c.party 2) second_mark nobody)) x))
    go false x = ap (λ (b : Bool). cond b c.first c.second) x

pub kept-after : (k : RoomKind) (s : Settings) (w : List ℕ) (t : ℕ) (op : Op k) (a b : ℕ) → Sane k s w → Bytes (key_in op).bytes → Gives a b op → Kept w a b →
    Kept (after k s w t op) a b
kept-after k s w t op a b o by g l = record {
  first = bound-after k s w t first_mark a o (omega arith) op by (λ e. promise-first (caller_in op) e ∙ g.0) l.first;
  second = bound-after k s w t second_mark b o (omega arith) op by (λ e. promise-second (caller_in op) e ∙ g.1) l.second;
}
