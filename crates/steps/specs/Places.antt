-- Each call with a key changes a room where it should, and starts from the buckets that it should (`Moves`). x is the key's slot.
-- Assumes nothing.
use Rattle.std.specs.Prelude.{◌≡◌, Bool, ◌||◌, List, ℕ, ◌≤◌, ◌<◌, length, Option, Some, None}
use Rattle.std.proofs.Math.Path.{refl, sym, ap, ap₂, subst}
use Rattle.std.proofs.Common.{◌∙◌, true≢false, arith, le-ltb, eqb-true}
use Rattle.std.proofs.Math.Bool.{true, false, cond}
use Rattle.std.proofs.Math.Decide.{dec_lt}
use Rattle.std.proofs.Math.Dec.{eqb}
use Rattle.settings.specs.Clock.{window_ticks, look_ticks, join_ticks}
use Rattle.common.specs.declared.comparator.RateLimitComparator.{RateLimitComparator}
use Rattle.answers.specs.declared.HistoryUpdateMode.{HistoryUpdateMode}
use Rattle.answers.specs.declared.HistoryUpdateMode.TheVariants as mode
use Rattle.settings.specs.declared.Settings.{Settings}
use Rattle.room.specs.Room.{slots_of, use_of, find, vacant}
use Rattle.room.specs.Entries.{used-held}
use Rattle.frame.specs.Distinct.{Distinct, find-held, find-key, find-where, vacant-free}
use Rattle.frame.specs.Keys.{Bytes, key-fits}
use Rattle.parties.specs.Parties.{Sent, key_for, mark_of}
use Rattle.change.specs.declared.Change.{Change}
use Rattle.change.specs.declared.Change.TheVariants.{Keep, Free, Update, Take}
use Rattle.edit.specs.declared.Edit.{Edit}
use Rattle.edit.specs.declared.Then.TheVariants as then
use Rattle.change.specs.Words.{Applies}
use Rattle.rules.specs.declared.RoomKind.{RoomKind}
use Rattle.rules.specs.declared.RoomKind.TheVariants as kind
use Rattle.opened.specs.declared.Slot.{Slot}
use Rattle.judge.specs.Judge.{Passed, slot_in, looked_in}
use Rattle.opened.specs.Look.{by-look, look_at, look-series, look-cached}
use Rattle.opened.specs.Slot.{has_slot, all_stay, first_look}
use Rattle.opened.specs.Right.{slot-addressed}
use Rattle.opened.specs.Sound.{has_series, right_use, addressed}
use Rattle.plan.specs.Known.{Found, found, series-is, cached-is, use-right}
use Rattle.plan.specs.Plan.{keeping, evicting, opening, relimited, place_of}
use Rattle.calls.specs.Calls.{found_at, slot-within, true-or}
use Rattle.shared_opened.specs.Opened.{deleting, used_with, limiting}
use Rattle.sets_opened.specs.Sets.{idle_at, reset, begins, stored, setting}
use Rattle.calls.specs.Applies.{busy-known, known-has, cached-has}
use Rattle.absolute_opened.specs.Opened as absolute
use Rattle.suppressed_edits.specs.Edits.{recached, get_change, lone_by, lone_change, factor_change, inc_edit, inc_change}
use Rattle.places.specs.Has.{Has, free-has}
use Rattle.places.specs.Placed.{Owns, Lacks}
use Rattle.steps.specs.Moves.{Plain, From, opens, keeps, evicts, Updates, Takes, Moves}
use Rattle.suppression.specs.declared.CachedFactor.{CachedFactor}

-- ---- what calls choose from

-- a set that changes something: with count 0; of a known series; of a lone cached factor
abbrev pub set_to : Slot → ℕ → ℕ → HistoryUpdateMode → Bool → Bool → Bool → Change
set_to x limit count m none known lone =
    cond none Free
    (cond known (Update (reset x limit count m)) (cond lone (Update (begins limit count x.factor x.factor_time)) (Take (begins limit count 0 0))))

-- an absolute increment: of a known series, which is allowed; y is the slot as its first look leaves it
abbrev pub inc_to : Slot → Slot → ℕ → ℕ → Bool → Bool → Bool → Change
inc_to x y limit c out known allowed =
    absolute.pick_change known (absolute.pick_change allowed (Update (absolute.leaving out x (then.Increment c 0))) (Update (evicting y then.Nothing)))
    (Take (opening limit (then.Increment c 0) 0 0 1))

-- where neither is there
neither : (x : Slot) → x.series ≡ false → x.cached ≡ false → has_slot x ≡ false
neither x e f = ap₂ (λ (a b : Bool). a || b) e f

-- a use that is right has a series or a cached factor; in an absolute room a series
right-has : (k : RoomKind) (u : ℕ) → right_use k u ≡ true → has_series u || (eqb u 2 || eqb u 3) ≡ true
unfolding right_use
right-has kind.Absolute u e = let p : u ≡ 1 = eqb-true u 1 e in subst (λ (n : ℕ). has_series n || (eqb n 2 || eqb n 3) ≡ true) (sym p) refl
right-has kind.Suppressed u e = e

right-series : (u : ℕ) → right_use kind.Absolute u ≡ true → has_series u ≡ true
unfolding right_use
right-series u e = let p : u ≡ 1 = eqb-true u 1 e in subst (λ (n : ℕ). has_series n ≡ true) (sym p) refl

-- the edits' buckets
inc-from : (x : Slot) (k : Option CachedFactor) (limit c d : ℕ) → From x (recached x k (inc_edit x limit c d))
unfolding recached inc_edit
inc-from x k limit c d = go x.series refl
  where
    go : (z : Bool) → x.series ≡ z →
        From x (recached x k (cond z (evicting x (then.Increment c d)) (opening limit (then.Increment c d) x.factor x.factor_time x.used)))
    go true e = evicts e refl refl
    go false e = opens refl tt

inc-begins : (x : Slot) (k : Option CachedFactor) (limit c d : ℕ) → x.series ≡ false → (recached x k (inc_edit x limit c d)).begins ≡ true
unfolding recached inc_edit
inc-begins x k limit c d e =
    ap (λ (z : Bool). (cond z (evicting x (then.Increment c d)) (opening limit (then.Increment c d) x.factor x.factor_time x.used)).begins) e

inc-plain : (x : Slot) (k : Option CachedFactor) (limit c d : ℕ) → Plain (recached x k (inc_edit x limit c d)).then
unfolding recached inc_edit
inc-plain x k limit c d = go x.series
  where
    go : (z : Bool) → Plain (cond z (evicting x (then.Increment c d)) (opening limit (then.Increment c d) x.factor x.factor_time x.used)).then
    go true = tt
    go false = tt

recached-from : (x : Slot) (k : Option CachedFactor) → x.series ≡ true → From x (recached x k (evicting x then.Nothing))
unfolding recached
recached-from x k e = evicts e refl refl

reset-from : (x : Slot) (limit count : ℕ) (m : HistoryUpdateMode) → x.series ≡ true → From x (reset x limit count m)
reset-from x limit count mode.Replace e = keeps e refl refl tt
reset-from x limit count (mode.Preserve p) e = evicts e refl refl

leaving-from : (x : Slot) (out : Bool) (c : ℕ) → x.series ≡ true → From x (absolute.leaving out x (then.Increment c 0))
leaving-from x true c e = evicts e refl refl
leaving-from x false c e = keeps e refl refl tt

-- what a first look leaves starts from all of the slot's buckets, or from those that are not expired
all_from : (x : Slot) (e : Edit) → Plain e.then → From (all_stay x) e → From x e
all_from x e plain (opens z n) = opens z n
all_from x e plain (keeps h z g n) = keeps h z g n
all_from x e plain (evicts h z g) = keeps h z g plain

look-from : (look t : ℕ) (x : Slot) (e : Edit) → Plain e.then → From (first_look look t x) e → From x e
look-from look t x e plain = by-look look t x (λ (y : Slot). From y e → From x e) (λ f. f) (all_from x e plain)

or-false : (a b : Bool) → a || b ≡ false → a ≡ false
or-false true b e = e
or-false false b e = refl

module _ (k : RoomKind) (s : Settings) (w : List ℕ) (t : ℕ) (key : Sent) (p : Passed k s w t key) where
  abbrev x : Slot
  x = slot_in s w t key

  -- ---- where the key's slot is

  at-find : x.at ≡ find w (key_for key)
  unfolding addressed
  at-find = slot-addressed (window_ticks s) t w key ∙ rw (le-ltb 32 (length key.bytes) p.short)

  -- a slot in use that has the key is the one that is opened
  found-find : find w (key_for key) < slots_of w → Found k s w t (find w (key_for key)) x
  unfolding addressed
  found-find l =
      let e : addressed w key ≡ find w (key_for key) = rw (le-ltb 32 (length key.bytes) p.short) in
      subst (λ (i : ℕ). Found k s w t i x) e (found k s w t key p (omega arith))

  pub owns : has_slot x ≡ true → Owns w x.at (key_for key)
  owns e =
      let l : find w (key_for key) < slots_of w = omega (arith, slot-within k s w t key p e, at-find) in
      subst (λ (i : ℕ). Owns w i (key_for key)) (sym at-find) (record { held = find-held w (key_for key) l; key = find-key w (key_for key) l })

  opened-slot : find w (key_for key) < slots_of w → has_slot x ≡ true
  opened-slot l =
      let f = found-find l in
      let i = find w (key_for key) in
      ap₂ (λ (a b : Bool). a || b) (series-is k s w t i x f) (cached-is k s w t i x f) ∙ right-has k (use_of w i) (use-right k s w t i x f)

  lacks : has_slot x ≡ false → slots_of w ≤ find w (key_for key)
  lacks e = go (dec_lt (find w (key_for key)) (slots_of w))
    where
      go : Dec (find w (key_for key) < slots_of w) → slots_of w ≤ find w (key_for key)
      go (yes l) = absurd (true≢false (sym (opened-slot l) ∙ e))
      go (no n) = omega arith

  -- ---- its series

  pub series-has : x.series ≡ true → Has w (key_for key) x.at
  series-has e =
      let h = true-or x.series x.cached e in
      let f = found_at k s w t key p h in
      record { inside = f.inside; key = (owns h).key; series = ap has_series (used-held w x.at (owns h).held) ∙ sym (series-is k s w t x.at x f) ∙ e }

  pub has-series : Distinct w → (i : ℕ) → Has w (key_for key) i → x.series ≡ true
  has-series d i h =
      let e : find w (key_for key) ≡ i = find-where w (key_for key) i d h.inside (λ z. free-has z h) h.key in
      series-is k s w t (find w (key_for key)) x (found-find (omega (arith, h.inside))) ∙ ap (λ (j : ℕ). has_series (use_of w j)) e ∙
      ap has_series (sym (used-held w i (λ z. free-has z h))) ∙ h.series

  -- ---- the slot that it has, or the lowest free one

  abbrev place : ℕ
  place = cond (has_slot (slot_in s w t key)) (slot_in s w t key).at (vacant w)

  here : has_slot x ≡ true → x.at ≡ place
  here e = sym (ap (λ (z : Bool). cond z (slot_in s w t key).at (vacant w)) e)

  updates-at : has_slot x ≡ true → (e : Edit) → From x e → Updates x w (key_for key) x.at e
  updates-at h e f = record { owns = owns h; place = refl; from = f }

  updates : has_slot x ≡ true → (e : Edit) → From x e → Updates x w (key_for key) place e
  updates h e f = record { owns = subst (λ (i : ℕ). Owns w i (key_for key)) (here h) (owns h); place = here h; from = f }

  free-at : (at : ℕ) → at ≡ vacant w → has_slot x ≡ false → at < slots_of w → Lacks w at (key_for key)
  free-at at q e l = subst (λ (i : ℕ). Lacks w i (key_for key)) (sym q) (record { free = vacant-free w (omega arith); none = lacks e })

  takes : Bytes key.bytes → has_slot x ≡ false → place < slots_of w → (e : Edit) → e.begins ≡ true → Plain e.then → Takes w (key_for key) place e
  takes by h l e b n =
      let q : place ≡ vacant w = ap (λ (z : Bool). cond z (slot_in s w t key).at (vacant w)) h in
      record { lacks = free-at place q h l; begins = b; plain = n; fits = key-fits (mark_of key.caller.party) key.bytes by p.short }

  -- ---- the calls of both kinds

  pub delete-moves : Moves x w (key_for key) x.at (deleting x)
  unfolding deleting
  delete-moves = go (has_slot x) refl
    where
      go : (z : Bool) → has_slot x ≡ z → Moves x w (key_for key) x.at (cond z Free Keep)
      go true e = owns e
      go false e = tt

  pub rate-moves : (limit : ℕ) → Moves x w (key_for key) x.at (limiting x limit)
  unfolding limiting
  rate-moves limit = go x.series refl
    where
      go : (z : Bool) → x.series ≡ z → Moves x w (key_for key) x.at (cond z (Update (relimited (keeping x then.Nothing) limit (used_with x limit))) Keep)
      go true e = updates-at (known-has x e) _ (keeps e refl refl tt)
      go false e = tt

  pub set-moves : Bytes key.bytes → (still : Bool) (limit count : ℕ) (comparator : RateLimitComparator) (mode : HistoryUpdateMode) →
      still ≡ idle_at x limit comparator count mode →
      Applies w (place_of w x) (join_ticks s) t (setting x still limit count mode) → Moves x w (key_for key) (place_of w x) (setting x still limit count mode)
  unfolding setting stored place_of
  set-moves by true limit count comparator mode i a = tt
  set-moves by false limit count comparator mode i a = go (eqb count 0) refl x.series refl x.cached refl a
    where
      go : (z : Bool) → eqb count 0 ≡ z → (r : Bool) → x.series ≡ r → (c : Bool) → x.cached ≡ c →
          Applies w place (join_ticks s) t (set_to x limit count mode z r c) →
          Moves x w (key_for key) place (set_to x limit count mode z r c)
      go true z r e c f o = let h = known-has x (busy-known x limit count comparator mode z i) in subst (λ (i : ℕ). Owns w i (key_for key)) (here h) (owns h)
      go false z true e c f o = updates (known-has x e) _ (reset-from x limit count mode e)
      go false z false e true f o = updates (cached-has x e f) _ (opens refl tt)
      go false z false e false f o = takes by (neither x e f) o.inside _ refl tt

-- ---- absolute

module _ (s : Settings) (w : List ℕ) (t : ℕ) (key : Sent) (p : Passed kind.Absolute s w t key) where
  abbrev slot : Slot
  slot = slot_in s w t key

  -- without a series there is no slot
  none : slot.series ≡ false → has_slot slot ≡ false
  none e = go (has_slot slot) refl
    where
      go : (z : Bool) → has_slot slot ≡ z → has_slot slot ≡ false
      go false h = h
      go true h =
          let l : find w (key_for key) < slots_of w = omega (arith, slot-within kind.Absolute s w t key p h, at-find kind.Absolute s w t key p) in
          let f = found-find kind.Absolute s w t key p l in
          let i = find w (key_for key) in
          absurd (true≢false (sym (series-is kind.Absolute s w t i slot f ∙ right-series (use_of w i) (use-right kind.Absolute s w t i slot f)) ∙ e))

  picked : (z : Bool) → (z ≡ true → slot.series ≡ true) →
      Moves slot w (key_for key) slot.at (absolute.pick_change z (Update (evicting slot then.Nothing)) Keep)
  picked true f = updates-at kind.Absolute s w t key p (known-has slot (f refl)) _ (evicts (f refl) refl refl)
  picked false f = tt

  pub get-moves : Moves slot w (key_for key) slot.at (absolute.get_change slot)
  unfolding absolute.get_change
  get-moves = picked slot.series (λ e. e)

  -- as a first look leaves it
  abbrev looked : Slot
  looked = looked_in s w t key

  look-evicts : slot.series ≡ true → From slot (evicting looked then.Nothing)
  look-evicts e = look-from (look_ticks s) t slot (evicting looked then.Nothing) tt (evicts (look-series (look_ticks s) t slot ∙ e) refl refl)

  pub ask-moves : (again : Bool) → Moves slot w (key_for key) slot.at (absolute.ask_change again looked)
  unfolding absolute.get_change
  ask-moves true = go looked.series refl
    where
      go : (z : Bool) → looked.series ≡ z → Moves slot w (key_for key) slot.at (absolute.pick_change z (Update (evicting looked then.Nothing)) Keep)
      go true e =
          let h = sym (look-series (look_ticks s) t slot) ∙ e in
          updates-at kind.Absolute s w t key p (known-has slot h) _ (look-evicts h)
      go false e = tt
  ask-moves false = tt

  pub inc-moves : Bytes key.bytes → (limit c : ℕ) (may out : Bool) →
      Applies w (place_of w slot) (join_ticks s) t (absolute.inc_change limit c may out slot looked) →
      Moves slot w (key_for key) (place_of w slot) (absolute.inc_change limit c may out slot looked)
  unfolding absolute.inc_change place_of
  inc-moves by limit c may out a = go slot.series refl may a
    where
      go : (z : Bool) → slot.series ≡ z → (y : Bool) →
          Applies w (place kind.Absolute s w t key p) (join_ticks s) t (inc_to slot looked limit c out z y) →
          Moves slot w (key_for key) (place kind.Absolute s w t key p) (inc_to slot looked limit c out z y)
      go true e true o = updates kind.Absolute s w t key p (known-has slot e) _ (leaving-from slot out c e)
      go true e false o = updates kind.Absolute s w t key p (known-has slot e) _ (look-evicts e)
      go false e y o = takes kind.Absolute s w t key p by (none e) o.inside _ refl tt

-- ---- suppressed

module _ (s : Settings) (w : List ℕ) (t : ℕ) (key : Sent) (p : Passed kind.Suppressed s w t key) where
  abbrev y : Slot
  y = slot_in s w t key

  abbrev site : ℕ
  site = cond (has_slot (slot_in s w t key)) (slot_in s w t key).at (vacant w)

  pub snapshot-moves : (k : Option CachedFactor) → Moves y w (key_for key) y.at (get_change y k)
  unfolding get_change
  snapshot-moves k = go y.series refl
    where
      go : (z : Bool) → y.series ≡ z → Moves y w (key_for key) y.at (cond z (Update (recached y k (evicting y then.Nothing))) Keep)
      go true e = updates-at kind.Suppressed s w t key p (known-has y e) _ (recached-from y k e)
      go false e = tt

  -- as a first look leaves it: in the same place
  abbrev z : Slot
  z = looked_in s w t key

  place_same : place_of w z ≡ site
  unfolding place_of
  place_same =
      ap₂ (λ (a b : Bool). cond (a || b) z.at (vacant w)) (look-series (look_ticks s) t y) (look-cached (look_ticks s) t y) ∙
      ap (λ (i : ℕ). cond (has_slot y) i (vacant w)) (look_at (look_ticks s) t y)

  lone-by : Bytes key.bytes → (b : Bool) → y.series ≡ false → y.cached ≡ b → site < slots_of w → Moves y w (key_for key) site (lone_by b t)
  lone-by by true e f l = updates kind.Suppressed s w t key p (cached-has y e f) _ (opens refl tt)
  lone-by by false e f l = takes kind.Suppressed s w t key p by (neither y e f) l _ refl tt

  lone-moves : Bytes key.bytes → (k : Option CachedFactor) → y.series ≡ false → site < slots_of w → Moves y w (key_for key) site (lone_change z.cached k t)
  lone-moves by None e l = tt
  lone-moves by (Some k) e l = lone-by by z.cached e (sym (look-cached (look_ticks s) t y)) l

  recached-plain : (k : Option CachedFactor) → Plain (recached z k (evicting z then.Nothing)).then
  unfolding recached
  recached-plain k = tt

  pub factor-moves : Bytes key.bytes → (k : Option CachedFactor) → place_of w z < slots_of w → Moves y w (key_for key) (place_of w z) (factor_change z k t)
  unfolding factor_change get_change
  factor-moves by k l =
      subst (λ (i : ℕ). Moves y w (key_for key) i (factor_change z k t)) (sym place_same) (go z.series refl (subst (λ (i : ℕ). i < slots_of w) place_same l))
    where
      go : (b : Bool) → z.series ≡ b → site < slots_of w →
          Moves y w (key_for key) site (cond b (cond b (Update (recached z k (evicting z then.Nothing))) Keep) (lone_change z.cached k t))
      go true e i =
          updates kind.Suppressed s w t key p (known-has y (sym (look-series (look_ticks s) t y) ∙ e)) _
          (look-from (look_ticks s) t y _ (recached-plain k) (recached-from z k e))
      go false e i = lone-moves by k (sym (look-series (look_ticks s) t y) ∙ e) i

  has_same : has_slot z ≡ has_slot y
  has_same = ap₂ (λ (a b : Bool). a || b) (look-series (look_ticks s) t y) (look-cached (look_ticks s) t y)

  pub draws-moves : Bytes key.bytes → (limit c d : ℕ) (k : Option CachedFactor) → place_of w z < slots_of w →
      Moves y w (key_for key) (place_of w z) (inc_change z limit c d k)
  unfolding inc_change
  draws-moves by limit c d k l =
      subst (λ (i : ℕ). Moves y w (key_for key) i (inc_change z limit c d k)) (sym place_same)
      (go (has_slot z) refl (subst (λ (i : ℕ). i < slots_of w) place_same l))
    where
      go : (b : Bool) → has_slot z ≡ b → site < slots_of w →
          Moves y w (key_for key) site (cond b (Update (recached z k (inc_edit z limit c d))) (Take (recached z k (inc_edit z limit c d))))
      go true e i =
          updates kind.Suppressed s w t key p (sym has_same ∙ e) _ (look-from (look_ticks s) t y _ (inc-plain z k limit c d) (inc-from z k limit c d))
      go false e i =
          takes kind.Suppressed s w t key p by (sym has_same ∙ e) i _ (inc-begins z k limit c d (or-false z.series z.cached e)) (inc-plain z k limit c d)
