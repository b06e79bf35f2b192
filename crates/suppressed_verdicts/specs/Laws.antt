-- What the code of the calls has found, turned into what the calls are to answer; and that their changes can be carried out.
-- Assumes nothing.
use Rattle.std.specs.Prelude.{◌≡◌, Bool, true, ◌||◌, cond, ℕ, ◌+◌, ◌≤◌, ◌<◌, length, drop, Ok, Option, Some, None, Err}
use Rattle.std.proofs.Math.Path.{refl, sym, ap, ap₂}
use Rattle.std.proofs.Common.{subst, ◌∙◌, arith}
use Rattle.std.proofs.Math.Bool.{false}
use mathlib.Core.List.{List, []}
use borrow.Author.Tests.{ltb-false, leb-false}
use Rattle.common.specs.Refusals.{first, Positive, AllFalse, all-false, refuse}
use Rattle.common.specs.declared.refusal.Refusal.{Refusal}
use Rattle.settings.specs.Settings.{Proper}
use Rattle.settings.specs.Clock.{join_ticks}
use Rattle.answers.specs.declared.RateLimitDecision.TheVariants as decision
use Rattle.answers.specs.declared.SuppressedRateLimitSnapshot.{SuppressedRateLimitSnapshot}
use Rattle.settings.specs.declared.Settings.{Settings}
use Rattle.common.specs.declared.units.RateLimit.{RateLimit}
use Rattle.layout.specs.Layout.{most_total}
use Rattle.ring.specs.Ring.{count_of, buckets}
use Rattle.ring.specs.Sums.{sum-none}
use Rattle.ring.specs.View.{view-length}
use Rattle.room.specs.Room.{Room, slots_of, ring_of, body_of}
use Rattle.parties.specs.Parties.{Sent, none_left}
use Rattle.judge.specs.declared.Judged.{Judged}
use Rattle.rules.specs.declared.RoomKind.TheVariants as kind
use Rattle.opened.specs.declared.Slot.{Slot}
use Rattle.judge.specs.Held.{held_in}
use Rattle.judge.specs.Judge.{early, judged_by, Passed, slot_in, looked_in, slot_by}
use Rattle.opened.specs.Slot.{has_slot}
use Rattle.judge.proofs.Laws.{judged-ok, passed, free-there}
use Rattle.judge.specs.Verdict.{Told}
use Rattle.judge.proofs.Verdict.{call-refused, call-own, call-done}
use Rattle.change.specs.declared.Change.{Change}
use Rattle.change.specs.declared.Change.TheVariants.{Keep, Update, Take}
use Rattle.edit.specs.declared.Edit.{Edit}
use Rattle.edit.specs.declared.Then.TheVariants.{Nothing, Increment}
use Rattle.change.specs.Words.{EditsAt, Applies, applied}
use Rattle.edit.specs.Bodies.{Fits}
use Rattle.plan.specs.Known.{Known, evicting-edits, opening-edits}
use Rattle.plan.specs.Plan.{place_of, lacks_at, full_after, evicting, opening}
use Rattle.plan.specs.Seen.{full-after}
use Rattle.rules.specs.Both.{overdue_in, passes, ring_full}
use Rattle.rules.specs.declared.Asked.{Asked}
use Rattle.rules.specs.declared.Outcome.{Outcome}
use Rattle.factor_opened.specs.Opened.{InRoom, asked_at}
use Rattle.forecast_opened.specs.Forecast.{forecast_at, outcome_at, outcome-declined}
use Rattle.suppressed_edits.specs.Edits.{factor_after, time_after, use_after, recached, get_change, lone_by, lone_change, factor_change, inc_edit, inc_change}
use Rattle.suppressed_refusals.specs.Refusals.{inc_late}
use Rattle.suppressed_verdicts.specs.Calls as Calls
use Rattle.suppressed_verdicts.specs.Opened.{asking_at, snapshot_at, get_does, get_on, get, factor_own, factor_does, factor_on, get_factor}
use Rattle.suppressed_verdicts.specs.Opened.{limit_at, inc_own, inc_does, inc_on, inc_outcome, inc}
use Rattle.suppressed_verdicts.specs.Seen.{get-opened, factor-opened, inc-opened}
use Rattle.suppressed_verdicts.specs.Standing.{Stood, stood-slot, stood-looked, place_inside}
use Rattle.suppression.specs.declared.CachedFactor.{CachedFactor}

-- ---- edits that can be carried out

-- of a series without its expired buckets
module _ (s : Settings) (w : List ℕ) (t at : ℕ) (out : Bool) (x : Slot) (o : Room w) (h : Known kind.Suppressed s w t at out x) where
  pub get-edits : (k : Option CachedFactor) → EditsAt w at (join_ticks s) t (recached x k (evicting x Nothing))
  unfolding recached
  get-edits k = evicting-edits kind.Suppressed s w t at out x o h (join_ticks s) (recached x k (evicting x Nothing)) refl refl refl refl tt

  -- what stays fits: c of count, d of it declined
  inc-fits : (c d : ℕ) → d ≤ c → passes c x.pass.live_total ≡ false → full_after (ring_of w) (join_ticks s) t x.pass.expired x ≡ false →
      Fits (ring_of w) (join_ticks s) t c d (drop x.pass.expired (buckets (ring_of w) (body_of w at)))
  unfolding passes ring_full
  inc-fits c d l n f =
      let xs = buckets (ring_of w) (body_of w at) in
      let k = x.pass.expired in
      let m = h.measured in
      let g : ring_full (ring_of w) (join_ticks s) t (drop k xs) ≡ false =
      sym (full-after (ring_of w) (join_ticks s) t k x xs (m.buckets-are ∙ sym (view-length (ring_of w) (body_of w at))) m.newest-is) ∙ f in
      record {
        least = l;
        total = omega (arith, ltb-false most_total (x.pass.live_total + c) n, m.total);
        free = λ z. leb-false (ring_of w) (length (drop k xs)) (rw z at g);
      }

  inc-edits : (k : Option CachedFactor) (limit c d : ℕ) → d ≤ c → passes c x.pass.live_total ≡ false →
      full_after (ring_of w) (join_ticks s) t x.pass.expired x ≡ false →
      EditsAt w at (join_ticks s) t (recached x k (evicting x (Increment c d)))
  unfolding recached
  inc-edits k limit c d l n f = evicting-edits kind.Suppressed s w t at out x o h (join_ticks s) (recached x k (evicting x (Increment c d))) refl refl refl refl
      (inc-fits c d l n f)

-- of a series that begins
new-edits : (w : List ℕ) (at b t : ℕ) (o : Room w) (h : at < slots_of w) (x : Slot) (k : Option CachedFactor) (limit c d f u v : ℕ) → d ≤ c → c ≤ most_total →
    EditsAt w at b t (recached x k (opening limit (Increment c d) f u v))
unfolding recached
new-edits w at b t o h x k limit c d f u v l n =
    opening-edits w at o h b t limit (factor_after k f) (time_after k u) (use_after k x) (Increment c d)
    (record { least = l; total = omega (arith, sum-none count_of); free = λ j. omega (arith, o.some) })

-- ---- a slot's place

module _ (w : List ℕ) (x : Slot) where
  pub place-used : has_slot x ≡ true → place_of w x ≡ x.at
  unfolding place_of
  place-used h = rw h

  pub with-series : x.series ≡ true → has_slot x ≡ true
  with-series h = ap (λ (z : Bool). z || x.cached) h

-- ---- get, of a slot x that the code has found

module _ (s : Settings) (w : List ℕ) (t : ℕ) (key : Sent) (e : early kind.Suppressed s w t key ≡ 0) (x : Slot) (p : x ≡ slot_in s w t key) where
  opening-passed : Passed kind.Suppressed s w t key
  opening-passed = passed kind.Suppressed s w t key e

  -- the factor that the code has worked out is the one that is asked for
  get-is : (a : Asked) → a ≡ asked_at s w t x x.limit → get s w t key ≡ get_on s w t key x a
  unfolding get
  get-is a h = sym (ap₂ (λ (y : Slot) (b : Asked). get_on s w t key y b) p (h ∙ ap (λ (y : Slot). asking_at s w t y) p))

  -- y are the words after, u the snapshot
  pub get-done : (a : Asked) → a ≡ asked_at s w t x x.limit →
      (u : SuppressedRateLimitSnapshot) (ch : Change) (y : List ℕ) → u ≡ snapshot_at x a.factor → ch ≡ get_change x a.caching →
      y ≡ applied w x.at key (join_ticks s) t ch → Told (Calls.get s w t key) (Ok u) y
  unfolding get_on first
  get-done a h u ch y g k q =
      rw (← get-opened s w t key, get-is a h)
      (call-done refuse kind.Suppressed s w t key [] (get_does s w t key x a) (Ok u) y e refl
      (record { answer = ap (λ (z : SuppressedRateLimitSnapshot). Ok z) g; words = q ∙ ap (applied w x.at key (join_ticks s) t) k }))

  get_by : (k : Option CachedFactor) (z : Bool) → x.series ≡ z → Applies w x.at (join_ticks s) t (cond z (Update (recached x k (evicting x Nothing))) Keep)
  get_by k true h = get-edits s w t x.at true x opening-passed.room ((stood-slot s w t key opening-passed x p).known h) k
  get_by k false h = opening-passed.room

  get-carries : (k : Option CachedFactor) → Applies w x.at (join_ticks s) t (get_change x k)
  unfolding get_change
  get-carries k = get_by k x.series refl

  pub get-applies : (k : Option CachedFactor) (ch : Change) → ch ≡ get_change x k → Applies w x.at (join_ticks s) t ch
  get-applies k ch h = subst (λ (d : Change). Applies w x.at (join_ticks s) t d) (sym h) (get-carries k)

-- ---- get_suppression_factor and inc, of a slot x that the code has found and looked at

module _ (s : Settings) (w : List ℕ) (t : ℕ) (key : Sent) (e : early kind.Suppressed s w t key ≡ 0) (x : Slot) (p : x ≡ looked_in s w t key) where
  passing : Passed kind.Suppressed s w t key
  passing = passed kind.Suppressed s w t key e

  stood : Stood s w t (overdue_in s t (held_in w key)) x
  stood = stood-looked s w t key passing x p

  known-place : x.series ≡ true → Known kind.Suppressed s w t (place_of w x) (overdue_in s t (held_in w key)) x
  known-place h =
      subst (λ (n : ℕ). Known kind.Suppressed s w t n (overdue_in s t (held_in w key)) x) (sym (place-used w x (with-series w x h))) (stood.known h)

  -- where the last second is asked for
  pub in-room : InRoom w x
  in-room = record {
    room = passing.room;
    inside = λ y. (stood.known y).inside;
    sound = λ y. (stood.known y).measured.sound;
    some = λ y. (stood.known y).measured.some;
  }

  factor-is : (a : Asked) → a ≡ asked_at s w t x x.limit → get_factor s w t key ≡ factor_on s w t key x a
  unfolding get_factor
  factor-is a h = sym (ap₂ (λ (y : Slot) (b : Asked). factor_on s w t key y b) p (h ∙ ap (λ (y : Slot). asking_at s w t y) p))

  -- at is the place that the code has found, none whether the party has no slot left, full whether one is needed then
  module _ (at : ℕ) (m : at ≡ place_of w x) (none : Bool) (g : none ≡ none_left w key.caller) (full : Bool) (n : full ≡ lacks_at none x) where
    full_is : lacks_at (none_left w key.caller) x ≡ full
    full_is = sym (n ∙ ap (λ (z : Bool). lacks_at z x) g)

    pub factor-full : full ≡ true → Told (Calls.get_factor s w t key) (refuse 11) w
    unfolding factor_on first
    factor-full f =
        let a : Asked = asked_at s w t x x.limit in
        rw (← factor-opened s w t key, factor-is a refl)
        (call-own refuse kind.Suppressed s w t key (factor_own w key x) (factor_does s w t key x a) 11 e (sym (rw (full_is, f))) (λ z. omega arith))

    pub factor-done : full ≡ false → (a : Asked) → a ≡ asked_at s w t x x.limit →
        (ch : Change) (y : List ℕ) → ch ≡ factor_change x a.caching t → y ≡ applied w at key (join_ticks s) t ch →
        Told (Calls.get_factor s w t key) (Ok a.factor) y
    unfolding factor_on first
    factor-done f a h ch y k q =
        rw (← factor-opened s w t key, factor-is a h)
        (call-done refuse kind.Suppressed s w t key (factor_own w key x) (factor_does s w t key x a) (Ok a.factor) y e (rw (full_is, f))
        (record { answer = refl; words = q ∙ ap₂ (λ (i : ℕ) (d : Change). applied w i key (join_ticks s) t d) m k }))

    inside : lacks_at (none_left w key.caller) x ≡ false → place_of w x < slots_of w
    inside = place_inside s w t (overdue_in s t (held_in w key)) x stood (none_left w key.caller) (free-there kind.Suppressed s w t key passing)

    lone-by : full ≡ false → (z : Bool) → Applies w (place_of w x) (join_ticks s) t (lone_by z t)
    lone-by f true = opening-edits w (place_of w x) passing.room (inside (full_is ∙ f)) (join_ticks s) t 0 0 t 2 Nothing tt
    lone-by f false = opening-edits w (place_of w x) passing.room (inside (full_is ∙ f)) (join_ticks s) t 0 0 t 2 Nothing tt

    lone-applies : full ≡ false → (z : Bool) (k : Option CachedFactor) → Applies w (place_of w x) (join_ticks s) t (lone_change z k t)
    lone-applies f z None = passing.room
    lone-applies f z (Some k) = lone-by f z

    factor-by : full ≡ false → (k : Option CachedFactor) (z : Bool) → x.series ≡ z →
        Applies w (place_of w x) (join_ticks s) t (cond z (cond z (Update (recached x k (evicting x Nothing))) Keep) (lone_change x.cached k t))
    factor-by f k true h = get-edits s w t (place_of w x) (overdue_in s t (held_in w key)) x passing.room (known-place h) k
    factor-by f k false h = lone-applies f x.cached k

    factor-carries : full ≡ false → (k : Option CachedFactor) → Applies w (place_of w x) (join_ticks s) t (factor_change x k t)
    unfolding factor_change get_change
    factor-carries f k = factor-by f k x.series refl

    pub factor-applies : full ≡ false → (k : Option CachedFactor) (ch : Change) → ch ≡ factor_change x k t → Applies w at (join_ticks s) t ch
    factor-applies f k ch h =
        subst (λ (i : ℕ). Applies w i (join_ticks s) t ch) (sym m)
        (subst (λ (d : Change). Applies w (place_of w x) (join_ticks s) t d) (sym h) (factor-carries f k))

    -- ---- inc
    module _ (rate : RateLimit) (c draw r late : ℕ) (i : r ≡ ring_of w) (l : late ≡ first (inc_late s x full r t rate c draw)) where
      late-positive : Positive (inc_late s x (lacks_at (none_left w key.caller) x) (ring_of w) t rate c draw)
      late-positive = omega arith

      late_is : late ≡ first (inc_late s x (lacks_at (none_left w key.caller) x) (ring_of w) t rate c draw)
      late_is = l ∙ ap₂ (λ (b : Bool) (j : ℕ). first (inc_late s x b j t rate c draw)) (sym full_is) i

      inc_is : (o : Outcome) → o ≡ inc_outcome s w t rate c draw x → inc s w t key rate c draw ≡ inc_on s w t key rate c draw x o
      unfolding inc
      inc_is o h =
          sym (ap₂ (λ (y : Slot) (b : Outcome). inc_on s w t key rate c draw y b) p (h ∙ ap (λ (y : Slot). inc_outcome s w t rate c draw y) p))

      pub inc-late : (late ≡ 0 → ⊥) → Told (Calls.inc s w t key rate c draw) (decision.Refused late) w
      unfolding inc_on
      inc-late z =
          let o : Outcome = inc_outcome s w t rate c draw x in
          rw (← inc-opened s w t key rate c draw, inc_is o refl)
          (call-own decision.Refused kind.Suppressed s w t key (inc_own s w t key rate c draw x) (inc_does s w t key rate c x o) late e late_is z)

      module _ (f : late ≡ 0) where
        none-late : AllFalse (inc_late s x (lacks_at (none_left w key.caller) x) (ring_of w) t rate c draw)
        none-late = all-false (inc_late s x (lacks_at (none_left w key.caller) x) (ring_of w) t rate c draw) late-positive (sym late_is ∙ f)

        pub inc-total : x.pass.live_total + c ≤ most_total
        unfolding passes
        inc-total = ltb-false most_total (x.pass.live_total + c) none-late.1.1.0

        edit-by : (k : Option CachedFactor) (limit d : ℕ) → d ≤ c → (z : Bool) → x.series ≡ z →
            EditsAt w (place_of w x) (join_ticks s) t
            (recached x k (cond z (evicting x (Increment c d)) (opening limit (Increment c d) x.factor x.factor_time x.used)))
        edit-by k limit d b true h =
            inc-edits s w t (place_of w x) (overdue_in s t (held_in w key)) x passing.room (known-place h) k limit c d b none-late.1.1.0
            none-late.1.1.1.1.0
        edit-by k limit d b false h =
            new-edits w (place_of w x) (join_ticks s) t passing.room (inside none-late.1.1.1.0) x k limit c d x.factor
            x.factor_time x.used b (omega (arith, inc-total))

        either : (y : Edit) (z : Bool) → EditsAt w (place_of w x) (join_ticks s) t y → Applies w (place_of w x) (join_ticks s) t (cond z (Update y) (Take y))
        either y true g = g
        either y false g = g

        inc-carries : (k : Option CachedFactor) (limit d : ℕ) → d ≤ c → Applies w (place_of w x) (join_ticks s) t (inc_change x limit c d k)
        unfolding inc_change inc_edit
        inc-carries k limit d b = either (recached x k (inc_edit x limit c d)) (has_slot x) (edit-by k limit d b x.series refl)

        -- o is the outcome that the code has found, at the limit and the forecast that it has worked out
        module _ (o : Outcome) (limit ahead : ℕ) (a : limit ≡ limit_at s x rate) (b : ahead ≡ forecast_at x c)
            (h : o ≡ outcome_at s w t x limit ahead c draw) where
          outcome-is : o ≡ inc_outcome s w t rate c draw x
          outcome-is = h ∙ ap₂ (λ (y z : ℕ). outcome_at s w t x y z c draw) a b

          declined-le : o.declined ≤ c
          declined-le = subst (λ (y : Outcome). y.declined ≤ c) (sym h) (outcome-declined s w t x limit ahead c draw)

          pub inc-done : (ch : Change) (y : List ℕ) → ch ≡ inc_change x limit c o.declined o.caching →
              y ≡ applied w at key (join_ticks s) t ch → Told (Calls.inc s w t key rate c draw) o.decision y
          unfolding inc_on
          inc-done ch y k q =
              rw (← inc-opened s w t key rate c draw, inc_is o outcome-is)
              (call-done decision.Refused kind.Suppressed s w t key (inc_own s w t key rate c draw x) (inc_does s w t key rate c x o) o.decision y e
              (sym late_is ∙ f)
              (record {
                answer = refl;
                words = q ∙ ap₂ (λ (j : ℕ) (d : Change). applied w j key (join_ticks s) t d) m
                    (k ∙ ap (λ (j : ℕ). inc_change x j c o.declined o.caching) a);
              }))

          pub inc-applies : (ch : Change) → ch ≡ inc_change x limit c o.declined o.caching → Applies w at (join_ticks s) t ch
          inc-applies ch k =
              subst (λ (j : ℕ). Applies w j (join_ticks s) t ch) (sym m)
              (subst (λ (d : Change). Applies w (place_of w x) (join_ticks s) t d) (sym k) (inc-carries o.caching limit o.declined declined-le))

          pub inc-edit : x.series ≡ true → EditsAt w x.at (join_ticks s) t (recached x o.caching (evicting x (Increment c o.declined)))
          inc-edit z =
              inc-edits s w t x.at (overdue_in s t (held_in w key)) x passing.room (stood.known z) o.caching limit c o.declined declined-le
              none-late.1.1.0
              none-late.1.1.1.1.0

-- ---- the calls, from what the judging function has found

module _ (b : Bool) (s : Settings) (w : List ℕ) (t : ℕ) (key : Sent) (j : Judged) (h : Ok j ≡ judged_by b kind.Suppressed s w t key) where
  pub not-early : early kind.Suppressed s w t key ≡ 0
  not-early = (judged-ok kind.Suppressed s w t key b j h).0

  pub slot-found : j.slot ≡ slot_by b s w t key
  slot-found = (judged-ok kind.Suppressed s w t key b j h).1

  pub none_found : j.none ≡ none_left w key.caller
  none_found = (judged-ok kind.Suppressed s w t key b j h).2

  pub room-found : Room w
  room-found = (passed kind.Suppressed s w t key not-early).room

  pub proper-found : Proper s
  proper-found = (passed kind.Suppressed s w t key not-early).settings

  -- where the last second is asked for
  pub slot-in-room : slot_by b s w t key ≡ slot_in s w t key → InRoom w j.slot
  slot-in-room e =
      let there = stood-slot s w t key (passed kind.Suppressed s w t key not-early) j.slot (slot-found ∙ e) in
      record {
        room = room-found;
        inside = λ y. (there.known y).inside;
        sound = λ y. (there.known y).measured.sound;
        some = λ y. (there.known y).measured.some;
      }

-- refused early, whichever look was to be taken
module _ (b : Bool) (s : Settings) (w : List ℕ) (t : ℕ) (key : Sent) (r : Refusal) (e : Err r ≡ judged_by b kind.Suppressed s w t key) where
  pub get-early : Told (Calls.get s w t key) (Err r) w
  unfolding Calls.get
  get-early = call-refused refuse kind.Suppressed s w t key _ _ b r e

  pub factor-early : Told (Calls.get_factor s w t key) (Err r) w
  unfolding Calls.get_factor
  factor-early = call-refused refuse kind.Suppressed s w t key _ _ b r e

  pub inc-early : (rate : RateLimit) (c draw : ℕ) → Told (Calls.inc s w t key rate c draw) (decision.Refused r.0) w
  unfolding Calls.inc
  inc-early rate c draw = call-refused decision.Refused kind.Suppressed s w t key _ _ b r e
