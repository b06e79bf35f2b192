-- Each call with a key leaves of its key what the limiter of one key says (`left_is`), where it is not turned away.
-- Assumes nothing.
use Rattle.std.specs.Prelude.{◌≡◌, Bool, true, false, cond, ◌&&◌, ◌||◌, List, [], ◌∷◌, ◌≢◌, ℕ, eqb, Option, Some, None}
use Rattle.std.proofs.Math.Path.{refl}
use Rattle.std.proofs.Common.{sym, ap, ap₂, subst, ◌∙◌, eqb-true}
use Rattle.std.proofs.lemmas.Bool.{false≢true}
use Rattle.base.specs.Decides.{and-true}
use Rattle.common.specs.Refusals.{first}
use Rattle.common.specs.declared.comparator.RateLimitComparator.{RateLimitComparator}
use Rattle.common.specs.declared.units.RateLimit.{RateLimit}
use Rattle.answers.specs.declared.HistoryUpdateMode.{HistoryUpdateMode}
use Rattle.answers.specs.declared.RateLimitDecision.{RateLimitDecision}
use Rattle.settings.specs.Clock.{window_ticks, join_ticks}
use Rattle.settings.specs.declared.Settings.{Settings}
use Rattle.ring.specs.declared.Bucket.{Bucket}
use Rattle.ring.specs.Ring.{bucket}
use Rattle.rules.specs.Buckets.{joined}
use Rattle.rules.specs.Held.{Held, nothing, has_any}
use Rattle.rules.specs.Both.{limit_in, live_of, looked_of, overdue_in}
use Rattle.rules.specs.Absolute.{allowed, found_for}
use Rattle.rules.specs.Suppressed as rules
use Rattle.rules.specs.Sets as sets
use Rattle.rules.specs.declared.RoomKind.{RoomKind}
use Rattle.rules.specs.declared.RoomKind.TheVariants as kind
use Rattle.keys.specs.declared.Key.{Key}
use Rattle.room.specs.Room.{ring_of, holder_of, use_of, key_at, with_reading}
use Rattle.frame.specs.Keys.{Bytes}
use Rattle.frame.specs.Distinct.{Distinct}
use Rattle.parties.specs.Parties.{Sent, key_for}
use Rattle.opened.specs.declared.Slot.{Slot}
use Rattle.opened.specs.Slot.{has_slot}
use Rattle.opened.specs.Sound.{has_series, has_cached, right_use}
use Rattle.factor_opened.specs.Opened.{stays_at}
use Rattle.judge.specs.Held.{held_by, held_in}
use Rattle.judge.specs.Judge.{Passed, slot_in, looked_in}
use Rattle.judge.proofs.Laws.{passed}
use Rattle.plan.specs.Plan.{place_of}
use Rattle.plan.specs.Seen.{Seen, seen, has-is}
use Rattle.plan.specs.Known.{used-as, use-right, series-is, cached-is}
use Rattle.suppressed_edits.specs.Edits.{factor_after, time_after, use_left, use_after}
use Rattle.suppressed_verdicts.specs.Seen as sup
use Rattle.suppressed_verdicts.specs.Calls as OnSuppressed
use Rattle.absolute_verdicts.specs.Calls as OnAbsolute
use Rattle.shared_opened.specs.Opened.{forgotten, used_with}
use Rattle.calls.specs.Calls.{found_at, true-or}
use Rattle.calls.specs.Applies.{busy-known, place-own}
use Rattle.calls.specs.Seen.{idle-is}
use Rattle.calls.specs.Delete as Delete
use Rattle.calls.specs.Rate as Rate
use Rattle.calls.specs.Set as Set
use Rattle.leaves.specs.Calls.{Stands}
use Rattle.leaves.specs.AbsoluteLeaves.{Left as LeftWith, IncLaw}
use Rattle.leaves.proofs.Absolute as absolutely
use Rattle.leaves.specs.SuppressedFollows.{Gets, GivesFactor}
use Rattle.leaves.proofs.SuppressedFollows as own_laws
use Rattle.leaves.specs.Follows.{unrefused-early}
use Rattle.leaves.specs.Shared.{RateRule, DeleteRule, SetRule, rate-follows, delete-follows, set-follows}
use Rattle.steps.specs.Leaves.{sent-holder, mark-some}
use Rattle.steps.specs.Places.{owns}
use Rattle.steps.specs.History.{Sane}
use Rattle.steps.specs.Ops.{Op, inc, is_allowed, get, draws, snapshot, get_factor, set_rate, set, delete, cleanup, cleanup_both, clear, after}
use Rattle.steps.specs.Table.{table_of, absolute_inc, plain, suppressed_inc, suppressed_factor}
use Rattle.steps.specs.Table as Tables
use Rattle.apart.specs.Holds.{held_for}
use Rattle.apart.proofs.Holds.{held-short, stands-held, freed-held, read_held}
use Rattle.apart.specs.One.{plainly, caching, left_by, key_in, Named}
use Rattle.suppression.specs.declared.CachedFactor.{CachedFactor}

-- what is cached, from the words of the slot
cached-stands : (k : Option CachedFactor) (x : Slot) (is : Bool) (limit : ℕ) (ys : List Bucket) (h : Held) → stays_at x ≡ is → (is ≡ true → x.factor ≡ h.factor) →
    (is ≡ true → x.factor_time ≡ h.since) →
    held_by (has_series (use_after k x)) (has_cached (use_after k x)) limit ys (factor_after k x.factor) (time_after k x.factor_time) ≡ caching k is limit ys h
cached-stands (Some c) x is limit ys h e f g = refl
cached-stands None x true limit ys h e f g =
    ap (λ (z : Bool). held_by (has_series (use_left z)) (has_cached (use_left z)) limit ys x.factor x.factor_time) e ∙
    ap₂ (λ (m n : ℕ). held_by true true limit ys m n) (f refl) (g refl)
cached-stands None x false limit ys h e f g =
    ap (λ (z : Bool). held_by (has_series (use_left z)) (has_cached (use_left z)) limit ys x.factor x.factor_time) e

-- a factor that stays is cached
stays-cached : (s : Settings) (t : ℕ) (out : Bool) (h : Held) → rules.stays s t out h ≡ true → h.cached ≡ true
unfolding rules.stays
stays-cached s t out h e = (and-true h.cached _ e).0

-- a use that is right, by its two parts
right-use : (k : RoomKind) (u : ℕ) (a b : Bool) → right_use k u ≡ true → has_series u ≡ a → has_cached u ≡ b → u ≡ cond a (cond b 3 1) 2
unfolding right_use
right-use kind.Absolute u a b e p q =
    let n : u ≡ 1 = eqb-true u 1 e in
    n ∙ sym (ap₂ (λ (x y : Bool). cond x (cond y 3 1) 2) (sym p ∙ ap has_series n) (sym q ∙ ap has_cached n))
right-use kind.Suppressed u a b e p q = go (eqb u 1) refl (eqb u 3) refl (eqb u 2) refl
  where
    by : (n : ℕ) → u ≡ n → n ≡ cond (has_series n) (cond (has_cached n) 3 1) 2 → u ≡ cond a (cond b 3 1) 2
    by n z f = z ∙ f ∙ ap₂ (λ (x y : Bool). cond x (cond y 3 1) 2) (ap has_series (sym z) ∙ p) (ap has_cached (sym z) ∙ q)

    go : (x : Bool) → eqb u 1 ≡ x → (y : Bool) → eqb u 3 ≡ y → (z : Bool) → eqb u 2 ≡ z → u ≡ cond a (cond b 3 1) 2
    go true x y y' z z' = by 1 (eqb-true u 1 x) refl
    go false x true y z z' = by 3 (eqb-true u 3 y) refl
    go false x false y true z = by 2 (eqb-true u 2 z) refl
    go false x false y false z =
        absurd (false≢true (sym (ap₂ (λ (m n : Bool). (m || n) || (eqb u 2 || n)) x y ∙ ap (λ (m : Bool). (false || false) || (m || false)) z) ∙ e))

module _ (k : RoomKind) (s : Settings) (w : List ℕ) (t : ℕ) (key : Sent) (p : Passed k s w t key) where
  short-held : held_for w (key_for key) ≡ held_in w key
  short-held = sym (held-short w key p.short)

  some : (key_for key).holder ≢ 0
  some z = mark-some key.caller.party p.party (sym (sent-holder key) ∙ z)

  -- only the reading: what it holds stays
  keeps : (v : List ℕ) → v ≡ with_reading w t → held_for v (key_for key) ≡ held_in w key
  keeps v e = ap (λ (y : List ℕ). held_for y (key_for key)) e ∙ read_held w t p.room (key_for key) ∙ short-held

  -- the use of its slot, by what it holds
  used-by : has_slot (slot_in s w t key) ≡ true → (slot_in s w t key).used ≡ cond (held_in w key).known (cond (held_in w key).cached 3 1) 2
  used-by e =
      let x = slot_in s w t key in
      let f = found_at k s w t key p e in
      let q = seen k s w t key p in
      used-as k s w t x.at x f ∙
      right-use k (use_of w x.at) (held_in w key).known (held_in w key).cached (use-right k s w t x.at x f)
      (sym (series-is k s w t x.at x f) ∙ q.series-is) (sym (cached-is k s w t x.at x f) ∙ q.cached-is)

-- ---- absolute

module _ (s : Settings) (w : List ℕ) (t : ℕ) (key : Sent) where
  abbrev h : Held
  h = held_in w key

  got : (v : List ℕ) → Distinct v → Passed kind.Absolute s w t key → (ys : List Bucket) →
      ((held_in w key).known ≡ false → v ≡ with_reading w t) → ((held_in w key).known ≡ true → LeftWith s w v t key ys) →
      held_for v (key_for key) ≡ cond (held_in w key).known (plainly (held_in w key).limit ys) (held_in w key)
  got v d p ys f g = go (held_in w key).known refl
    where
      go : (z : Bool) → (held_in w key).known ≡ z → held_for v (key_for key) ≡ cond z (plainly (held_in w key).limit ys) (held_in w key)
      go true e = stands-held (g e) d (some kind.Absolute s w t key p)
      go false e = keeps kind.Absolute s w t key p v (f e)

  get_left : Distinct (OnAbsolute.get s w t key).words → first (plain kind.Absolute s w t key) ≡ 0 →
      held_for (OnAbsolute.get s w t key).words (key_for key) ≡ left_by kind.Absolute s (ring_of w) t (get key) (held_in w key)
  get_left d e =
      let l = (absolutely.get-follows s w t key).done e in
      got (OnAbsolute.get s w t key).words d (passed kind.Absolute s w t key (unrefused-early kind.Absolute s w t key [] e)) _ l.unknown l.known

  ask-left : Distinct (OnAbsolute.is_allowed s w t key).words → first (plain kind.Absolute s w t key) ≡ 0 →
      held_for (OnAbsolute.is_allowed s w t key).words (key_for key) ≡ left_by kind.Absolute s (ring_of w) t (is_allowed key) (held_in w key)
  ask-left d e =
      let l = (absolutely.ask-follows s w t key).done e in
      got (OnAbsolute.is_allowed s w t key).words d (passed kind.Absolute s w t key (unrefused-early kind.Absolute s w t key [] e)) _ l.unknown l.known

  module _ (rate : RateLimit) (c : ℕ) where
    inc-left : Bytes key.bytes → Distinct (OnAbsolute.inc s w t key rate c).words → first (absolute_inc s w t key rate c) ≡ 0 →
        held_for (OnAbsolute.inc s w t key rate c).words (key_for key) ≡ left_by kind.Absolute s (ring_of w) t (inc key rate c) (held_in w key)
    inc-left by d e = go (held_in w key).known refl (allowed s t (held_in w key)) refl
      where
        p : Passed kind.Absolute s w t key
        p = passed kind.Absolute s w t key (unrefused-early kind.Absolute s w t key _ e)

        l : IncLaw s w t key rate c (OnAbsolute.inc s w t key rate c)
        l = (absolutely.inc-follows s w t key rate c by).done e

        go : (z : Bool) → (held_in w key).known ≡ z → (y : Bool) → allowed s t (held_in w key) ≡ y → held_for (OnAbsolute.inc s w t key rate c).words
            (key_for key) ≡
            cond z
            (cond y (plainly (held_in w key).limit (joined (join_ticks s) t c 0 (found_for s (ring_of w) t c (held_in w key))))
            (plainly (held_in w key).limit (looked_of s t (held_in w key))))
            (plainly (limit_in kind.Absolute s rate) (bucket c 0 t ∷ []))
        go true f true g = stands-held (l.accepted f g) d (some kind.Absolute s w t key p)
        go true f false g = stands-held (l.rejected f g) d (some kind.Absolute s w t key p)
        go false f y g = stands-held (l.unknown f) d (some kind.Absolute s w t key p)

-- ---- suppressed

module _ (s : Settings) (w : List ℕ) (t : ℕ) (key : Sent) where
  -- a slot that is seen as what the key holds, with what is cached of its factor
  cached-by : (out : Bool) (x : Slot) → Seen (window_ticks s) t out (held_in w key) x → (c : Option CachedFactor) (limit : ℕ) (ys : List Bucket) →
      held_by (has_series (use_after c x)) (has_cached (use_after c x)) limit ys (factor_after c x.factor) (time_after c x.factor_time) ≡
      caching c (rules.stays s t out (held_in w key)) limit ys (held_in w key)
  cached-by out x q c limit ys =
      cached-stands c x (rules.stays s t out (held_in w key)) limit ys (held_in w key) (sup.stays-is s t out (held_in w key) x q)
      (λ e. q.factor-is (stays-cached s t out (held_in w key) e)) (λ e. q.since-is (stays-cached s t out (held_in w key) e))

  snapshot-left : Bytes key.bytes → Distinct (OnSuppressed.get s w t key).words → first (plain kind.Suppressed s w t key) ≡ 0 →
      held_for (OnSuppressed.get s w t key).words (key_for key) ≡ left_by kind.Suppressed s (ring_of w) t (snapshot key) (held_in w key)
  snapshot-left by d e = go (held_in w key).known refl
    where
      p : Passed kind.Suppressed s w t key
      p = passed kind.Suppressed s w t key (unrefused-early kind.Suppressed s w t key [] e)

      l : Gets s w t key (OnSuppressed.get s w t key)
      l = (own_laws.get-follows s w t key by).done e

      q : Seen (window_ticks s) t true (held_in w key) (slot_in s w t key)
      q = sup.sees s w t key p

      go : (z : Bool) → (held_in w key).known ≡ z → held_for (OnSuppressed.get s w t key).words (key_for key) ≡
          cond z
          (caching (rules.asking s t true (held_in w key)).caching (rules.stays s t true (held_in w key)) (held_in w key).limit (live_of s t (held_in w key))
          (held_in w key)) (held_in w key)
      go true f =
          stands-held (l.known f) d (some kind.Suppressed s w t key p) ∙
          cached-by true (slot_in s w t key) q (rules.asking s t true (held_in w key)).caching (slot_in s w t key).limit (live_of s t (held_in w key)) ∙
          ap (λ (n : ℕ). caching (rules.asking s t true (held_in w key)).caching (rules.stays s t true (held_in w key)) n (live_of s t (held_in w key))
          (held_in w key))
          (q.limit_is f)
      go false f = keeps kind.Suppressed s w t key p _ (l.unknown f)

  factor-left : Bytes key.bytes → Distinct (OnSuppressed.get_factor s w t key).words → first (suppressed_factor s w t key) ≡ 0 →
      held_for (OnSuppressed.get_factor s w t key).words (key_for key) ≡ left_by kind.Suppressed s (ring_of w) t (get_factor key) (held_in w key)
  factor-left by d e =
      go (held_in w key).known refl (rules.usable s t (overdue_in s t (held_in w key)) (held_in w key)) refl
    where
      p : Passed kind.Suppressed s w t key
      p = passed kind.Suppressed s w t key (unrefused-early kind.Suppressed s w t key _ e)

      l : GivesFactor s w t key (OnSuppressed.get_factor s w t key)
      l = (own_laws.factor-follows s w t key by).done e

      q : Seen (window_ticks s) t (overdue_in s t (held_in w key)) (held_in w key) (looked_in s w t key)
      q = sup.looks s w t key p

      go : (z : Bool) → (held_in w key).known ≡ z → (y : Bool) → rules.usable s t (overdue_in s t (held_in w key)) (held_in w key) ≡ y →
          held_for (OnSuppressed.get_factor s w t key).words (key_for key) ≡
          cond z
          (caching (rules.asking s t (overdue_in s t (held_in w key)) (held_in w key)).caching (rules.stays s t (overdue_in s t (held_in w key)) (held_in w key))
          (held_in w key).limit (looked_of s t (held_in w key)) (held_in w key)) (cond y (held_in w key) (held_by false true 0 [] 0 t))
      go true f y g =
          let out = overdue_in s t (held_in w key) in
          let c = (rules.asking s t out (held_in w key)).caching in
          stands-held (l.known f) d (some kind.Suppressed s w t key p) ∙
          cached-by out (looked_in s w t key) q c (looked_in s w t key).limit (looked_of s t (held_in w key)) ∙
          ap (λ (n : ℕ). caching c (rules.stays s t out (held_in w key)) n (looked_of s t (held_in w key)) (held_in w key)) (q.limit_is f)
      go false f true g = keeps kind.Suppressed s w t key p _ (l.kept f g)
      go false f false g = stands-held (l.anew f g) d (some kind.Suppressed s w t key p)

  module _ (rate : RateLimit) (c draw : ℕ) where
    draws-left : Bytes key.bytes → Distinct (OnSuppressed.inc s w t key rate c draw).words → first (suppressed_inc s w t key rate c draw) ≡ 0 →
        held_for (OnSuppressed.inc s w t key rate c draw).words (key_for key) ≡ left_by kind.Suppressed s (ring_of w) t (draws key rate c draw) (held_in w key)
    draws-left by d e =
        let p = passed kind.Suppressed s w t key (unrefused-early kind.Suppressed s w t key _ e) in
        let l = (own_laws.inc-follows s w t key rate c draw by).done e in
        let out = overdue_in s t (held_in w key) in
        let n = rules.limit_for s rate (held_in w key) in
        let q = rules.outcome s t n c draw (held_in w key) in
        stands-held l.stands d (some kind.Suppressed s w t key p) ∙
        cached-by out (looked_in s w t key) (sup.looks s w t key p) q.caching n _ ∙
        ap (λ (a : RateLimitDecision). caching q.caching (rules.stays s t out (held_in w key)) n
        (joined (join_ticks s) t c (rules.declined_by (rules.admits a) c) (looked_of s t (held_in w key))) (held_in w key)) l.answer

-- ---- both

module _ (k : RoomKind) (s : Settings) (w : List ℕ) (t : ℕ) (key : Sent) (o : Sane k s w) where
  -- the words of a use: another limit forgets what is cached
  limit-stands : (limit u : ℕ) (same cached : Bool) (xs : List Bucket) (factor time factor' time' : ℕ) → u ≡ cond cached 3 1 →
      (cached ≡ true → factor ≡ factor') → (cached ≡ true → time ≡ time') →
      held_by (has_series (cond same u (forgotten u))) (has_cached (cond same u (forgotten u))) limit xs factor time ≡
      held_by true (same && cached) limit xs factor' time'
  limit-stands limit u true true xs f m f' m' e a b =
      ap (λ (n : ℕ). held_by (has_series n) (has_cached n) limit xs f m) e ∙ ap₂ (λ (x y : ℕ). held_by true true limit xs x y) (a refl) (b refl)
  limit-stands limit u true false xs f m f' m' e a b = ap (λ (n : ℕ). held_by (has_series n) (has_cached n) limit xs f m) e
  limit-stands limit u false true xs f m f' m' e a b = ap (λ (n : ℕ). held_by (has_series (forgotten n)) (has_cached (forgotten n)) limit xs f m) e
  limit-stands limit u false false xs f m f' m' e a b = ap (λ (n : ℕ). held_by (has_series (forgotten n)) (has_cached (forgotten n)) limit xs f m) e

  rate-left : (rate : RateLimit) → Distinct (Rate.set_rate_limit k s w t key rate).words → first (Tables.set_rate k s w t key rate) ≡ 0 →
      held_for (Rate.set_rate_limit k s w t key rate).words (key_for key) ≡ left_by k s (ring_of w) t (set_rate key rate) (held_in w key)
  unfolding used_with
  rate-left rate d e = go (held_in w key).known refl
    where
      p : Passed k s w t key
      p = passed k s w t key (unrefused-early k s w t key _ e)

      l : RateRule k s w t key rate (slot_in s w t key) (Rate.set_rate_limit k s w t key rate)
      l = rate-follows k s w t key rate e

      q : Seen (window_ticks s) t true (held_in w key) (slot_in s w t key)
      q = seen k s w t key p

      go : (z : Bool) → (held_in w key).known ≡ z → held_for (Rate.set_rate_limit k s w t key rate).words (key_for key) ≡
          cond z
          (held_by true (eqb (limit_in k s rate) (held_in w key).limit && (held_in w key).cached) (limit_in k s rate) (held_in w key).buckets (held_in w key).factor
          (held_in w key).since) (held_in w key)
      go true f =
          let x = slot_in s w t key in
          let n = limit_in k s rate in
          let a : has_slot x ≡ true = true-or x.series x.cached (q.series-is ∙ f) in
          let b = (owns k s w t key p a).key in
          let u : x.used ≡ cond (held_in w key).cached 3 1 =
          used-by k s w t key p a ∙ ap (λ (z : Bool). cond z (cond (held_in w key).cached 3 1) 2) f in
          subst (λ (y : Key). held_for (Rate.set_rate_limit k s w t key rate).words y ≡
          held_by true (eqb n (held_in w key).limit && (held_in w key).cached) n (held_in w key).buckets (held_in w key).factor (held_in w key).since) b
          (stands-held (l.known f) d (subst (λ (y : Key). y.holder ≢ 0) (sym b) (some k s w t key p)) ∙
          ap (λ (m : ℕ). held_by (has_series (cond (eqb n m) x.used (forgotten x.used))) (has_cached (cond (eqb n m) x.used (forgotten x.used))) n
          (held_in w key).buckets x.factor x.factor_time) (q.limit_is f) ∙
          limit-stands n x.used (eqb n (held_in w key).limit) (held_in w key).cached (held_in w key).buckets x.factor x.factor_time
          (held_in w key).factor (held_in w key).since u q.factor-is q.since-is)
      go false f = keeps k s w t key p _ (l.unknown f)

  delete-left : first (plain k s w t key) ≡ 0 →
      held_for (Delete.delete k s w t key).words (key_for key) ≡ left_by k s (ring_of w) t (delete key) (held_in w key)
  delete-left e = go (has_any (held_in w key)) refl
    where
      p : Passed k s w t key
      p = passed k s w t key (unrefused-early k s w t key _ e)

      l : DeleteRule s w t key (slot_in s w t key) (Delete.delete k s w t key)
      l = delete-follows k s w t key e

      go : (z : Bool) → has_any (held_in w key) ≡ z → held_for (Delete.delete k s w t key).words (key_for key) ≡ cond z nothing (held_in w key)
      go true f =
          let b = owns k s w t key p (has-is (window_ticks s) t true (held_in w key) (slot_in s w t key) (seen k s w t key p) ∙ f) in
          freed-held (l.frees f) refl o.distinct (key_for key) b.held b.key
      go false f = keeps k s w t key p _ (l.keeps f)

  module _ (rate : RateLimit) (comparator : RateLimitComparator) (count : ℕ) (mode : HistoryUpdateMode) where
    set-left : Bytes key.bytes → Distinct (Set.set k s w t key rate comparator count mode).words →
        first (Tables.sets k s w t key rate comparator count mode) ≡ 0 →
        held_for (Set.set k s w t key rate comparator count mode).words (key_for key) ≡
        left_by k s (ring_of w) t (set key rate comparator count mode) (held_in w key)
    set-left by d e =
        go (sets.still_for k s t rate comparator count mode (held_in w key)) refl (eqb count 0) refl (held_in w key).known refl (held_in w key).cached refl
      where
        p : Passed k s w t key
        p = passed k s w t key (unrefused-early k s w t key _ e)

        l : SetRule k s w t key rate comparator count mode (sets.still_for k s t rate comparator count mode (held_in w key)) (slot_in s w t key)
            (Set.set k s w t key rate comparator count mode)
        l = set-follows k s w t key rate comparator count mode by e

        q : Seen (window_ticks s) t true (held_in w key) (slot_in s w t key)
        q = seen k s w t key p

        -- a key whose set to 0 changes something is known
        known : sets.still_for k s t rate comparator count mode (held_in w key) ≡ false → eqb count 0 ≡ true → (held_in w key).known ≡ true
        known i z =
            sym q.series-is ∙
            busy-known (slot_in s w t key) (limit_in k s rate) count comparator mode z
            (sym (idle-is s t (held_in w key) (slot_in s w t key) q (limit_in k s rate) count mode comparator ∙ i))

        place : has_slot (slot_in s w t key) ≡ true → place_of w (slot_in s w t key) ≡ (slot_in s w t key).at
        place z = place-own w (slot_in s w t key) z

        stored : (i : ℕ) (factor time : ℕ) (ys : List Bucket) → has_slot (slot_in s w t key) ≡ true → i ≡ (slot_in s w t key).at →
            Stands k s w (Set.set k s w t key rate comparator count mode).words i t (key_at w i) (limit_in k s rate) factor time 1 ys →
            held_for (Set.set k s w t key rate comparator count mode).words (key_for key) ≡ plainly (limit_in k s rate) ys
        stored i factor time ys z m c =
            let b : key_at w i ≡ key_for key = ap (key_at w) m ∙ (owns k s w t key p z).key in
            subst (λ (y : Key). held_for (Set.set k s w t key rate comparator count mode).words y ≡ plainly (limit_in k s rate) ys) b
            (stands-held c d (subst (λ (y : Key). y.holder ≢ 0) (sym b) (some k s w t key p)))

        go : (i : Bool) → sets.still_for k s t rate comparator count mode (held_in w key) ≡ i → (z : Bool) → eqb count 0 ≡ z →
            (y : Bool) → (held_in w key).known ≡ y → (x : Bool) → (held_in w key).cached ≡ x →
            held_for (Set.set k s w t key rate comparator count mode).words (key_for key) ≡
            cond i (held_in w key)
            (cond z nothing
            (plainly (limit_in k s rate) (cond y (sets.reset_to (window_ticks s) t mode count (held_in w key).buckets) (bucket count 0 t ∷ []))))
        go true i z z' y y' x x' = keeps k s w t key p _ (l.keeps i)
        go false i true z y y' x x' =
            let f = known i z in
            let a : has_slot (slot_in s w t key) ≡ true = true-or (slot_in s w t key).series (slot_in s w t key).cached (q.series-is ∙ f) in
            let m = place a in
            let b = owns k s w t key p a in
            freed-held (l.goes i z f) refl o.distinct (key_for key) (subst (λ (n : ℕ). holder_of w n ≢ 0) (sym m) b.held) (ap (key_at w) m ∙ b.key)
        go false i false z true y x x' =
            stored (slot_in s w t key).at _ _ _ (true-or (slot_in s w t key).series (slot_in s w t key).cached (q.series-is ∙ y)) refl (l.known i z y)
        go false i false z false y true x =
            let a : has_slot (slot_in s w t key) ≡ true = ap₂ ◌||◌ (q.series-is ∙ y) (q.cached-is ∙ x) in
            stored (place_of w (slot_in s w t key)) _ _ _ a (place a) (l.lone i z y x)
        go false i false z false y false x = stands-held (l.new i z y x) d (some k s w t key p)

-- ---- every call with a key

-- what a call that is not turned away leaves of its key
pub left_is : (k : RoomKind) (s : Settings) (w : List ℕ) (t : ℕ) → Sane k s w → (op : Op k) → Named op → Bytes (key_in op).bytes →
    Distinct (after k s w t op) → first (table_of k s w t op) ≡ 0 →
    held_for (after k s w t op) (key_for (key_in op)) ≡ left_by k s (ring_of w) t op (held_in w (key_in op))
left_is k s w t o (inc key rate c) n by d e = inc-left s w t key rate c by d e
left_is k s w t o (is_allowed key) n by d e = ask-left s w t key d e
left_is k s w t o (get key) n by d e = get_left s w t key d e
left_is k s w t o (draws key rate c draw) n by d e = draws-left s w t key rate c draw by d e
left_is k s w t o (snapshot key) n by d e = snapshot-left s w t key by d e
left_is k s w t o (get_factor key) n by d e = factor-left s w t key by d e
left_is k s w t o (set_rate key rate) n by d e = rate-left k s w t key o rate d e
left_is k s w t o (set key rate comparator count mode) n by d e = set-left k s w t key o rate comparator count mode by d e
left_is k s w t o (delete key) n by d e = delete-left k s w t key o e
left_is k s w t o (cleanup who stale) n by d e = absurd (false≢true n)
left_is k s w t o (cleanup_both who other whose stale) n by d e = absurd (false≢true n)
left_is k s w t o (clear who) n by d e = absurd (false≢true n)
