-- The key's own calls but `inc` keep what holds of it, where they change neither its limit nor its counts: they evict, store the same limit again, cache a
-- factor, or let a lone one go.
-- Assumes nothing.
use Rattle.std.specs.Prelude.{◌≡◌, Bool, ◌||◌, cond, ◌≢◌, ℕ, ◌-◌, ◌≤◌, eqb, drop, Option, Some, None}
use Rattle.std.proofs.Math.Path.{refl, sym, ap, subst}
use Rattle.std.proofs.Common.{ap₂, ◌∙◌, true≢false}
use Rattle.std.proofs.Math.Bool.{true, false}
use Rattle.std.proofs.lemmas.Bool.{false≢true}
use mathlib.Core.List.{List, []}
use Rattle.common.specs.Limits.{cut_word}
use Rattle.settings.specs.Clock.{window_ticks, join_ticks}
use Rattle.settings.specs.declared.Settings.{Settings}
use Rattle.common.specs.declared.units.RateLimit.{RateLimit}
use Rattle.common.specs.declared.comparator.RateLimitComparator.{RateLimitComparator}
use Rattle.answers.specs.declared.HistoryUpdateMode.{HistoryUpdateMode}
use Rattle.sweep.specs.Measured.{evicted-live}
use Rattle.rules.specs.Buckets.{recent}
use Rattle.ring.specs.declared.Bucket.{Bucket}
use Rattle.ring.specs.Order.{Fine, fine-drop}
use Rattle.ring.specs.Ring.{counts, declineds, buckets}
use Rattle.keys.specs.declared.Key.{Key}
use Rattle.room.specs.Room.{ring_of, body_of}
use Rattle.room.specs.Entries.{used-held}
use Rattle.frame.specs.Distinct.{changed-holder, distinct-freed}
use Rattle.parties.specs.Parties.{Sent, key_for, none_left}
use Rattle.change.specs.declared.Change.TheVariants.{Keep, Free, Update}
use Rattle.edit.specs.declared.Edit.{Edit}
use Rattle.edit.specs.declared.Then.TheVariants as then
use Rattle.edit.specs.BodyLaws.{edited-is}
use Rattle.change.specs.Words.{applied, Applies}
use Rattle.edit.specs.Bodies.{started_view, acted_view, edited_view, edited}
use Rattle.rules.specs.declared.RoomKind.TheVariants as kind
use Rattle.opened.specs.declared.Slot.{Slot}
use Rattle.judge.specs.Judge.{Passed, slot_in, looked_in}
use Rattle.judge.proofs.Laws.{passed}
use Rattle.opened.specs.Slot.{has_slot}
use Rattle.opened.specs.Sound.{has_series}
use Rattle.judge.proofs.Verdict.{call-either}
use Rattle.plan.specs.Known.{Known}
use Rattle.plan.specs.Plan.{keeping, evicting, relimited, place_of}
use Rattle.plan.specs.Seen.{seen}
use Rattle.calls.specs.Calls.{slot-within}
use Rattle.rules.specs.Both.{limit_in, overdue_in}
use Rattle.shared_opened.specs.Opened.{deleting, forgotten, used_with, limiting}
use Rattle.sets_opened.specs.Sets.{setting}
use Rattle.rules.specs.Sets.{still_for, set_turns, rate_turns}
use Rattle.rules.specs.Suppressed.{asking, factor_turns}
use Rattle.judge.specs.Held.{held_in}
use Rattle.calls.specs.Delete.{delete}
use Rattle.calls.specs.Rate.{set_rate_limit}
use Rattle.calls.specs.Set.{set}
use Rattle.calls.specs.Applies.{rate-applies, known-has}
use Rattle.suppressed_verdicts.specs.Calls.{get, get_factor}
use Rattle.suppressed_edits.specs.Edits.{use_left, use_after, recached, get_change, lone_edit, lone_change, factor_change}
use Rattle.factor_opened.specs.Opened.{stays_at}
use Rattle.suppressed_verdicts.specs.Laws.{place-used}
use Rattle.leaves.specs.Suppressed.{Opens, opens-slot, opens-looked}
use Rattle.admissions.proofs.Good.{good-later, good-evict}
use Rattle.admissions.specs.Log.{Entry}
use Rattle.leaves.specs.Calls.{free-changed}
use Rattle.places.specs.Has.{Has, free-has, changed-same}
use Rattle.places.specs.Placed.{Owns, Placed, Own, own-either}
use Rattle.steps.proofs.Each.{snapshot-does, factor-does}
use Rattle.steps.proofs.Moves.{moves-placed}
use Rattle.steps.specs.Places.{owns, series-has, has-series}
use Rattle.demand3.specs.History.{IsKey}
use Rattle.demand3.proofs.Keys.{key-held}
use Rattle.demand3.specs.Kept.{GoodAt, Kept, kept_same, kept-own}
use Rattle.demand3.proofs.Steps.{keep-kept}
use Rattle.common.specs.Refusals.{refuse}
use Rattle.suppression.specs.declared.CachedFactor.{CachedFactor}

-- ---- uses

left-series : (z : Bool) → has_series (use_left z) ≡ true
left-series true = refl
left-series false = refl

pub after-series : (k : Option CachedFactor) (x : Slot) → has_series (use_after k x) ≡ true
after-series None x = left-series (stays_at x)
after-series (Some k) x = refl

forgotten-series : (u : ℕ) → has_series u ≡ true → has_series (forgotten u) ≡ true
forgotten-series u e = go (eqb u 3)
  where
    go : (z : Bool) → has_series (cond z 1 u) ≡ true
    go true = refl
    go false = e

used-series : (x : Slot) (limit : ℕ) → has_series x.used ≡ true → has_series (used_with x limit) ≡ true
unfolding used_with
used-series x limit e = go (eqb limit x.limit)
  where
    go : (z : Bool) → has_series (cond z x.used (forgotten x.used)) ≡ true
    go true = e
    go false = forgotten-series x.used e

-- ---- the key's slot is edited

module _ (s : Settings) (le : join_ticks s ≤ window_ticks s) (limit : ℕ) where
  -- what an edit leaves is good, or it leaves no series
  pub record Leaves (t : ℕ) (e : Edit) (xs : List Bucket) (log : List Entry) : Type 0 where
    pub limit_is : e.limit ≡ limit
    pub good : GoodAt s limit t (edited_view (join_ticks s) t e xs) log

  pub edit-kept : (k : Key) → k.holder ≢ 0 → (w v : List ℕ) (at : ℕ) (e : Edit) (t : ℕ) (log : List Entry) → Own w v at (join_ticks s) t k e →
      (has_series e.used ≡ true → Leaves t e (buckets (ring_of w) (body_of w at)) log) → (has_series e.used ≡ false → GoodAt s limit t [] log) →
      Kept s k limit v log
  edit-kept k m w v at e t log o f g =
      let d = edited-is (ring_of w) (join_ticks s) t (body_of w at) e o.edits.edits in
      kept-own s le k limit m w v at e.used (edited (ring_of w) (join_ticks s) t (body_of w at) e) t log o.changed o.distinct o.only
      (λ h. record { limit_is = d.limit ∙ (f h).limit_is; good = subst (λ (xs : List Bucket). GoodAt s limit t xs log) (sym d.view) (f h).good }) g

  -- ---- what a call that passes refusals 1 to 7, 15 and 16 knows of the key

  -- of its slot x, as it is opened or as a first look leaves it
  module _ (key : Sent) (is : IsKey key) (w : List ℕ) (t : ℕ) (log : List Entry) (a : Kept s (key_for key) limit w log)
      (p : Passed kind.Suppressed s w t key) (out : Bool) (x : Slot) (u : Opens s w t key out x) where
    abbrev view : List Bucket
    view = buckets (ring_of w) (body_of w x.at)

    slot-series : x.series ≡ (slot_in s w t key).series
    slot-series = u.seen.series-is ∙ sym (seen kind.Suppressed s w t key p).series-is

    slot_has : has_slot x ≡ has_slot (slot_in s w t key)
    slot_has = ap₂ (λ (y z : Bool). y || z) slot-series (u.seen.cached-is ∙ sym (seen kind.Suppressed s w t key p).cached-is)

    has_here : x.series ≡ true → Has w (key_for key) x.at
    has_here e = subst (λ (i : ℕ). Has w (key_for key) i) (sym u.at-is) (series-has kind.Suppressed s w t key p (sym slot-series ∙ e))

    owns-here : has_slot x ≡ true → Owns w x.at (key_for key)
    owns-here h = subst (λ (i : ℕ). Owns w i (key_for key)) (sym u.at-is) (owns kind.Suppressed s w t key p (sym slot_has ∙ h))

    pub limit-known : x.series ≡ true → x.limit ≡ limit
    limit-known e = (u.stood.known e).limit_is ∙ a.limits x.at (has_here e)

    pub good-known : x.series ≡ true → GoodAt s limit t (buckets (ring_of w) (body_of w x.at)) log
    good-known e = good-later (window_ticks s) (join_ticks s) (cut_word limit) le t p.later (a.good x.at (has_here e))

    -- the buckets that are left, as the rule has them and as the slot says
    pub left_is : x.series ≡ true → drop x.pass.expired (buckets (ring_of w) (body_of w x.at)) ≡
        cond out (recent (window_ticks s) t (buckets (ring_of w) (body_of w x.at))) (buckets (ring_of w) (body_of w x.at))
    left_is e = go out (u.stood.known e)
      where
        go : (z : Bool) → Known kind.Suppressed s w t x.at z x → drop x.pass.expired (buckets (ring_of w) (body_of w x.at)) ≡
            cond z (recent (window_ticks s) t (buckets (ring_of w) (body_of w x.at))) (buckets (ring_of w) (body_of w x.at))
        go true k = ap (λ (i : ℕ). drop i view) k.measured.expired-are ∙ sym (evicted-live (window_ticks s) t 0 t view k.now.each)
        go false k = ap (λ (i : ℕ). drop i view) k.measured.expired-are

    pub left-fine : x.series ≡ true → Fine 0 (drop x.pass.expired (buckets (ring_of w) (body_of w x.at))) t
    left-fine e = fine-drop x.pass.expired 0 view t (u.stood.known e).now.each

    pub left-sums : x.series ≡ true →
        x.pass.live_total - x.pass.live_declined ≡
        counts (drop x.pass.expired (buckets (ring_of w) (body_of w x.at))) - declineds (drop x.pass.expired (buckets (ring_of w) (body_of w x.at)))
    left-sums e = let m = (u.stood.known e).measured in ap₂ (λ (y z : ℕ). y - z) m.total m.declined

    pub good_left : x.series ≡ true → GoodAt s limit t (drop x.pass.expired (buckets (ring_of w) (body_of w x.at))) log
    good_left e = subst (λ (xs : List Bucket). GoodAt s limit t xs log) (sym (left_is e)) (go out)
      where
        go : (z : Bool) → GoodAt s limit t (cond z (recent (window_ticks s) t (buckets (ring_of w) (body_of w x.at)))
            (buckets (ring_of w) (body_of w x.at))) log
        go true = good-evict (window_ticks s) (join_ticks s) (cut_word limit) le (good-known e)
        go false = good-known e

    pub good-bare : x.series ≡ false → GoodAt s limit t [] log
    good-bare e =
        good-later (window_ticks s) (join_ticks s) (cut_word limit) le t p.later
        (a.bare (λ i h. true≢false (sym (has-series kind.Suppressed s w t key p a.distinct i h) ∙ sym slot-series ∙ e)))

    -- ---- get, and get_suppression_factor

    evict-kept : (v : List ℕ) (k : Option CachedFactor) → x.series ≡ true → Own w v x.at (join_ticks s) t (key_for key) (recached x k (evicting x then.Nothing)) →
        Kept s (key_for key) limit v log
    unfolding recached edited_view acted_view started_view
    evict-kept v k e o =
        edit-kept (key_for key) (key-held key is) w v x.at (recached x k (evicting x then.Nothing)) t log o
        (λ h. record { limit_is = limit-known e; good = good_left e })
        (λ h. absurd (true≢false (sym (after-series k x) ∙ h)))

    change-kept : (k : Option CachedFactor) → Applies w x.at (join_ticks s) t (get_change x k) →
        Kept s (key_for key) limit (applied w x.at key (join_ticks s) t (get_change x k)) log
    unfolding get_change
    change-kept k o = go x.series refl o
      where
        go : (z : Bool) → x.series ≡ z → Applies w x.at (join_ticks s) t (cond z (Update (recached x k (evicting x then.Nothing))) Keep) →
            Kept s (key_for key) limit (applied w x.at key (join_ticks s) t (cond z (Update (recached x k (evicting x then.Nothing))) Keep)) log
        go true e q =
            let c = recached x k (evicting x then.Nothing) in
            evict-kept _ k e (own-either w x.at key (join_ticks s) t a.distinct c true q (owns-here (known-has x e)))
        go false e q = keep-kept s le limit key is w t log a x.at key q p.later

    lone-kept : (k : Option CachedFactor) → x.series ≡ false → Applies w (place_of w x) (join_ticks s) t (lone_change x.cached k t) →
        Placed w (place_of w x) (key_for key) (lone_change x.cached k t) →
        Kept s (key_for key) limit (applied w (place_of w x) key (join_ticks s) t (lone_change x.cached k t)) log
    lone-kept None e o q = keep-kept s le limit key is w t log a (place_of w x) key o p.later
    lone-kept (Some k) e o q =
        edit-kept (key_for key) (key-held key is) w _ (place_of w x) (lone_edit t) t log
        (own-either w (place_of w x) key (join_ticks s) t a.distinct (lone_edit t) x.cached o q)
        (λ h. absurd (false≢true h)) (λ h. good-bare e)

    factor-kept : (k : Option CachedFactor) → Applies w (place_of w x) (join_ticks s) t (factor_change x k t) → Placed w (place_of w x) (key_for key) (factor_change x k t) →
        Kept s (key_for key) limit (applied w (place_of w x) key (join_ticks s) t (factor_change x k t)) log
    unfolding factor_change
    factor-kept k o q = go x.series refl o q
      where
        go : (z : Bool) → x.series ≡ z → Applies w (place_of w x) (join_ticks s) t (cond z (get_change x k) (lone_change x.cached k t)) →
            Placed w (place_of w x) (key_for key) (cond z (get_change x k) (lone_change x.cached k t)) →
            Kept s (key_for key) limit (applied w (place_of w x) key (join_ticks s) t (cond z (get_change x k) (lone_change x.cached k t))) log
        go true e g v =
            let n = place-used w x (known-has x e) in
            subst (λ (i : ℕ). Kept s (key_for key) limit (applied w i key (join_ticks s) t (get_change x k)) log) (sym n)
            (change-kept k (subst (λ (i : ℕ). Applies w i (join_ticks s) t (get_change x k)) n g))
        go false e g v = lone-kept k e g v

  -- ---- of the slot as it is opened

  module _ (key : Sent) (is : IsKey key) (w : List ℕ) (t : ℕ) (log : List Entry) (a : Kept s (key_for key) limit w log)
      (p : Passed kind.Suppressed s w t key) where
    abbrev x : Slot
    x = slot_in s w t key

    u : Opens s w t key true (slot_in s w t key)
    u = opens-slot s w t key p

    -- ---- set_rate_limit, with the same limit where the key is known

    limiting-kept : (l : ℕ) → (x.series ≡ true → l ≡ limit) → Applies w x.at (join_ticks s) t (limiting x l) →
        Kept s (key_for key) limit (applied w x.at key (join_ticks s) t (limiting x l)) log
    unfolding limiting edited_view acted_view started_view
    limiting-kept l same o = go x.series refl o
      where
        go : (z : Bool) → x.series ≡ z →
            Applies w x.at (join_ticks s) t (cond z (Update (relimited (keeping x then.Nothing) l (used_with x l))) Keep) →
            Kept s (key_for key) limit (applied w x.at key (join_ticks s) t (cond z (Update (relimited (keeping x then.Nothing) l (used_with x l))) Keep)) log
        go true e q =
            let c = relimited (keeping x then.Nothing) l (used_with x l) in
            let has = series-has kind.Suppressed s w t key p e in
            let used : has_series x.used ≡ true =
            ap has_series ((u.stood.known e).used-is ∙ sym (used-held w x.at (λ z. free-has z has))) ∙ has.series in
            edit-kept (key_for key) (key-held key is) w _ x.at c t log
            (own-either w x.at key (join_ticks s) t a.distinct c true q (owns kind.Suppressed s w t key p (known-has x e)))
            (λ h. record { limit_is = same e; good = good-known key is w t log a p true x u e }) (λ h. absurd (true≢false (sym (used-series x l used) ∙ h)))
        go false e q = keep-kept s le limit key is w t log a x.at key q p.later

    -- ---- delete of a key that is unknown: at most a lone cached factor goes

    freed-kept : x.series ≡ false → has_slot x ≡ true → Kept s (key_for key) limit (applied w x.at key (join_ticks s) t Free) log
    freed-kept e h =
        let c = free-changed w x.at key (join_ticks s) t p.room (slot-within kind.Suppressed s w t key p h) in
        kept_same s le (key_for key) limit w _ t log
        (changed-same c (key_for key) (λ q. true≢false (sym (has-series kind.Suppressed s w t key p a.distinct x.at q) ∙ e))
        (λ q. free-has (changed-holder c) q))
        p.later (distinct-freed c a.distinct refl) a

    deleting-kept : x.series ≡ false → Kept s (key_for key) limit (applied w x.at key (join_ticks s) t (deleting x)) log
    unfolding deleting
    deleting-kept e = go (has_slot x) refl
      where
        go : (z : Bool) → has_slot x ≡ z → Kept s (key_for key) limit (applied w x.at key (join_ticks s) t (cond z Free Keep)) log
        go true h = freed-kept e h
        go false h = keep-kept s le limit key is w t log a x.at key p.room p.later

  -- ---- the calls

  module _ (key : Sent) (is : IsKey key) (w : List ℕ) (t : ℕ) (log : List Entry) (a : Kept s (key_for key) limit w log) where
    pub get-own : Kept s (key_for key) limit (get s w t key).words log
    unfolding get
    get-own =
        let k = asking s t true (held_in w key) in
        call-either refuse kind.Suppressed s w t key [] _ (λ v. Kept s (key_for key) limit v.words log) (λ m z. a)
        (λ e f. let d = snapshot-does s w t key e in
        change-kept key is w t log a d.passed true (slot_in s w t key) (opens-slot s w t key d.passed) k.caching d.applies)

    pub factor-own : Kept s (key_for key) limit (get_factor s w t key).words log
    unfolding get_factor
    factor-own =
        let x = looked_in s w t key in
        let k = asking s t (overdue_in s t (held_in w key)) (held_in w key) in
        call-either refuse kind.Suppressed s w t key (factor_turns (none_left w key.caller) (held_in w key)) _
        (λ v. Kept s (key_for key) limit v.words log) (λ m z. a)
        (λ e f.
        let d = factor-does s w t key is.bytes e f in
        factor-kept key is w t log a d.passed (overdue_in s t (held_in w key)) x (opens-looked s w t key d.passed) k.caching d.applies
        (moves-placed (slot_in s w t key) w (key_for key) (place_of w x) (factor_change x k.caching t) d.moves))

    pub rate-own : (rate : RateLimit) → ((held_in w key).known ≡ true → limit_in kind.Suppressed s rate ≡ limit) →
        Kept s (key_for key) limit (set_rate_limit kind.Suppressed s w t key rate).words log
    unfolding set_rate_limit
    rate-own rate q =
        let l = limit_in kind.Suppressed s rate in
        call-either refuse kind.Suppressed s w t key (rate_turns rate) _ (λ v. Kept s (key_for key) limit v.words log) (λ m z. a)
        (λ e f.
        let p = passed kind.Suppressed s w t key e in
        limiting-kept key is w t log a p l (λ h. q (sym (seen kind.Suppressed s w t key p).series-is ∙ h)) (rate-applies kind.Suppressed s w t key l p))

    pub set_own : (rate : RateLimit) (comparator : RateLimitComparator) (count : ℕ) (mode : HistoryUpdateMode) →
        still_for kind.Suppressed s t rate comparator count mode (held_in w key) ≡ true →
        Kept s (key_for key) limit (set kind.Suppressed s w t key rate comparator count mode).words log
    unfolding set setting
    set_own rate comparator count mode q =
        let x = slot_in s w t key in
        call-either refuse kind.Suppressed s w t key
        (set_turns kind.Suppressed s (none_left w key.caller) t rate comparator count mode (held_in w key)) _
        (λ v. Kept s (key_for key) limit v.words log) (λ m z. a)
        (λ e f.
        let p = passed kind.Suppressed s w t key e in
        subst
        (λ (z : Bool).
        Kept s (key_for key) limit (applied w (place_of w x) key (join_ticks s) t (setting x z (limit_in kind.Suppressed s rate) count mode)) log)
        (sym q) (keep-kept s le limit key is w t log a (place_of w x) key p.room p.later))

    pub delete-own : (held_in w key).known ≡ false → Kept s (key_for key) limit (delete kind.Suppressed s w t key).words log
    unfolding delete
    delete-own q =
        call-either refuse kind.Suppressed s w t key [] _ (λ v. Kept s (key_for key) limit v.words log) (λ m z. a)
        (λ e f.
        let p = passed kind.Suppressed s w t key e in
        deleting-kept key is w t log a p ((seen kind.Suppressed s w t key p).series-is ∙ q))
