-- An increment of the key itself keeps what holds of it: the count joins the live buckets, and the log what is admitted.
-- Assumes nothing.
use Rattle.std.specs.Prelude.{◌≡◌, refl, Bool, true, false, ℕ, ◌+◌, ◌-◌, ◌≤◌, drop, Option}
use Rattle.std.proofs.Common.{sym, ap₂, ◌∙◌, true≢false}
use Rattle.std.proofs.Math.Path.{ap, subst}
use Rattle.std.proofs.Math.Bool.{cond}
use mathlib.Core.List.{List, [], ◌∷◌}
use native.Mathlib.Omega.{arith}
use Rattle.answers.specs.Rows.{decision_row, number_of}
use Rattle.common.specs.Limits.{cut_word, soft_word}
use Rattle.common.specs.Refusals.{first}
use Rattle.settings.specs.Settings.{factor_in}
use Rattle.settings.specs.Clock.{window_ticks, look_ticks, join_ticks}
use Rattle.answers.specs.declared.RateLimitDecision.TheVariants as decided
use Rattle.settings.specs.declared.Settings.{Settings}
use Rattle.common.specs.declared.units.RateLimit.{RateLimit}
use Rattle.rules.specs.Buckets.{gone, recent, joined}
use Rattle.sweep.specs.declared.tally.Pass.{Pass}
use Rattle.ring.specs.declared.Bucket.{Bucket}
use Rattle.ring.specs.Order.{Fine, fine-drop}
use Rattle.ring.specs.Ring.{count_of, denied_of, sum_of, counts, declineds, buckets}
use Rattle.ring.specs.Sums.{sum-none}
use Rattle.room.specs.Room.{ring_of, body_of}
use Rattle.frame.specs.Distinct.{Distinct}
use Rattle.frame.specs.Keys.{Bytes}
use Rattle.parties.specs.Parties.{Sent, key_for, none_left}
use Rattle.change.specs.declared.Change.{Change}
use Rattle.edit.specs.declared.Edit.{Edit}
use Rattle.edit.specs.declared.Then.TheVariants.{Increment}
use Rattle.change.specs.Words.{applied}
use Rattle.edit.specs.Bodies.{started_view, acted_view, edited_view}
use Rattle.rules.specs.declared.RoomKind.TheVariants as kind
use Rattle.opened.specs.declared.Slot.{Slot}
use Rattle.judge.specs.Judge.{early, Passed, slot_in, looked_in}
use Rattle.opened.specs.Slot.{has_slot}
use Rattle.judge.proofs.Laws.{passed}
use Rattle.judge.proofs.Verdict.{call-either}
use Rattle.plan.specs.Plan.{evicting, opening, place_of}
use Rattle.rules.specs.Both.{limit_in, overdue, overdue_in, looked_of}
use Rattle.rules.proofs.Ages.{looked-oldest}
use Rattle.calls.specs.Applies.{known-has}
use Rattle.rules.specs.declared.Outcome.{Outcome}
use Rattle.rules.specs.Held.{Held}
use Rattle.rules.specs.Suppressed.{limit_for, forecast, outcome, inc_turns}
use Rattle.judge.specs.Held.{held_in}
use Rattle.plan.specs.Seen.{Seen, seen, held-there}
use Rattle.sweep.specs.Measured.{evicted-live}
use Rattle.suppressed_verdicts.specs.Calls.{inc}
use Rattle.suppressed_edits.specs.Edits.{recached, inc_edit, inc_change}
use Rattle.forecast_opened.specs.Forecast.{forecast_at}
use Rattle.suppressed_verdicts.specs.Laws.{place-used}
use Rattle.leaves.specs.Suppressed.{Opens, opens-looked}
use Rattle.admissions.proofs.Good.{good-record, good-floor}
use Rattle.admissions.proofs.Buckets.{recent-all}
use Rattle.admissions.specs.Log.{Entry, noted, aged}
use Rattle.admissions.proofs.Log.{aged-mono}
use Rattle.places.specs.Placed.{Own, own-either}
use Rattle.steps.proofs.Each.{draws-does}
use Rattle.steps.proofs.Moves.{moves-placed}
use Rattle.demand3.specs.History.{IsKey, admits_count}
use Rattle.demand3.proofs.Keys.{key-held}
use Rattle.demand3.proofs.Decided.{admits-refused, number-refused, declines, admits-hard, allows-soft}
use Rattle.demand3.specs.Kept.{GoodAt, Kept}
use Rattle.demand3.proofs.Owned.{after-series, edit-kept, limit-known, good-known, left_is, left-fine, left-sums, good_left, good-bare}
use Rattle.suppression.specs.declared.CachedFactor.{CachedFactor}

-- ---- what a first look leaves was admitted at ages that it takes for the window at most

module _ (s : Settings) (limit t : ℕ) (log : List Entry) where
  look-floor : (xs : List Bucket) → overdue s t xs ≡ false → Fine 0 xs t → GoodAt s limit t xs log → counts xs - declineds xs ≤ aged (look_ticks s) t log
  unfolding sum_of
  look-floor [] o f g = omega arith
  look-floor (x ∷ xs) o f g =
      let all = recent-all (look_ticks s) t x.time (x ∷ xs) t (omega arith, f.1, f.2, f.3) (looked-oldest s t x xs o) in
      subst (λ (ys : List Bucket). counts ys - declineds ys ≤ aged (look_ticks s) t log) all
      (good-floor (look_ticks s) (window_ticks s) (join_ticks s) (cut_word limit) (subst (λ (ys : List Bucket). Fine 0 ys t) (sym all) f) g)

  left-floor : (xs : List Bucket) (out : Bool) → overdue s t xs ≡ out → Fine 0 xs t → GoodAt s limit t xs log →
      counts (cond out (recent (window_ticks s) t xs) xs) - declineds (cond out (recent (window_ticks s) t xs) xs) ≤ aged (look_ticks s) t log
  left-floor xs false o f g = look-floor xs o f g
  left-floor xs true o f g =
      let e = evicted-live (window_ticks s) t 0 t xs f in
      let h = good-floor (window_ticks s) (window_ticks s) (join_ticks s) (cut_word limit)
      (subst (λ (ys : List Bucket). Fine 0 ys t) (sym e) (fine-drop (gone (window_ticks s) t xs) 0 xs t f)) g in
      omega (arith, h, aged-mono (window_ticks s) (look_ticks s) t log (omega arith))

-- ---- the edit and the limit, of a known key and of one that begins

module _ (s : Settings) (x : Slot) (rate : RateLimit) where
  edit-known : (limit c d : ℕ) → x.series ≡ true → inc_edit x limit c d ≡ evicting x (Increment c d)
  unfolding inc_edit
  edit-known limit c d e = ap (λ (z : Bool). cond z (evicting x (Increment c d)) (opening limit (Increment c d) x.factor x.factor_time x.used)) e

  edit-new : (limit c d : ℕ) → x.series ≡ false → inc_edit x limit c d ≡ opening limit (Increment c d) x.factor x.factor_time x.used
  unfolding inc_edit
  edit-new limit c d e = ap (λ (z : Bool). cond z (evicting x (Increment c d)) (opening limit (Increment c d) x.factor x.factor_time x.used)) e

-- ---- an increment that is not refused changes the key's slot

module _ (s : Settings) (w : List ℕ) (t : ℕ) (j : Sent) (rate : RateLimit) (c draw : ℕ) where
  -- as its first look leaves it
  abbrev x : Slot
  x = looked_in s w t j

  abbrev o : Outcome
  o = outcome s t (limit_for s rate (held_in w j)) c draw (held_in w j)

  abbrev edit : Edit
  edit = recached x o.caching (inc_edit x (limit_for s rate (held_in w j)) c o.declined)

  abbrev change : Change
  change = inc_change x (limit_for s rate (held_in w j)) c o.declined o.caching

  own : Bytes j.bytes → early kind.Suppressed s w t j ≡ 0 →
      first (inc_turns s (ring_of w) (none_left w j.caller) t rate c draw (held_in w j)) ≡ 0 → Distinct w →
      Own w (applied w (place_of w x) j (join_ticks s) t change) (place_of w x) (join_ticks s) t (key_for j) edit
  unfolding inc_change
  own by e f d =
      let m = draws-does s w t j rate c draw by e f in
      own-either w (place_of w x) j (join_ticks s) t d edit (has_slot x) m.applies (moves-placed (slot_in s w t j) w (key_for j) (place_of w x) change m.moves)

module _ (s : Settings) (le : join_ticks s ≤ window_ticks s) (limit : ℕ) (key : Sent) (is : IsKey key) (w : List ℕ) (t : ℕ) (log : List Entry)
    (a : Kept s (key_for key) limit w log) where
  -- ---- the key itself: `yes` says whether c is admitted

  module _ (p : Passed kind.Suppressed s w t key) (c d : ℕ) (yes : Bool) (q : d ≡ cond yes 0 c) (v : List ℕ) (k : Option CachedFactor) where
    abbrev known : Slot
    known = looked_in s w t key

    abbrev view : List Bucket
    view = buckets (ring_of w) (body_of w (looked_in s w t key).at)

    abbrev evicts : Bool
    evicts = overdue_in s t (held_in w key)

    u : Opens s w t key (overdue_in s t (held_in w key)) (looked_in s w t key)
    u = opens-looked s w t key p

    joins-known : known.series ≡ true → (yes ≡ true → forecast_at known c ≤ cut_word limit) →
        Own w v known.at (join_ticks s) t (key_for key) (recached known k (evicting known (Increment c d))) →
        Kept s (key_for key) limit v (noted yes t c log)
    unfolding recached edited_view acted_view started_view
    joins-known e f o =
        edit-kept s le limit (key_for key) (key-held key is) w v known.at (recached known k (evicting known (Increment c d))) t (noted yes t c log) o
        (λ h. record {
          limit_is = limit-known s le limit key is w t log a p evicts known u e;
          good =
              subst (λ (n : ℕ). GoodAt s limit t (joined (join_ticks s) t c n (drop known.pass.expired view)) (noted yes t c log)) (sym q)
              (good-record (window_ticks s) (join_ticks s) (cut_word limit) le yes c (left-fine s le limit key is w t log a p evicts known u e)
              (λ y. omega (arith, f y, left-sums s le limit key is w t log a p evicts known u e)) (good_left s le limit key is w t log a p evicts known u e));
        })
        (λ h. absurd (true≢false (sym (after-series k known) ∙ h)))

    joins-new : (at l m n o : ℕ) → known.series ≡ false → l ≡ limit → (yes ≡ true → c ≤ cut_word limit) →
        Own w v at (join_ticks s) t (key_for key) (recached known k (opening l (Increment c d) m n o)) →
        Kept s (key_for key) limit v (noted yes t c log)
    unfolding recached edited_view acted_view started_view
    joins-new at l m n o e r f z =
        edit-kept s le limit (key_for key) (key-held key is) w v at (recached known k (opening l (Increment c d) m n o)) t (noted yes t c log) z
        (λ h. record {
          limit_is = r;
          good =
              subst (λ (i : ℕ). GoodAt s limit t (joined (join_ticks s) t c i []) (noted yes t c log)) (sym q)
              (good-record (window_ticks s) (join_ticks s) (cut_word limit) le yes c tt
              (λ y. omega (arith, f y, sum-none count_of, sum-none denied_of)) (good-bare s le limit key is w t log a p evicts known u e));
        })
        (λ h. absurd (true≢false (sym (after-series k known) ∙ h)))

  -- the rate is the one that the key's limit is of, where the key begins
  module _ (rate : RateLimit) (r : (held_in w key).known ≡ false → limit_in kind.Suppressed s rate ≡ limit) (c draw : ℕ) where
    abbrev slot : Slot
    slot = looked_in s w t key

    abbrev evict : Bool
    evict = overdue_in s t (held_in w key)

    abbrev held : Held
    held = held_in w key

    abbrev deciding : ℕ
    deciding = limit_for s rate (held_in w key)

    abbrev out : Outcome
    out = outcome s t (limit_for s rate (held_in w key)) c draw (held_in w key)

    opened : Passed kind.Suppressed s w t key → Opens s w t key (overdue_in s t (held_in w key)) (looked_in s w t key)
    opened p = opens-looked s w t key p

    sees : Passed kind.Suppressed s w t key → Seen (window_ticks s) t (overdue_in s t (held_in w key)) (held_in w key) (looked_in s w t key)
    sees p = (opened p).seen

    -- the limit that decides
    limit_is : Passed kind.Suppressed s w t key → limit_for s rate (held_in w key) ≡ limit
    limit_is p = go held.known refl
      where
        go : (z : Bool) → (held_in w key).known ≡ z → limit_for s rate (held_in w key) ≡ limit
        go true e =
            ap (λ (z : Bool). cond z held.limit (limit_in kind.Suppressed s rate)) e ∙ sym ((sees p).limit_is e) ∙
            limit-known s le limit key is w t log a p evict slot (opened p) ((sees p).series-is ∙ e)
        go false e = ap (λ (z : Bool). cond z held.limit (limit_in kind.Suppressed s rate)) e ∙ r e

    -- the slot's counts are those of the buckets that are left
    forecast-is : Passed kind.Suppressed s w t key → forecast (looked_of s t (held_in w key)) c ≡ forecast_at (looked_in s w t key) c
    forecast-is p = sym (ap₂ (λ (m n : ℕ). m - n + c) (sees p).live-is (sees p).declined-is)

    -- nothing was counted of a key that is unknown
    nothing : Passed kind.Suppressed s w t key → slot.series ≡ false → forecast_at slot c ≡ c
    nothing p e =
        let u = (opened p).stood.unknown e in
        let m = ap (λ (y : Pass). y.live_total) u in
        omega arith

    below : Passed kind.Suppressed s w t key → admits_count out.decision ≡ true → forecast_at slot c ≤ cut_word limit
    below p y =
        subst (λ (l : ℕ). forecast_at slot c ≤ cut_word l) (limit_is p)
        (subst (λ (n : ℕ). n ≤ cut_word deciding) (forecast-is p) (admits-hard s t deciding c draw held p.settings.factor y))

    done-kept : (e : early kind.Suppressed s w t key ≡ 0) → first (inc_turns s (ring_of w) (none_left w key.caller) t rate c draw held) ≡ 0 →
        Kept s (key_for key) limit (applied w (place_of w slot) key (join_ticks s) t (inc_change slot (deciding) c out.declined out.caching))
        (noted (admits_count out.decision) t c log)
    done-kept e f = go slot.series refl
      where
        p : Passed kind.Suppressed s w t key
        p = passed kind.Suppressed s w t key e

        v : List ℕ
        v = applied w (place_of w slot) key (join_ticks s) t (inc_change slot (deciding) c out.declined out.caching)

        q : out.declined ≡ cond (admits_count out.decision) 0 c
        q = declines s t deciding c draw held

        go : (z : Bool) → slot.series ≡ z → Kept s (key_for key) limit v (noted (admits_count out.decision) t c log)
        go true h =
            joins-known p c out.declined (admits_count out.decision) q v out.caching h (below p)
            (subst (λ (y : Edit). Own w v slot.at (join_ticks s) t (key_for key) (recached slot out.caching y))
            (edit-known s slot rate (deciding) c out.declined h)
            (subst (λ (i : ℕ). Own w v i (join_ticks s) t (key_for key) (recached slot out.caching (inc_edit slot (deciding) c out.declined)))
            (place-used w slot (known-has slot h))
            (own s w t key rate c draw is.bytes e f a.distinct)))
        go false h =
            joins-new p c out.declined (admits_count out.decision) q v out.caching (place_of w slot) (deciding) slot.factor
            slot.factor_time slot.used h (limit_is p)
            (λ y. omega (arith, below p y, nothing p h))
            (subst (λ (y : Edit). Own w v (place_of w slot) (join_ticks s) t (key_for key) (recached slot out.caching y))
            (edit-new s slot rate (deciding) c out.declined h)
            (own s w t key rate c draw is.bytes e f a.distinct))

    pub inc-own : Kept s (key_for key) limit (inc s w t key rate c draw).words (noted (admits_count (inc s w t key rate c draw).answer) t c log)
    unfolding inc
    inc-own =
        call-either decided.Refused kind.Suppressed s w t key (inc_turns s (ring_of w) (none_left w key.caller) t rate c draw held) _
        (λ v. Kept s (key_for key) limit v.words (noted (admits_count v.answer) t c log))
        (λ m z. subst (λ (y : Bool). Kept s (key_for key) limit w (noted y t c log)) (sym (admits-refused m)) a) done-kept

    -- ---- what is at most S, with all admitted at ages that a first look takes for the window at most, is Allowed

    soft-enough : Passed kind.Suppressed s w t key → c + aged (look_ticks s) t log ≤ soft_word (factor_in s) limit →
        forecast_at slot c ≤ soft_word (factor_in s) limit
    soft-enough p h = go slot.series refl
      where
        go : (z : Bool) → slot.series ≡ z → forecast_at slot c ≤ soft_word (factor_in s) limit
        go true e =
            let xs = buckets (ring_of w) (body_of w slot.at) in
            let o = opened p in
            let m : counts (drop slot.pass.expired xs) - declineds (drop slot.pass.expired xs) ≡
            counts (cond evict (recent (window_ticks s) t xs) xs) - declineds (cond evict (recent (window_ticks s) t xs) xs) =
            ap (λ (ys : List Bucket). counts ys - declineds ys) (left_is s le limit key is w t log a p evict slot o e) in
            let held-here = ap (λ (i : ℕ). buckets (ring_of w) (body_of w i)) o.at-is ∙
            held-there kind.Suppressed s w t key p ((seen kind.Suppressed s w t key p).series-is ∙ sym o.seen.series-is ∙ e) in
            let l = left-floor s limit t log xs evict (ap (overdue s t) held-here) (o.stood.known e).now.each
            (good-known s le limit key is w t log a p evict slot o e) in
            omega (arith, h, m, l, left-sums s le limit key is w t log a p evict slot o e)
        go false e = omega (arith, h, nothing p e)

    pub inc-soft : number_of (decision_row (inc s w t key rate c draw).answer) ≡ 0 → c + aged (look_ticks s) t log ≤ soft_word (factor_in s) limit →
        (inc s w t key rate c draw).answer ≡ decided.Allowed
    unfolding inc
    inc-soft =
        call-either decided.Refused kind.Suppressed s w t key (inc_turns s (ring_of w) (none_left w key.caller) t rate c draw held) _
        (λ v. number_of (decision_row v.answer) ≡ 0 → c + aged (look_ticks s) t log ≤ soft_word (factor_in s) limit → v.answer ≡ decided.Allowed)
        (λ m z n h. absurd (z (sym (number-refused m) ∙ n)))
        (λ e f n h.
        let p = passed kind.Suppressed s w t key e in
        allows-soft s t deciding c draw held
        (subst (λ (n : ℕ). n ≤ soft_word (factor_in s) deciding) (sym (forecast-is p))
        (subst (λ (l : ℕ). forecast_at slot c ≤ soft_word (factor_in s) l) (sym (limit_is p)) (soft-enough p h))))
