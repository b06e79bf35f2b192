-- What stands after the calls, in the rules' own terms: the key's slot has the buckets, limit, cached factor and use that the rules say, it is sound again,
-- and every other slot is word for word as it was. (After `clear` every slot of the caller's is free: `clear-read-run` of the frame.)
-- Assumes nothing.
use Rattle.std.specs.Prelude.{◌≡◌, Bool, false, not, ◌&&◌, ◌||◌, ℕ, ◌≤◌, ◌<◌, ◌-◌, drop, eqb, Ok, Some, None}
use Rattle.std.proofs.Math.Path.{refl, sym, ap, ap₂, subst}
use Rattle.std.proofs.Common.{◌∙◌, le-leb, eq-eqb, eqb-true}
use Rattle.std.proofs.Math.Bool.{true, cond}
use Rattle.std.proofs.lemmas.Bool.{false≢true}
use mathlib.Core.List.{List, [], ◌∷◌}
use native.Mathlib.Omega.{arith}
use Rattle.std.proofs.Math.Dec.{leb}
use Rattle.base.specs.Decides.{and-true, true-and}
use Rattle.suppression.specs.Factor.{factor_word_ok}
use Rattle.common.specs.Limits.{limit_ok}
use Rattle.common_laws.specs.LimitLaws.{absolute-ok, hard-ok}
use Rattle.common.specs.Ranges.{rate_ok}
use Rattle.settings.specs.Settings.{window_in, factor_in, Proper}
use Rattle.settings.specs.Clock.{window_ticks, join_ticks}
use Rattle.settings.specs.declared.Settings.{Settings}
use Rattle.common.specs.declared.units.RateLimit.{RateLimit}
use Rattle.answers.specs.declared.HistoryUpdateMode.{HistoryUpdateMode}
use Rattle.answers.specs.declared.HistoryUpdateMode.TheVariants as mode
use Rattle.rules.specs.Buckets.{live, gone, joins, joined, replaced, preserved}
use Rattle.preserve.proofs.Preserves.{preserved-comes}
use Rattle.ring.specs.declared.Bucket.{Bucket}
use Rattle.layout.specs.Layout.{most_total}
use Rattle.ring.specs.Ring.{bucket, denied_of, declineds, declined_of, buckets, counts}
use Rattle.ring.specs.Sums.{sum_one, sum-split}
use Rattle.ring.specs.Sound.{Sound, sound_buckets, true-sound}
use Rattle.keys.specs.declared.Key.{Key}
use Rattle.room.specs.Room.{Room, slots_of, ring_of, last_of, use_of, key_at, key_sound, body_of, with_reading}
use Rattle.keys.specs.Keys.{key_fits}
use Rattle.frame.specs.Frame.{Changed, unheld, put-reading, release-run}
use Rattle.frame.specs.Keys.{Bytes, key-fits}
use Rattle.parties.specs.Parties.{Sent, key_for, mark_of}
use Rattle.edit.specs.declared.Then.TheVariants as then
use Rattle.edit.specs.declared.Edit.{Edit}
use Rattle.change.specs.declared.Change.{Change}
use Rattle.change.specs.declared.Change.TheVariants.{Keep, Free, Update, Take}
use Rattle.change.specs.Words.{carried, applied, EditsAt}
use Rattle.edit.specs.Bodies.{started_view, acted_view, edited_view, edited}
use Rattle.change.specs.Laws.{update-change, take-change}
use Rattle.edit.specs.BodyLaws.{edited-is}
use Rattle.rules.specs.declared.RoomKind.{RoomKind}
use Rattle.rules.specs.declared.RoomKind.TheVariants.{Absolute, Suppressed}
use Rattle.opened.specs.declared.Slot.{Slot}
use Rattle.opened.specs.Sound.{limit_of, factor_of, factor_time_of, has_series, has_cached, right_use, declined_right, sound_series, sound_cached, sound_slot}
use Rattle.rules.specs.Sets.{reset_to}
use Rattle.rules.specs.Both.{divisor, limit_in}
use Rattle.judge.specs.Judge.{Passed, slot_in}
use Rattle.opened.specs.Slot.{has_slot}
use Rattle.plan.specs.Plan.{keeping, relimited, place_of}
use Rattle.plan.specs.Known.{Found, use-right, used-as, cached-is, cached-known, keeping-edits}
use Rattle.calls.specs.Calls.{slot-within, found_at, known_at, true-or}
use Rattle.shared_opened.specs.Opened.{deleting, deleted_at, forgotten, used_with, limiting, limiting-known}
use Rattle.sets_opened.specs.Sets.{reset, begins, newly, stored, stored-known, setting, live_in}
use Rattle.calls.specs.Applies.{known-has, cached-has, place-own, place-within, reset-applies, begins-applies}

-- slot at of v has a series with buckets ys, and this limit, cached factor and use; v is w but for that slot, and for the reading t
pub record Stands (kind : RoomKind) (s : Settings) (w v : List ℕ) (at t : ℕ) (k : Key) (limit factor time used : ℕ) (ys : List Bucket) : Type 0 where
  pub changed : Changed w v at used k (body_of v at) t
  pub view : buckets (ring_of v) (body_of v at) ≡ ys
  pub limit_is : limit_of (body_of v at) ≡ limit
  pub factor-is : factor_of (body_of v at) ≡ factor
  pub time-is : factor_time_of (body_of v at) ≡ time
  pub sound : sound_slot kind s v at ≡ true

-- ---- a slot that was edited

pub implied : (a b : Bool) → (a ≡ true → b ≡ true) → not a || b ≡ true
implied true b f = f refl
implied false b f = refl

module _ (kind : RoomKind) (s : Settings) (w v : List ℕ) (at b t : ℕ) (k : Key) (e : Edit) (o : EditsAt w at b t e)
    (c : Changed w v at e.used k (edited (ring_of w) b t (body_of w at) e) t) where
  edited-sound : Sound (ring_of v) (body_of v at) (last_of v)
  edited-sound =
      let d = (edited-is (ring_of w) b t (body_of w at) e o.edits).sound in
      let p : Sound (ring_of w) (body_of v at) t = subst (λ (y : List ℕ). Sound (ring_of w) y t) (sym c.body) d in
      let q : Sound (ring_of v) (body_of v at) t = subst (λ (r : ℕ). Sound r (body_of v at) t) (sym c.ring) p in
      subst (λ (n : ℕ). Sound (ring_of v) (body_of v at) n) (sym c.last) q

  edited-limit : limit_of (body_of v at) ≡ e.limit
  edited-limit = ap (λ (y : List ℕ). limit_of y) c.body ∙ (edited-is (ring_of w) b t (body_of w at) e o.edits).limit

  edited-factor : factor_of (body_of v at) ≡ e.factor
  edited-factor = ap (λ (y : List ℕ). factor_of y) c.body ∙ (edited-is (ring_of w) b t (body_of w at) e o.edits).factor

  edited-time : factor_time_of (body_of v at) ≡ e.factor_time
  edited-time = ap (λ (y : List ℕ). factor_time_of y) c.body ∙ (edited-is (ring_of w) b t (body_of w at) e o.edits).time

  edited-series : declined_right kind (declineds (buckets (ring_of v) (body_of v at))) ≡ true →
      limit_ok (window_in s) (divisor kind (factor_in s)) e.limit ≡ true → sound_series kind s (ring_of v) (last_of v) (body_of v at) ≡ true
  unfolding sound_series
  edited-series d l =
      true-and (sound_buckets (ring_of v) (body_of v at) (last_of v)) _ (true-sound (ring_of v) (body_of v at) (last_of v) edited-sound)
      (true-and (declined_right kind (declined_of (body_of v at))) _ (ap (declined_right kind) edited-sound.declined ∙ d)
      (ap (limit_ok (window_in s) (divisor kind (factor_in s))) edited-limit ∙ l))

  edited-cached : (has_cached e.used ≡ true → factor_word_ok e.factor && leb e.factor_time t ≡ true) → has_cached (use_of v at) ≡ true →
      sound_cached (last_of v) (body_of v at) ≡ true
  unfolding sound_cached
  edited-cached f h =
      ap₂ (λ (x y : ℕ). factor_word_ok x && leb y (last_of v)) edited-factor edited-time ∙
      ap (λ (n : ℕ). factor_word_ok e.factor && leb e.factor_time n) c.last ∙ f (sym (ap (λ (n : ℕ). has_cached n) c.used) ∙ h)

  -- where there is no series, the limit is not judged
  pub stands-so : (ys : List Bucket) → edited_view b t e (buckets (ring_of w) (body_of w at)) ≡ ys → key_fits k ≡ true → right_use kind e.used ≡ true →
      declined_right kind (declineds ys) ≡ true →
      (has_series e.used ≡ true → limit_ok (window_in s) (divisor kind (factor_in s)) e.limit ≡ true) →
      (has_cached e.used ≡ true → factor_word_ok e.factor && leb e.factor_time t ≡ true) →
      Stands kind s w v at t k e.limit e.factor e.factor_time e.used ys
  unfolding sound_slot
  stands-so ys y kf u d l f =
      let x : buckets (ring_of v) (body_of v at) ≡ ys = ap₂ buckets c.ring c.body ∙ (edited-is (ring_of w) b t (body_of w at) e o.edits).view ∙ y in
      record {
        changed = subst (λ (z : List ℕ). Changed w v at e.used k z t) (sym c.body) c;
        view = x;
        limit_is = edited-limit;
        factor-is = edited-factor;
        time-is = edited-time;
        sound =
            true-and (key_sound v at) _ (ap key_fits c.key ∙ kf)
            (true-and (right_use kind (use_of v at)) _ (ap (right_use kind) c.used ∙ u)
            (true-and (not (has_series (use_of v at)) || sound_series kind s (ring_of v) (last_of v) (body_of v at)) _
            (implied (has_series (use_of v at)) _
            (λ z. edited-series (ap (λ (zs : List Bucket). declined_right kind (declineds zs)) x ∙ d) (l (sym (ap (λ (n : ℕ). has_series n) c.used) ∙ z))))
            (implied (has_cached (use_of v at)) _ (edited-cached f))));
      }

  pub stands : (ys : List Bucket) → edited_view b t e (buckets (ring_of w) (body_of w at)) ≡ ys → key_fits k ≡ true → right_use kind e.used ≡ true →
      declined_right kind (declineds ys) ≡ true →
      limit_ok (window_in s) (divisor kind (factor_in s)) e.limit ≡ true →
      (has_cached e.used ≡ true → factor_word_ok e.factor && leb e.factor_time t ≡ true) →
      Stands kind s w v at t k e.limit e.factor e.factor_time e.used ys
  stands ys y kf u d l f = stands-so ys y kf u d (λ z. l) f

-- ---- the words after a change

module _ (w : List ℕ) (at : ℕ) (key : Sent) (b t : ℕ) where
  pub keep-words : applied w at key b t Keep ≡ with_reading w t
  unfolding applied carried
  keep-words = refl

  pub free-changed : Room w → at < slots_of w → Changed w (applied w at key b t Free) at (use_of w at) (unheld (key_at w at)) (body_of w at) t
  unfolding applied carried
  free-changed o h = release-run w at t o h

  pub update-changed : (e : Edit) → EditsAt w at b t e →
      Changed w (applied w at key b t (Update e)) at e.used (key_at w at) (edited (ring_of w) b t (body_of w at) e) t
  unfolding applied carried
  update-changed e o = put-reading (update-change w at b t e o) t

  pub take-changed : (e : Edit) → EditsAt w at b t e →
      Changed w (applied w at key b t (Take e)) at e.used (key_for key) (edited (ring_of w) b t (body_of w at) e) t
  unfolding applied carried
  take-changed e o = put-reading (take-change w at b t e o key) t

-- ---- what is right again

pub none_right : (kind : RoomKind) (d : ℕ) → d ≡ 0 → declined_right kind d ≡ true
none_right Absolute d e = eq-eqb d 0 e
none_right Suppressed d e = refl

fewer-right : (kind : RoomKind) (d n : ℕ) → n ≤ d → declined_right kind d ≡ true → declined_right kind n ≡ true
fewer-right Absolute d n h e = eq-eqb n 0 (omega (arith, eqb-true d 0 e))
fewer-right Suppressed d n h e = refl

pub series-right : (kind : RoomKind) → right_use kind 1 ≡ true
unfolding right_use
series-right Absolute = refl
series-right Suppressed = refl

-- the limit of a rate that is in range is one
pub limit-right : (kind : RoomKind) (s : Settings) (rate : RateLimit) → Proper s → rate_ok rate.0 ≡ true →
    limit_ok (window_in s) (divisor kind (factor_in s)) (limit_in kind s rate) ≡ true
limit-right Absolute s rate p r = absolute-ok rate.0 (window_in s) r p.window-low p.window-high
limit-right Suppressed s rate p r = hard-ok rate.0 (factor_in s) (window_in s) r p.factor p.window-low p.window-high

-- ---- forgetting

forgotten-right : (kind : RoomKind) (u : ℕ) → right_use kind u ≡ true → right_use kind (forgotten u) ≡ true
forgotten-right kind u h = go (eqb u 3) h
  where
    go : (x : Bool) → right_use kind u ≡ true → right_use kind (cond x 1 u) ≡ true
    go true g = series-right kind
    go false g = g

forgotten-cached : (u : ℕ) → has_cached (forgotten u) ≡ true → has_cached u ≡ true
forgotten-cached u h = go (eqb u 3) h
  where
    go : (x : Bool) → has_cached (cond x 1 u) ≡ true → has_cached u ≡ true
    go true g = absurd (false≢true g)
    go false g = g

used-right : (kind : RoomKind) (x : Slot) (limit : ℕ) → right_use kind x.used ≡ true → right_use kind (used_with x limit) ≡ true
unfolding used_with
used-right kind x limit h = go (eqb limit x.limit)
  where
    go : (y : Bool) → right_use kind (cond y x.used (forgotten x.used)) ≡ true
    go true = h
    go false = forgotten-right kind x.used h

used-cached : (x : Slot) (limit : ℕ) → has_cached (used_with x limit) ≡ true → has_cached x.used ≡ true
unfolding used_with
used-cached x limit h = go (eqb limit x.limit) h
  where
    go : (y : Bool) → has_cached (cond y x.used (forgotten x.used)) ≡ true → has_cached x.used ≡ true
    go true g = g
    go false g = forgotten-cached x.used g

-- a series that begins with one bucket
pub begins-view : (b t count : ℕ) → joined b t count 0 [] ≡ bucket count 0 t ∷ []
unfolding joined joins
begins-view b t count = refl

-- no cached factor at use 1
pub uncached : (P : Type 0) → has_cached 1 ≡ true → P
uncached P h = absurd (false≢true h)

-- which change it is
module _ (x : Slot) (limit count : ℕ) (mode : HistoryUpdateMode) (e : x.series ≡ false) (z : eqb count 0 ≡ false) where
  setting-newly : newly x limit count ≡ setting x false limit count mode
  unfolding setting stored
  setting-newly =
      sym (ap (λ (y : Bool). cond y Free (stored x limit count mode)) z ∙ ap (λ (y : Bool). cond y (Update (reset x limit count mode)) (newly x limit count)) e)

  setting-lone : x.cached ≡ true → Update (begins limit count x.factor x.factor_time) ≡ setting x false limit count mode
  setting-lone g = sym (ap (λ (y : Bool). cond y (Update (begins limit count x.factor x.factor_time)) (Take (begins limit count 0 0))) g) ∙
      setting-newly

  setting-new : x.cached ≡ false → Take (begins limit count 0 0) ≡ setting x false limit count mode
  setting-new g = sym (ap (λ (y : Bool). cond y (Update (begins limit count x.factor x.factor_time)) (Take (begins limit count 0 0))) g) ∙ setting-newly

-- ---- the calls

pub found-key : (kind : RoomKind) (s : Settings) (w : List ℕ) (t at : ℕ) (x : Slot) → Found kind s w t at x → key_fits (key_at w at) ≡ true
unfolding sound_slot
found-key kind s w t at x f = (and-true (key_sound w at) _ f.sound).0

module _ (kind : RoomKind) (s : Settings) (w : List ℕ) (t : ℕ) (key : Sent) (p : Passed kind s w t key) where
  -- what the answers speak of: the live buckets' counts, and what of them was declined
  pub live-is : (slot_in s w t key).series ≡ true → live_in (slot_in s w t key) ≡
      counts (live (window_ticks s) t (buckets (ring_of w) (body_of w (slot_in s w t key).at)))
  live-is e =
      let m = (known_at kind s w t key p e).measured in
      m.total ∙ ap (λ (i : ℕ). counts (drop i (buckets (ring_of w) (body_of w (slot_in s w t key).at)))) m.expired-are

  pub declined-live : (slot_in s w t key).series ≡ true →
      (slot_in s w t key).pass.live_declined ≡ declineds (live (window_ticks s) t (buckets (ring_of w) (body_of w (slot_in s w t key).at)))
  declined-live e =
      let m = (known_at kind s w t key p e).measured in
      m.declined ∙ ap (λ (i : ℕ). declineds (drop i (buckets (ring_of w) (body_of w (slot_in s w t key).at)))) m.expired-are

  -- delete: what was admitted of the live total is given
  pub delete-gives : (slot_in s w t key).series ≡ true →
      deleted_at (slot_in s w t key) ≡
      Some (counts (live (window_ticks s) t (buckets (ring_of w) (body_of w (slot_in s w t key).at))) - declineds
      (live (window_ticks s) t (buckets (ring_of w) (body_of w (slot_in s w t key).at))))
  unfolding deleted_at
  delete-gives e =
      let x = slot_in s w t key in
      ap (λ (z : Bool). cond z (Some (x.pass.live_total - x.pass.live_declined)) (cond x.cached (Some 0) None)) e ∙
      ap₂ (λ (a b : ℕ). Some (a - b)) (live-is e) (declined-live e)

  -- the slot is free then, or there is nothing to free
  pub delete-frees : has_slot (slot_in s w t key) ≡ true →
      Changed w (applied w (slot_in s w t key).at key (join_ticks s) t (deleting (slot_in s w t key))) (slot_in s w t key).at
      (use_of w (slot_in s w t key).at) (unheld (key_at w (slot_in s w t key).at)) (body_of w (slot_in s w t key).at) t
  unfolding deleting
  delete-frees e =
      let at = (slot_in s w t key).at in
      subst (λ (z : Bool). Changed w (applied w at key (join_ticks s) t (cond z Free Keep)) at (use_of w at) (unheld (key_at w at)) (body_of w at) t) (sym e)
      (free-changed w at key (join_ticks s) t p.room (slot-within kind s w t key p e))

  pub delete-keeps : has_slot (slot_in s w t key) ≡ false → applied w (slot_in s w t key).at key (join_ticks s) t (deleting (slot_in s w t key)) ≡ with_reading w t
  unfolding deleting
  delete-keeps e =
      let at = (slot_in s w t key).at in
      ap (λ (z : Bool). applied w at key (join_ticks s) t (cond z Free Keep)) e ∙ keep-words w at key (join_ticks s) t

  -- setting a rate: a known series keeps its buckets, and has the new limit
  pub rate-stands : (rate : RateLimit) → rate_ok rate.0 ≡ true → (slot_in s w t key).series ≡ true →
      Stands kind s w (applied w (slot_in s w t key).at key (join_ticks s) t (limiting (slot_in s w t key) (limit_in kind s rate))) (slot_in s w t key).at t
      (key_at w (slot_in s w t key).at)
      (limit_in kind s rate) (slot_in s w t key).factor (slot_in s w t key).factor_time (used_with (slot_in s w t key) (limit_in kind s rate))
      (buckets (ring_of w) (body_of w (slot_in s w t key).at))
  unfolding edited_view acted_view started_view
  rate-stands rate r e =
      let x = slot_in s w t key in
      let at = x.at in
      let l = limit_in kind s rate in
      let edit = relimited (keeping x then.Nothing) l (used_with x l) in
      let f = found_at kind s w t key p (true-or x.series x.cached e) in
      let n = known_at kind s w t key p e in
      let o : EditsAt w at (join_ticks s) t edit = keeping-edits kind s w t at true x p.room n (join_ticks s) edit refl refl refl refl tt in
      subst (λ (y : Change). Stands kind s w (applied w at key (join_ticks s) t y) at t (key_at w at) l x.factor x.factor_time (used_with x l)
      (buckets (ring_of w) (body_of w at))) (limiting-known x l e)
      (stands kind s w (applied w at key (join_ticks s) t (Update edit)) at (join_ticks s) t (key_at w at) edit o (update-changed w at key (join_ticks s) t edit o)
      (buckets (ring_of w) (body_of w at)) refl
      (found-key kind s w t at x f)
      (used-right kind x l (ap (right_use kind) (used-as kind s w t at x f) ∙ use-right kind s w t at x f))
      (ap (declined_right kind) (sym (n.declined-is ∙ n.now.declined)) ∙ n.right)
      (limit-right kind s rate p.settings r)
      (λ h.
      let u : x.cached ≡ true = cached-is kind s w t at x f ∙ ap (λ (z : ℕ). has_cached z) (sym (used-as kind s w t at x f)) ∙ used-cached x l h in
      let d = cached-known kind s w t at x f u in
      true-and (factor_word_ok x.factor) _ d.factor-ok (le-leb x.factor_time t (omega (arith, d.earlier, p.later)))))

  -- a set that changes nothing
  pub set_keeps : (limit count : ℕ) (mode : HistoryUpdateMode) →
      applied w (place_of w (slot_in s w t key)) key (join_ticks s) t (setting (slot_in s w t key) true limit count mode) ≡ with_reading w t
  unfolding setting
  set_keeps limit count mode = keep-words w (place_of w (slot_in s w t key)) key (join_ticks s) t

  -- a set of a known series to 0: "the series goes"
  pub set-frees : (limit count : ℕ) (mode : HistoryUpdateMode) → (slot_in s w t key).series ≡ true → eqb count 0 ≡ true →
      Changed w (applied w (place_of w (slot_in s w t key)) key (join_ticks s) t (setting (slot_in s w t key) false limit count mode))
      (place_of w (slot_in s w t key)) (use_of w (place_of w (slot_in s w t key))) (unheld (key_at w (place_of w (slot_in s w t key))))
      (body_of w (place_of w (slot_in s w t key))) t
  unfolding setting
  set-frees limit count mode e z =
      let x = slot_in s w t key in
      let at = place_of w x in
      subst (λ (y : Bool). Changed w (applied w at key (join_ticks s) t (cond y Free (stored x limit count mode))) at (use_of w at) (unheld (key_at w at))
      (body_of w at) t) (sym z)
      (free-changed w at key (join_ticks s) t p.room (place-within kind s w t key p (known-has x e)))

  -- what is stored of a known series
  reset-stands : (rate : RateLimit) (count : ℕ) (mode : HistoryUpdateMode) → rate_ok rate.0 ≡ true → (slot_in s w t key).series ≡ true → count ≤ most_total →
      Stands kind s w (applied w (slot_in s w t key).at key (join_ticks s) t (Update (reset (slot_in s w t key) (limit_in kind s rate) count mode)))
      (slot_in s w t key).at t (key_at w (slot_in s w t key).at)
      (limit_in kind s rate) (slot_in s w t key).factor (slot_in s w t key).factor_time 1
      (reset_to (window_ticks s) t mode count (buckets (ring_of w) (body_of w (slot_in s w t key).at)))
  unfolding edited_view acted_view started_view
  reset-stands rate count mode.Replace r e m =
      let x = slot_in s w t key in
      let at = x.at in
      let l = limit_in kind s rate in
      let edit = reset x l count mode.Replace in
      let f = found_at kind s w t key p (known-has x e) in
      let o = reset-applies kind s w t key p l count mode.Replace e m in
      stands kind s w (applied w at key (join_ticks s) t (Update edit)) at (join_ticks s) t (key_at w at) edit o (update-changed w at key (join_ticks s) t edit o)
      (replaced t count) refl
      (found-key kind s w t at x f) (series-right kind) (none_right kind _ (sum_one denied_of (bucket count 0 t))) (limit-right kind s rate p.settings r)
      (uncached _)
  reset-stands rate count (mode.Preserve q) r e m =
      let x = slot_in s w t key in
      let at = x.at in
      let l = limit_in kind s rate in
      let edit = reset x l count (mode.Preserve q) in
      let f = found_at kind s w t key p (known-has x e) in
      let n = known_at kind s w t key p e in
      let o = reset-applies kind s w t key p l count (mode.Preserve q) e m in
      let xs = buckets (ring_of w) (body_of w at) in
      stands kind s w (applied w at key (join_ticks s) t (Update edit)) at (join_ticks s) t (key_at w at) edit o (update-changed w at key (join_ticks s) t edit o)
      (preserved q t count (live (window_ticks s) t xs))
      (ap (λ (i : ℕ). preserved q t count (drop i xs)) n.measured.expired-are)
      (found-key kind s w t at x f) (series-right kind)
      (fewer-right kind x.declined (declineds (preserved q t count (live (window_ticks s) t xs)))
      (omega (
        arith,
        (preserved-comes q t count (live (window_ticks s) t xs)).fewer,
        sum-split denied_of (gone (window_ticks s) t xs) xs,
        n.declined-is,
        n.now.declined,
      )) n.right)
      (limit-right kind s rate p.settings r) (uncached _)

  pub set-stands : (rate : RateLimit) (count : ℕ) (mode : HistoryUpdateMode) → rate_ok rate.0 ≡ true → (slot_in s w t key).series ≡ true →
      eqb count 0 ≡ false → count ≤ most_total →
      Stands kind s w (applied w (place_of w (slot_in s w t key)) key (join_ticks s) t (setting (slot_in s w t key) false (limit_in kind s rate) count mode))
      (slot_in s w t key).at t (key_at w (slot_in s w t key).at)
      (limit_in kind s rate) (slot_in s w t key).factor (slot_in s w t key).factor_time 1
      (reset_to (window_ticks s) t mode count (buckets (ring_of w) (body_of w (slot_in s w t key).at)))
  unfolding setting
  set-stands rate count mode r e z m =
      let x = slot_in s w t key in
      let l = limit_in kind s rate in
      let c : Update (reset x l count mode) ≡ cond (eqb count 0) Free (stored x l count mode) =
      stored-known x l count mode e ∙ sym (ap (λ (y : Bool). cond y Free (stored x l count mode)) z) in
      let v : applied w x.at key (join_ticks s) t (Update (reset x l count mode)) ≡
      applied w (place_of w x) key (join_ticks s) t (cond (eqb count 0) Free (stored x l count mode)) =
      ap₂ (λ (at : ℕ) (y : Change). applied w at key (join_ticks s) t y) (sym (place-own w x (known-has x e))) c in
      subst (λ (y : List ℕ). Stands kind s w y x.at t (key_at w x.at) l x.factor x.factor_time 1
      (reset_to (window_ticks s) t mode count (buckets (ring_of w) (body_of w x.at)))) v
      (reset-stands rate count mode r e m)

  -- a series that begins: in the slot of a lone cached factor, or in a free one
  begins-stands : (rate : RateLimit) (count factor time : ℕ) (v : List ℕ) (k : Key) → rate_ok rate.0 ≡ true → count ≤ most_total →
      (h : place_of w (slot_in s w t key) < slots_of w) → key_fits k ≡ true →
      Changed w v (place_of w (slot_in s w t key)) 1 k
      (edited (ring_of w) (join_ticks s) t (body_of w (place_of w (slot_in s w t key))) (begins (limit_in kind s rate) count factor time)) t →
      Stands kind s w v (place_of w (slot_in s w t key)) t k (limit_in kind s rate) factor time 1 (bucket count 0 t ∷ [])
  unfolding edited_view acted_view started_view
  begins-stands rate count factor time v k r m h kf c =
      let edit = begins (limit_in kind s rate) count factor time in
      let at = place_of w (slot_in s w t key) in
      stands kind s w v at (join_ticks s) t k edit (begins-applies kind s w t key p (limit_in kind s rate) count factor time m h) c (bucket count 0 t ∷ [])
      (begins-view (join_ticks s) t count) kf (series-right kind)
      (none_right kind _ (sum_one denied_of (bucket count 0 t))) (limit-right kind s rate p.settings r) (uncached _)

  pub set-begins-lone : (rate : RateLimit) (count : ℕ) (mode : HistoryUpdateMode) → rate_ok rate.0 ≡ true → (slot_in s w t key).series ≡ false →
      (slot_in s w t key).cached ≡ true → eqb count 0 ≡ false → count ≤ most_total →
      Stands kind s w (applied w (place_of w (slot_in s w t key)) key (join_ticks s) t (setting (slot_in s w t key) false (limit_in kind s rate) count mode))
      (place_of w (slot_in s w t key)) t (key_at w (place_of w (slot_in s w t key)))
      (limit_in kind s rate) (slot_in s w t key).factor (slot_in s w t key).factor_time 1 (bucket count 0 t ∷ [])
  set-begins-lone rate count mode r e g z m =
      let x = slot_in s w t key in
      let l = limit_in kind s rate in
      let at = place_of w x in
      let edit = begins l count x.factor x.factor_time in
      let i = place-within kind s w t key p (cached-has x e g) in
      subst (λ (y : Change). Stands kind s w (applied w at key (join_ticks s) t y) at t (key_at w at) l x.factor x.factor_time 1 (bucket count 0 t ∷ []))
      (setting-lone x l count mode e z g)
      (begins-stands rate count x.factor x.factor_time (applied w at key (join_ticks s) t (Update edit)) (key_at w at) r m i
      (subst (λ (n : ℕ). key_fits (key_at w n) ≡ true) (sym (place-own w x (cached-has x e g)))
      (found-key kind s w t x.at x (found_at kind s w t key p (cached-has x e g))))
      (update-changed w at key (join_ticks s) t edit (begins-applies kind s w t key p l count x.factor x.factor_time m i)))

  pub set-begins : (rate : RateLimit) (count : ℕ) (mode : HistoryUpdateMode) → Bytes key.bytes → rate_ok rate.0 ≡ true → (slot_in s w t key).series ≡ false →
      (slot_in s w t key).cached ≡ false → eqb count 0 ≡ false → count ≤ most_total →
      place_of w (slot_in s w t key) < slots_of w →
      Stands kind s w (applied w (place_of w (slot_in s w t key)) key (join_ticks s) t (setting (slot_in s w t key) false (limit_in kind s rate) count mode))
      (place_of w (slot_in s w t key)) t (key_for key)
      (limit_in kind s rate) 0 0 1 (bucket count 0 t ∷ [])
  set-begins rate count mode y r e g z m i =
      let x = slot_in s w t key in
      let l = limit_in kind s rate in
      let at = place_of w x in
      subst (λ (y : Change). Stands kind s w (applied w at key (join_ticks s) t y) at t (key_for key) l 0 0 1 (bucket count 0 t ∷ []))
      (setting-new x l count mode e z g)
      (begins-stands rate count 0 0 (applied w at key (join_ticks s) t (Take (begins l count 0 0))) (key_for key) r m i
      (key-fits (mark_of key.caller.party) key.bytes y p.short)
      (take-changed w at key (join_ticks s) t (begins l count 0 0) (begins-applies kind s w t key p l count 0 0 m i)))
