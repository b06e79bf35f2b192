-- What each call with a key stores is right (`Stores`). x is the key's slot.
-- Assumes nothing.
use Rattle.std.specs.Prelude.{◌≡◌, Bool, ◌&&◌, cond, List, leb, eqb, Option, Some, None}
use Rattle.std.proofs.Math.Path.{refl}
use Rattle.std.proofs.Common.{sym, ap, ◌∙◌, arith, le-leb}
use Rattle.std.proofs.Math.Bool.{true, false}
use Rattle.std.proofs.lemmas.Bool.{false≢true}
use Prim.Native.Nat.{ℕ}
use Rattle.parties.specs.Parties.{Sent}
use Rattle.base.specs.Decides.{true-and}
use Rattle.suppression.specs.Factor.{factor_word_ok}
use Rattle.common.specs.Limits.{limit_ok, absolute_word}
use Rattle.common_laws.specs.LimitLaws.{absolute-ok}
use Rattle.common.specs.Ranges.{rate_ok}
use Rattle.settings.specs.Settings.{window_in, factor_in}
use Rattle.settings.specs.Clock.{look_ticks}
use Rattle.answers.specs.declared.HistoryUpdateMode.{HistoryUpdateMode}
use Rattle.answers.specs.declared.HistoryUpdateMode.TheVariants as mode
use Rattle.settings.specs.declared.Settings.{Settings}
use Rattle.common.specs.declared.units.RateLimit.{RateLimit}
use Rattle.change.specs.declared.Change.TheVariants.{Keep, Free, Update, Take}
use Rattle.edit.specs.declared.Edit.{Edit}
use Rattle.edit.specs.declared.Then.{Then}
use Rattle.edit.specs.declared.Then.TheVariants as then
use Rattle.rules.specs.declared.RoomKind.{RoomKind}
use Rattle.rules.specs.declared.RoomKind.TheVariants as kind
use Rattle.opened.specs.declared.Slot.{Slot}
use Rattle.judge.specs.Held.{held_in}
use Rattle.judge.specs.Judge.{Passed, slot_in, looked_in}
use Rattle.opened.specs.Look.{by-look, look-series}
use Rattle.opened.specs.Slot.{has_slot}
use Rattle.opened.specs.Sound.{has_cached, right_use}
use Rattle.rules.specs.Both.{divisor, limit_in, overdue_in}
use Rattle.plan.specs.Known.{use-right, used-as, cached-is, cached-known}
use Rattle.plan.specs.Plan.{keeping, evicting, relimited}
use Rattle.calls.specs.Calls.{found_at, known_at}
use Rattle.shared_opened.specs.Opened.{deleting, used_with, limiting}
use Rattle.sets_opened.specs.Sets.{reset, stored, setting}
use Rattle.calls.specs.Applies.{known-has}
use Rattle.absolute_opened.specs.Opened as absolute
use Rattle.suppressed_edits.specs.Edits.{recached, get_change, lone_edit, lone_change, factor_change, inc_edit, inc_change}
use Rattle.suppressed_verdicts.specs.Opened.{limit_at}
use Rattle.leaves.specs.Calls.{series-right, limit-right}
use Rattle.leaves.specs.Suppressed as suppressed
use Rattle.leaves.specs.Unit.{CachingOk}
use Rattle.steps.specs.Moves.{Quiet, Right, Stores}
use Rattle.steps.specs.Places.{set_to, inc_to}
use Rattle.suppression.specs.declared.CachedFactor.{CachedFactor}

-- a use with the cached factor forgotten, or not
forgotten-right : (k : RoomKind) (u : ℕ) (y z : Bool) → right_use k u ≡ true → right_use k (cond y u (cond z 1 u)) ≡ true
forgotten-right k u true z h = h
forgotten-right k u false true h = series-right k
forgotten-right k u false false h = h

forgotten-cached : (u : ℕ) (y z : Bool) → has_cached (cond y u (cond z 1 u)) ≡ true → has_cached u ≡ true
forgotten-cached u true z h = h
forgotten-cached u false true h = absurd (false≢true h)
forgotten-cached u false false h = h

-- a series that begins, or begins again, with no cached factor
anew : (k : RoomKind) (s : Settings) (t : ℕ) (e : Edit) → e.used ≡ 1 → limit_ok (window_in s) (divisor k (factor_in s)) e.limit ≡ true →
    Quiet k e.then → Right k s t e
anew k s t e u l q = record {
  uses = ap (right_use k) u ∙ series-right k;
  limit = λ h. l;
  factor = λ h. absurd (false≢true (sym (ap (λ (n : ℕ). has_cached n) u) ∙ h));
  quiet = q;
}

-- where nothing is declined
quiet-nothing : (k : RoomKind) → Quiet k then.Nothing
quiet-nothing kind.Absolute = tt
quiet-nothing kind.Suppressed = tt

quiet-count : (k : RoomKind) (c : ℕ) → Quiet k (then.Increment c 0)
quiet-count kind.Absolute c = refl
quiet-count kind.Suppressed c = tt

quiet-set : (k : RoomKind) (x : Slot) (limit count : ℕ) (m : HistoryUpdateMode) → Quiet k (reset x limit count m).then
quiet-set kind.Absolute x limit count mode.Replace = tt
quiet-set kind.Absolute x limit count (mode.Preserve p) = tt
quiet-set kind.Suppressed x limit count m = tt

reset-used : (x : Slot) (limit count : ℕ) (m : HistoryUpdateMode) → (reset x limit count m).used ≡ 1
reset-used x limit count mode.Replace = refl
reset-used x limit count (mode.Preserve p) = refl

reset-limit : (x : Slot) (limit count : ℕ) (m : HistoryUpdateMode) → (reset x limit count m).limit ≡ limit
reset-limit x limit count mode.Replace = refl
reset-limit x limit count (mode.Preserve p) = refl

module _ (k : RoomKind) (s : Settings) (w : List ℕ) (t : ℕ) (key : Sent) (p : Passed k s w t key) where
  abbrev x : Slot
  x = slot_in s w t key

  used-right : has_slot x ≡ true → right_use k x.used ≡ true
  used-right h = let f = found_at k s w t key p h in ap (right_use k) (used-as k s w t x.at x f) ∙ use-right k s w t x.at x f

  cached-right : has_slot x ≡ true → has_cached x.used ≡ true → factor_word_ok x.factor && leb x.factor_time t ≡ true
  cached-right h c =
      let f = found_at k s w t key p h in
      let d = cached-known k s w t x.at x f (cached-is k s w t x.at x f ∙ ap (λ (z : ℕ). has_cached z) (sym (used-as k s w t x.at x f)) ∙ c) in
      true-and (factor_word_ok x.factor) _ d.factor-ok (le-leb x.factor_time t (omega (arith, d.earlier, p.later)))

  -- a known series, all or the live buckets of it, and then
  kept-right : x.series ≡ true → (then : Then) → Quiet k then → Right k s t (keeping x then)
  kept-right e then q =
      record { uses = used-right (known-has x e); limit = λ h. (known_at k s w t key p e).limit-ok; factor = cached-right (known-has x e); quiet = q }

  evicted-right : x.series ≡ true → (then : Then) → Quiet k then → Right k s t (evicting x then)
  evicted-right e then q =
      record { uses = used-right (known-has x e); limit = λ h. (known_at k s w t key p e).limit-ok; factor = cached-right (known-has x e); quiet = q }

  -- and as a first look leaves it
  looked-right : x.series ≡ true → (then : Then) → Quiet k then → Right k s t (evicting (looked_in s w t key) then)
  looked-right e then q =
      let r = evicted-right e then q in
      by-look (look_ticks s) t x (λ (y : Slot). Right k s t (evicting y then)) r
      (record { uses = r.uses; limit = r.limit; factor = r.factor; quiet = r.quiet })

  -- ---- the calls of both kinds

  pub delete-stores : Stores k s t (deleting x)
  unfolding deleting
  delete-stores = go (has_slot x)
    where
      go : (z : Bool) → Stores k s t (cond z Free Keep)
      go true = tt
      go false = tt

  pub rate-stores : (rate : RateLimit) → rate_ok rate.0 ≡ true → Stores k s t (limiting x (limit_in k s rate))
  unfolding limiting used_with
  rate-stores rate r = go x.series refl
    where
      l : ℕ
      l = limit_in k s rate

      go : (z : Bool) → x.series ≡ z →
          Stores k s t (cond z (Update (relimited (keeping x then.Nothing) (limit_in k s rate) (used_with x (limit_in k s rate)))) Keep)
      go true e = record {
        uses = forgotten-right k x.used (eqb (limit_in k s rate) x.limit) (eqb x.used 3) (used-right (known-has x e));
        limit = λ h. limit-right k s rate p.settings r;
        factor = λ h. cached-right (known-has x e) (forgotten-cached x.used (eqb (limit_in k s rate) x.limit) (eqb x.used 3) h);
        quiet = quiet-nothing k;
      }
      go false e = tt

  pub set-stores : (still : Bool) (rate : RateLimit) (count : ℕ) (mode : HistoryUpdateMode) → rate_ok rate.0 ≡ true →
      Stores k s t (setting x still (limit_in k s rate) count mode)
  unfolding setting stored
  set-stores true rate count mode r = tt
  set-stores false rate count mode r = go (eqb count 0) x.series x.cached
    where
      ok : limit_ok (window_in s) (divisor k (factor_in s)) (limit_in k s rate) ≡ true
      ok = limit-right k s rate p.settings r

      go : (z r c : Bool) →
          Stores k s t (set_to x (limit_in k s rate) count mode z r c)
      go true r c = tt
      go false true c =
          anew k s t (reset x (limit_in k s rate) count mode) (reset-used x (limit_in k s rate) count mode)
          (ap (limit_ok (window_in s) (divisor k (factor_in s))) (reset-limit x (limit_in k s rate) count mode) ∙ ok)
          (quiet-set k x (limit_in k s rate) count mode)
      go false false true = anew k s t _ refl ok (quiet-count k count)
      go false false false = anew k s t _ refl ok (quiet-count k count)

-- ---- absolute

module _ (s : Settings) (w : List ℕ) (t : ℕ) (key : Sent) (p : Passed kind.Absolute s w t key) where
  abbrev slot : Slot
  slot = slot_in s w t key

  picked : (z : Bool) → (z ≡ true → slot.series ≡ true) → Stores kind.Absolute s t (absolute.pick_change z (Update (evicting slot then.Nothing)) Keep)
  picked true f = evicted-right kind.Absolute s w t key p (f refl) then.Nothing tt
  picked false f = tt

  pub get-stores : Stores kind.Absolute s t (absolute.get_change slot)
  unfolding absolute.get_change
  get-stores = picked slot.series (λ e. e)

  abbrev looked : Slot
  looked = looked_in s w t key

  pub ask-stores : (again : Bool) → Stores kind.Absolute s t (absolute.ask_change again looked)
  unfolding absolute.get_change
  ask-stores true = go looked.series refl
    where
      go : (z : Bool) → looked.series ≡ z → Stores kind.Absolute s t (absolute.pick_change z (Update (evicting looked then.Nothing)) Keep)
      go true e = looked-right kind.Absolute s w t key p (sym (look-series (look_ticks s) t slot) ∙ e) then.Nothing tt
      go false e = tt
  ask-stores false = tt

  leaving-right : (out : Bool) (c : ℕ) → slot.series ≡ true → Right kind.Absolute s t (absolute.leaving out slot (then.Increment c 0))
  leaving-right true c e = evicted-right kind.Absolute s w t key p e (then.Increment c 0) refl
  leaving-right false c e = kept-right kind.Absolute s w t key p e (then.Increment c 0) refl

  pub inc-stores : (rate : RateLimit) (c : ℕ) (may out : Bool) → rate_ok rate.0 ≡ true →
      Stores kind.Absolute s t (absolute.inc_change (absolute_word rate.0 (window_in s)) c may out slot looked)
  unfolding absolute.inc_change
  inc-stores rate c may out r = go slot.series refl may
    where
      go : (z : Bool) → slot.series ≡ z → (y : Bool) →
          Stores kind.Absolute s t (inc_to slot looked (absolute_word rate.0 (window_in s)) c out z y)
      go true e true = leaving-right out c e
      go true e false = looked-right kind.Absolute s w t key p e then.Nothing tt
      go false e y = anew kind.Absolute s t _ refl (absolute-ok rate.0 (window_in s) r p.settings.window-low p.settings.window-high) refl

-- ---- suppressed

right_by : (s : Settings) (t : ℕ) (e : Edit) → suppressed.Right s t e → Right kind.Suppressed s t e
right_by s t e r = record {
  uses = r.use-right;
  limit = r.limit-right;
  factor = λ h. true-and (factor_word_ok e.factor) _ (r.factor-right h).word (le-leb e.factor_time t (r.factor-right h).earlier);
  quiet = tt;
}

either-stores : (s : Settings) (t : ℕ) (z : Bool) (e : Edit) → Right kind.Suppressed s t e → Stores kind.Suppressed s t (cond z (Update e) (Take e))
either-stores s t true e r = r
either-stores s t false e r = r

module _ (s : Settings) (w : List ℕ) (t : ℕ) (key : Sent) (p : Passed kind.Suppressed s w t key) where
  abbrev y : Slot
  y = slot_in s w t key

  pub snapshot-stores : (k : Option CachedFactor) → CachingOk t k → Stores kind.Suppressed s t (get_change y k)
  unfolding get_change
  snapshot-stores k o = go y.series refl
    where
      go : (z : Bool) → y.series ≡ z → Stores kind.Suppressed s t (cond z (Update (recached y k (evicting y then.Nothing))) Keep)
      go true e = right_by s t _ (suppressed.evicted-right s w t key p true y (suppressed.opens-slot s w t key p) k o e)
      go false e = tt

  -- by a first look
  abbrev z : Slot
  z = looked_in s w t key

  abbrev out : Bool
  out = overdue_in s t (held_in w key)

  opens : suppressed.Opens s w t key out z
  opens = suppressed.opens-looked s w t key p

  lone-stores : (k : Option CachedFactor) → Stores kind.Suppressed s t (lone_change z.cached k t)
  lone-stores None = tt
  lone-stores (Some k) = either-stores s t z.cached (lone_edit t) (right_by s t _ (suppressed.lone-right s w t key p out z opens))

  pub factor-stores : (k : Option CachedFactor) → CachingOk t k → Stores kind.Suppressed s t (factor_change z k t)
  unfolding factor_change get_change
  factor-stores k o = go z.series refl
    where
      go : (b : Bool) → z.series ≡ b →
          Stores kind.Suppressed s t (cond b (cond b (Update (recached z k (evicting z then.Nothing))) Keep) (lone_change z.cached k t))
      go true e = right_by s t _ (suppressed.evicted-right s w t key p out z opens k o e)
      go false e = lone-stores k

  pub draws-stores : (rate : RateLimit) (c d : ℕ) (k : Option CachedFactor) → CachingOk t k → rate_ok rate.0 ≡ true →
      Stores kind.Suppressed s t (inc_change z (limit_at s z rate) c d k)
  unfolding inc_change inc_edit
  draws-stores rate c d k o r = either-stores s t (has_slot z) _ (right_by s t _ (suppressed.inc-right s w t key p out z opens rate c d k o r z.series refl))
