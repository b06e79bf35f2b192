-- What `desk` tells of each call is in the range that reads back (document 02, ticket 1): of a sound room that is one party's, at settings that opened it.
-- Assumes nothing.
use Rattle.std.specs.Prelude.{◌≡◌, Bool, ◌&&◌, ◌||◌, ◌≢◌, eqb, leb, ltb, Float, length, drop, Result, Ok, Err}
use Rattle.std.proofs.Math.Path.{refl, sym, subst}
use Rattle.std.proofs.Common.{ap, ◌∙◌, true≢false, eq-eqb, ne_eqb, leb-true, ltb-true}
use Rattle.std.proofs.Math.Bool.{true, false, not, cond}
use mathlib.Core.List.{List, [], ◌∷◌, ◌++◌}
use Prim.Native.Nat.{ℕ, ◌≤◌, ◌<◌}
use Rattle.std.proofs.Math.Decide.{ℕ_discrete, dec_lt}
use native.Mathlib.Omega.{arith}
use Rattle.std.proofs.lemmas.Bool.{lt-leb}
use Rattle.std.proofs.Math.Nat.{le_trans}
use Rattle.base.specs.Decides.{and-true}
use Rattle.common.specs.Ranges.{window_ok, bucket_ok, cache_ok, factor_ok}
use Rattle.common.specs.Refusals.{first, first-none, refuse}
use Rattle.common.specs.declared.units.RateLimit.{RateLimit}
use Rattle.common.specs.declared.units.WindowSize.{WindowSize}
use Rattle.settings.specs.Clock.{ticks_in, window_ticks}
use Rattle.settings.specs.Settings.{faults, proper, window_in, bucket_in, cache_in, factor_in}
use Rattle.settings.specs.declared.Settings.{Settings}
use Rattle.layout.specs.Layout.{first_mark, most_total, longest_key}
use Rattle.ring.specs.declared.Bucket.{Bucket}
use Rattle.ring.specs.Order.{fine-sums}
use Rattle.ring.specs.Ring.{count_of, sum_of, counts, buckets}
use Rattle.ring.specs.Sound.{Sound, sound_buckets, sound-true}
use Rattle.ring.specs.Sums.{sum-split}
use Rattle.answers.specs.declared.RateLimitDecision.{RateLimitDecision}
use Rattle.answers.specs.declared.RateLimitDecision.TheVariants as decision
use Rattle.keys.specs.Keys.{key_of}
use Rattle.room.specs.Room.{slots_of, ring_of, last_of, holder_of, use_of, find, body_of, sized}
use Rattle.frame.specs.Distinct.{find-held}
use Rattle.frame.specs.Keys.{Bytes}
use Rattle.parties.specs.Parties.{Sent, sent, key_for}
use Rattle.rules.specs.Absolute as absolute
use Rattle.rules.specs.Both.{live_of, overdue_in, looked_of}
use Rattle.rules.specs.Buckets.{gone, gone_if}
use Rattle.rules.specs.Held.{Held}
use Rattle.rules.specs.declared.RoomKind.{RoomKind}
use Rattle.rules.specs.declared.RoomKind.TheVariants.{Absolute, Suppressed}
use Rattle.opened.specs.Sound.{has_series, sound_series, addressed}
use Rattle.judge.specs.Held.{held_in}
use Rattle.judge.proofs.Held.{held-here, held_none}
use Rattle.judge.specs.Judge.{misfits}
use Rattle.judge.specs.Verdict.{Verdict, unless_refused}
use Rattle.cleanup.specs.Laws.{sound-parts}
use Rattle.absolute_verdicts.specs.Calls as OnAbsolute
use Rattle.suppressed_verdicts.specs.Calls as OnSuppressed
use Rattle.leaves.proofs.SuppressedFollows.{get-follows, inc-follows}
use Rattle.leaves.specs.Unit.{Within01, nil-within, DecisionOk, SnapshotOk}
use Rattle.places.specs.SoundRoom.{SoundRoom}
use Rattle.steps.specs.Ops as Ops
use Rattle.steps.specs.Ops.{Op}
use Rattle.steps.specs.Table.{table_of}
use Rattle.apart.specs.Alone.{Alone, Others, sole_table}
use Rattle.apart.proofs.Alone.{alone-number}
use Rattle.apart.specs.Promised.{caller_in}
use Rattle.apart.proofs.Own.{own_alone}
use Rattle.told.specs.Told.{no_stored, decided, live, snapped}
use Rattle.told.specs.Range.{TotalsFit, FactorFits, RefusalFits, timeless, ToldFits}
use Rattle.told.specs.declared.Stored.{Stored}
use Rattle.told.specs.declared.Told.{Told}
use Rattle.told.specs.declared.Told.TheVariants.{Suppressed, Refused}
use Rattle.desk_lines.specs.Lines.{alone, stored_at, pick_stored, stored_of}
use Rattle.desk_reads.specs.Range.{is_between, OwnRoom}
use Rattle.common.specs.declared.refusal.Refusal.{Refusal}
use Rattle.answers.specs.declared.SuppressedRateLimitSnapshot.{SuppressedRateLimitSnapshot}

-- ---- totals

module _ (kind : RoomKind) (s : Settings) (w : List ℕ) (o : SoundRoom kind s w) where
  -- a slot in use with a series
  slot-sums : (at : ℕ) → at < slots_of w → holder_of w at ≢ 0 → has_series (use_of w at) ≡ true → Sound (ring_of w) (body_of w at) (last_of w)
  unfolding sound_series
  slot-sums at h n e =
      let p = (sound-parts kind s w at (o.slots at h n)).series in
      let q : sound_series kind s (ring_of w) (last_of w) (body_of w at) ≡ true =
      sym (ap (λ (b : Bool). not b || sound_series kind s (ring_of w) (last_of w) (body_of w at)) e) ∙ p in
      sound-true (ring_of w) (body_of w at) (last_of w) (and-true (sound_buckets (ring_of w) (body_of w at) (last_of w)) _ q).0

  stored_here : (at : ℕ) → Sound (ring_of w) (body_of w at) (last_of w) → TotalsFit (stored_at w at)
  stored_here at p = record {
    most = p.most;
    part = omega (arith, p.total, p.declined, fine-sums 0 (buckets (ring_of w) (body_of w at)) (last_of w) p.each);
  }

  none-stored : TotalsFit no_stored
  none-stored = record { most = omega arith; part = omega arith }

  pub stored-fits : (key : List ℕ) → TotalsFit (stored_of w key)
  unfolding stored_of
  stored-fits key = go (sized w && (ltb at (slots_of w) && has_series (use_of w at))) refl
    where
      at : ℕ
      at = find w (key_of first_mark key)

      go : (b : Bool) → sized w && (ltb at (slots_of w) && has_series (use_of w at)) ≡ b → TotalsFit (pick_stored b (stored_at w at))
      go true e =
          let p = and-true (ltb at (slots_of w)) (has_series (use_of w at)) (and-true (sized w) _ e).1 in
          let h : at < slots_of w = ltb-true at (slots_of w) p.0 in
          stored_here at (slot-sums at h (find-held w (key_of first_mark key) h) p.1)
      go false e = none-stored

  -- ---- what a key's buckets count

  addressed-found : (key : Sent) → addressed w key < slots_of w → addressed w key ≡ find w (key_for key)
  unfolding addressed
  addressed-found key h = go (ltb longest_key (length key.bytes)) h
    where
      go : (b : Bool) → cond b (slots_of w) (find w (key_for key)) < slots_of w → cond b (slots_of w) (find w (key_for key)) ≡ find w (key_for key)
      go true l = absurd (omega (arith, l))
      go false l = refl

  series-few : (at : ℕ) → at < slots_of w → holder_of w at ≢ 0 → (b : Bool) → has_series (use_of w at) ≡ b →
      counts (cond b (buckets (ring_of w) (body_of w at)) []) ≤ most_total
  unfolding sum_of
  series-few at h n true e = let p = slot-sums at h n e in omega (arith, p.total, p.most)
  series-few at h n false e = omega arith

  pub held-few : (key : Sent) → counts (held_in w key).buckets ≤ most_total
  unfolding sum_of
  held-few key = go (dec_lt (addressed w key) (slots_of w))
    where
      go : Dec (addressed w key < slots_of w) → counts (held_in w key).buckets ≤ most_total
      go (yes h) =
          let n : holder_of w (addressed w key) ≢ 0 = subst (λ (i : ℕ). holder_of w i ≢ 0) (sym (addressed-found key h))
          (find-held w (key_for key) (subst (λ (i : ℕ). i < slots_of w) (addressed-found key h) h)) in
          subst (λ (x : List Bucket). counts x ≤ most_total) (sym (ap (λ x. x.buckets) (held-here w key h)))
          (series-few (addressed w key) h n (has_series (use_of w (addressed w key))) refl)
      go (no h) = subst (λ (x : List Bucket). counts x ≤ most_total) (sym (ap (λ x. x.buckets) (held_none w key (omega arith)))) (omega arith)

drop-few : (n : ℕ) (xs : List Bucket) → counts (drop n xs) ≤ counts xs
drop-few n xs = omega (arith, sum-split count_of n xs)

live-few : (s : Settings) (t : ℕ) (h : Held) → counts (live_of s t h) ≤ counts h.buckets
live-few s t h = drop-few (gone (window_ticks s) t h.buckets) h.buckets

looked-few : (s : Settings) (t : ℕ) (h : Held) → counts (looked_of s t h) ≤ counts h.buckets
looked-few s t h = drop-few (gone_if (overdue_in s t h) (window_ticks s) t h.buckets) h.buckets

-- ---- each answer that is no refusal

-- "Rejected carries 1000 W less the oldest bucket's age and that bucket's count": both are u64
rejection-fits : (k : ℕ) (window : WindowSize) (t : ℕ) (xs : List Bucket) (x : Stored) → window.0 ≤ 33554432 → counts xs ≤ most_total → TotalsFit x →
    ToldFits t (decided (absolute.rejection k window t xs) x)
unfolding decided sum_of
rejection-fits k window t [] x h l f = (omega arith, omega arith, f)
rejection-fits k window t (b ∷ bs) x h l f = (omega (arith, h), omega (arith, l), f)

pick-fits : (allowed : Bool) (k : ℕ) (window : WindowSize) (t : ℕ) (xs : List Bucket) (x : Stored) → window.0 ≤ 33554432 → counts xs ≤ most_total →
    TotalsFit x → ToldFits t (decided (absolute.pick_decision allowed decision.Allowed (absolute.rejection k window t xs)) x)
unfolding decided
pick-fits true k window t xs x h l f = f
pick-fits false k window t xs x h l f = rejection-fits k window t xs x h l f

within-fits : {f : Float} → Within01 f → FactorFits f
within-fits p = record { double = p.double; unit = p.word }

suppressed-fits : (t : ℕ) (d : RateLimitDecision) (x : Stored) → DecisionOk d → TotalsFit x → ToldFits t (decided d x)
unfolding decided
suppressed-fits t decision.Allowed x u f = f
suppressed-fits t (decision.Rejected window wait left) x u f = absurd u
suppressed-fits t (decision.Suppressed factor admitted) x u f = (within-fits u, f)
suppressed-fits t (decision.Refused n) x u f = absurd u

-- ---- each refusal: one of 5 to 12

first-between : (xs : List (ℕ × Bool)) → is_between xs ≡ true → first xs ≢ 0 → (5 ≤ first xs) × (first xs ≤ 12)
unfolding first
first-between [] p n = absurd (n refl)
first-between (x ∷ xs) p n = go x.1 n (first-between xs high.1)
  where
    low : (leb 5 x.0 ≡ true) × (leb x.0 12 && is_between xs ≡ true)
    low = and-true (leb 5 x.0) (leb x.0 12 && is_between xs) p

    high : (leb x.0 12 ≡ true) × (is_between xs ≡ true)
    high = and-true (leb x.0 12) (is_between xs) low.1

    go : (b : Bool) → cond b x.0 (first xs) ≢ 0 → (first xs ≢ 0 → (5 ≤ first xs) × (first xs ≤ 12)) →
        (5 ≤ cond b x.0 (first xs)) × (cond b x.0 (first xs) ≤ 12)
    go true m f = (leb-true 5 x.0 low.0, leb-true x.0 12 high.0)
    go false m f = f m

-- such a refusal may have any reading
number_fits : (t n : ℕ) → (5 ≤ n) × (n ≤ 12) → RefusalFits t n
number_fits t n h = record { some = omega arith; most = omega arith; at_zero = λ e. absurd (true≢false (sym e ∙ timed)) }
  where
    timed : timeless n ≡ false
    timed =
        let l : 4 < n = omega arith in
        let z : n ≡ 14 → ⊥ = λ q. omega (arith, h.1, q) in
        rw (lt-leb n 4 l, ne_eqb n 14 z)

-- "1 to 4 at t=0": settings outside their ranges
pub fault-fits : (s : Settings) → first (faults s) ≢ 0 → RefusalFits 0 (first (faults s))
unfolding faults first
fault-fits s n = go (not (window_ok (window_in s))) (not (bucket_ok (bucket_in s))) (not (cache_ok (cache_in s))) (not (factor_ok (factor_in s))) n
  where
    numbered : Bool → Bool → Bool → Bool → ℕ
    numbered a b c d = cond a 1 (cond b 2 (cond c 3 (cond d 4 0)))

    go : (a b c d : Bool) → numbered a b c d ≢ 0 → RefusalFits 0 (numbered a b c d)
    go true b c d n = record { some = omega arith; most = omega arith; at_zero = λ e. refl }
    go false true c d n = record { some = omega arith; most = omega arith; at_zero = λ e. refl }
    go false false true d n = record { some = omega arith; most = omega arith; at_zero = λ e. refl }
    go false false false true n = record { some = omega arith; most = omega arith; at_zero = λ e. refl }
    go false false false false n = absurd (n refl)

module _ (kind : RoomKind) (s : Settings) (w : List ℕ) (t : ℕ) (fine : first (faults s) ≡ 0) (r : OwnRoom kind s w) where
  past-faults : (ys : List (ℕ × Bool)) → is_between ys ≡ true → first (faults s ++ ys) ≢ 0 → RefusalFits t (first (faults s ++ ys))
  unfolding faults
  past-faults ys p n =
      let e : first (faults s ++ ys) ≡ first ys = first-none (faults s) ys (omega arith) fine in
      subst (RefusalFits t) (sym e) (number_fits t (first ys) (first-between ys p (λ z. n (e ∙ z))))

  -- by the table of one party
  turned-fits : (op : Op kind) → caller_in op ≡ alone w → Others op → (ys : List (ℕ × Bool)) → sole_table kind s w t op ≡ faults s ++ ys →
      is_between ys ≡ true → first (table_of kind s w t op) ≢ 0 → RefusalFits t (first (table_of kind s w t op))
  turned-fits op c b ys q p n =
      let e = alone-number kind s w t op (subst (Alone w) (sym c) (own_alone kind s w r.sane r.own)) b ∙ ap first q in
      subst (RefusalFits t) (sym e) (past-faults ys p (λ z. n (e ∙ z)))

-- ---- each call

-- an answer that is told, by whether it is a refusal
answer-fits : {A : Type 0} (tell : A → Told) (turned : ℕ → A) (t n : ℕ) (w : List ℕ) (v : Verdict A) → tell (turned n) ≡ Refused n →
    (n ≢ 0 → RefusalFits t n) → (n ≡ 0 → ToldFits t (tell v.answer)) → ToldFits t (tell (unless_refused turned n w v).answer)
unfolding unless_refused
answer-fits tell turned t n w v e f g = go (ℕ_discrete n 0)
  where
    go : Dec (n ≡ 0) → ToldFits t (tell (cond (eqb n 0) v.answer (turned n)))
    go (yes z) = rw (eq-eqb n 0 z) (g z)
    go (no z) = rw (ne_eqb n 0 z) (subst (ToldFits t) (sym e) (f z))

module _ (s : Settings) (w : List ℕ) (t : ℕ) (fine : first (faults s) ≡ 0) (key : List ℕ) where
  abbrev who : Sent
  who = sent (alone w) key

  pub absolute-inc-fits : OwnRoom Absolute s w → (rate : RateLimit) (n : ℕ) (x : Stored) → TotalsFit x →
      ToldFits t (decided (OnAbsolute.inc s w t (sent (alone w) key) rate n).answer x)
  unfolding OnAbsolute.inc decided absolute.decided misfits
  absolute-inc-fits r rate n x f =
      answer-fits (λ d. decided d x) decision.Refused t _ w _ refl (turned-fits Absolute s w t fine r (Ops.inc who rate n) refl tt _ refl refl)
      (λ e. pick-fits (absolute.allowed s t (held_in w who)) (ticks_in s) s.window_size t (looked_of s t (held_in w who)) x
      (proper s fine).window-high (le_trans (looked-few s t (held_in w who)) (held-few Absolute s w r.sane.sound who)) f)

  pub absolute-get-fits : OwnRoom Absolute s w → ToldFits t (live (OnAbsolute.get s w t (sent (alone w) key)).answer)
  unfolding OnAbsolute.get live misfits
  absolute-get-fits r =
      answer-fits live refuse t _ w _ refl (turned-fits Absolute s w t fine r (Ops.get who) refl tt _ refl refl)
      (λ e. (
        within-fits nil-within,
        record { most = le_trans (live-few s t (held_in w who)) (held-few Absolute s w r.sane.sound who); part = omega arith },
      ))

  pub suppressed-inc-fits : OwnRoom Suppressed s w → Bytes key → (rate : RateLimit) (n draw : ℕ) (x : Stored) → TotalsFit x →
      ToldFits t (decided (OnSuppressed.inc s w t (sent (alone w) key) rate n draw).answer x)
  unfolding decided
  suppressed-inc-fits r y rate n draw x f = go (ℕ_discrete (first (table_of Suppressed s w t (Ops.draws (sent (alone w) key) rate n draw))) 0)
    where
      go : Dec (first (table_of Suppressed s w t (Ops.draws (sent (alone w) key) rate n draw)) ≡ 0) →
          ToldFits t (decided (OnSuppressed.inc s w t (sent (alone w) key) rate n draw).answer x)
      go (yes z) =
          let o = (inc-follows s w t (sent (alone w) key) rate n draw y).done z in
          suppressed-fits t (OnSuppressed.inc s w t (sent (alone w) key) rate n draw).answer x (subst DecisionOk (sym o.answer) o.unit) f
      go (no z) = subst (λ (d : RateLimitDecision). ToldFits t (decided d x)) ((inc-follows s w t (sent (alone w) key) rate n draw y).refused z).answer
          (turned-fits Suppressed s w t fine r (Ops.draws who rate n draw) refl tt _ refl refl z)

  pub suppressed-get-fits : OwnRoom Suppressed s w → Bytes key → (x : Stored) → TotalsFit x →
      ToldFits t (snapped (OnSuppressed.get s w t (sent (alone w) key)).answer x)
  unfolding snapped
  suppressed-get-fits r y x f = go (ℕ_discrete (first (table_of Suppressed s w t (Ops.snapshot (sent (alone w) key)))) 0)
    where
      told : (a : Result SuppressedRateLimitSnapshot Refusal) → SnapshotOk a → ToldFits t (snapped a x)
      told (Ok z) u = (within-fits u, f)
      told (Err n) u = absurd u

      go : Dec (first (table_of Suppressed s w t (Ops.snapshot (sent (alone w) key))) ≡ 0) →
          ToldFits t (snapped (OnSuppressed.get s w t (sent (alone w) key)).answer x)
      go (yes z) = told (OnSuppressed.get s w t (sent (alone w) key)).answer ((get-follows s w t (sent (alone w) key) y).done z).unit
      go (no z) = subst (λ (d : Result SuppressedRateLimitSnapshot Refusal). ToldFits t (snapped d x)) ((get-follows s w t (sent (alone w) key) y).refused z).answer
          (turned-fits Suppressed s w t fine r (Ops.snapshot who) refl tt _ refl refl z)
