-- What a key holds in a room, by its packed key: whichever slot it stands in. What becomes of it where its slot is changed, where it is freed, and where
-- another slot is.
-- Assumes nothing.
use Rattle.std.specs.Prelude.{◌≡◌, refl, Bool, List, ◌≢◌, ℕ, ◌≤◌, ◌<◌, length}
use Rattle.std.proofs.Common.{sym, ◌∙◌, arith, lt-ltb, le-ltb}
use Rattle.std.proofs.Math.Path.{ap}
use Rattle.std.proofs.Math.Bool.{cond}
use Rattle.std.proofs.Math.Decide.{ℕ_discrete, dec_lt}
use Rattle.settings.specs.declared.Settings.{Settings}
use Rattle.ring.specs.declared.Bucket.{Bucket}
use Rattle.rules.specs.Held.{nothing}
use Rattle.rules.specs.declared.RoomKind.{RoomKind}
use Rattle.keys.specs.declared.Key.{Key}
use Rattle.room.specs.Room.{Room, slots_of, ring_of, holder_of, use_of, key_at, find, body_of, with_reading}
use Rattle.frame.specs.Distinct.{Distinct, changed-holder, find-held, find-key, find-where, find-still}
use Rattle.frame.specs.Frame.{Changed, other-holder, other_key, read-run}
use Rattle.parties.specs.Parties.{Sent, key_for}
use Rattle.opened.specs.Sound.{has_series, has_cached, addressed}
use Rattle.judge.specs.Held.{held_by, held_of, held_in}
use Rattle.judge.proofs.Held.{held-here, held_none}
use Rattle.leaves.specs.Calls.{Stands}
use Rattle.places.specs.Has.{Untouched}
use Rattle.apart.specs.Holds.{held_at, held_for}

module _ (w : List ℕ) (k : Key) where
  pub for-here : find w k < slots_of w → held_for w k ≡ held_at w (find w k)
  unfolding held_for
  for-here h = ap (λ (z : Bool). cond z (held_at w (find w k)) nothing) (lt-ltb _ _ h)

  pub for-none : slots_of w ≤ find w k → held_for w k ≡ nothing
  unfolding held_for
  for-none h = ap (λ (z : Bool). cond z (held_at w (find w k)) nothing) (le-ltb _ _ h)

  -- where its slot is i
  pub for-at : (i : ℕ) → find w k ≡ i → i < slots_of w → held_for w k ≡ held_at w i
  for-at i e h = for-here (omega arith) ∙ ap (held_at w) e

-- what a call is judged on: of a key of at most 32 bytes
module _ (w : List ℕ) (key : Sent) where
  pub addressed-short : length key.bytes ≤ 32 → addressed w key ≡ find w (key_for key)
  unfolding addressed
  addressed-short h = rw (le-ltb 32 (length key.bytes) h)

  pub addressed-long : 32 < length key.bytes → addressed w key ≡ slots_of w
  unfolding addressed
  addressed-long h = rw (lt-ltb 32 (length key.bytes) h)

  pub held-short : length key.bytes ≤ 32 → held_in w key ≡ held_for w (key_for key)
  held-short l = go (dec_lt (find w (key_for key)) (slots_of w))
    where
      go : Dec (find w (key_for key) < slots_of w) → held_in w key ≡ held_for w (key_for key)
      go (yes h) =
          let e = addressed-short l in
          held-here w key (omega arith) ∙ ap (held_at w) e ∙ sym (for-here w (key_for key) h)
      go (no h) = let e = addressed-short l in held_none w key (omega arith) ∙ sym (for-none w (key_for key) (omega arith))

  pub held-long : 32 < length key.bytes → held_in w key ≡ nothing
  held-long l = let e = addressed-long l in held_none w key (omega arith)

-- ---- after a change

module _ {w v : List ℕ} {at u : ℕ} {k : Key} {b : List ℕ} {t : ℕ} (c : Changed w v at u k b t) where
  -- its key's slot is there
  pub changed-find : Distinct v → k.holder ≢ 0 → find v k ≡ at
  changed-find d n = find-where v k at d (omega (arith, c.inside, c.slots)) (λ z. n (sym (changed-holder c) ∙ z)) c.key

  pub changed-held : Distinct v → k.holder ≢ 0 → held_for v k ≡ held_at v at
  changed-held d n = for-at v k at (changed-find d n) (omega (arith, c.inside, c.slots))

-- a slot with these buckets, limit, cached factor and use
pub stands-held : {kind : RoomKind} {s : Settings} {w v : List ℕ} {at t : ℕ} {k : Key} {limit factor time used : ℕ} {ys : List Bucket} →
    Stands kind s w v at t k limit factor time used ys → Distinct v → k.holder ≢ 0 →
    held_for v k ≡ held_by (has_series used) (has_cached used) limit ys factor time
stands-held {kind} {s} {w} {v} {at} {t} {k} {limit} {factor} {time} {used} {ys} o d n =
    changed-held o.changed d n ∙
    (λ i. held_by (has_series (o.changed.used i)) (has_cached (o.changed.used i)) (o.limit_is i) (o.view i) (o.factor-is i) (o.time-is i))

-- a key that was in one slot, which is free now
pub freed-held : {w v : List ℕ} {at u : ℕ} {j : Key} {b : List ℕ} {t : ℕ} → Changed w v at u j b t → j.holder ≡ 0 → Distinct w → (k : Key) →
    holder_of w at ≢ 0 → key_at w at ≡ k → held_for v k ≡ nothing
freed-held {w} {v} {at} c z d k n e = for-none v k (go (dec_lt (find v k) (slots_of v)))
  where
    elsewhere : find v k < slots_of v → Dec (find v k ≡ at) → ⊥
    elsewhere h (yes q) = find-held v k h (ap (holder_of v) q ∙ changed-holder c ∙ z)
    elsewhere h (no q) =
        let l : find v k < slots_of w = omega (arith, h, c.slots) in
        let m : holder_of w (find v k) ≢ 0 = λ y. find-held v k h (other-holder c (find v k) l q ∙ y) in
        q (d.once (find v k) at l c.inside m n (sym (other_key c (find v k) l q) ∙ find-key v k h ∙ sym e))

    go : Dec (find v k < slots_of v) → slots_of v ≤ find v k
    go (yes h) = absurd (elsewhere h (ℕ_discrete (find v k) at))
    go (no h) = omega arith

-- only the reading
pub read_held : (w : List ℕ) (t : ℕ) → Room w → (k : Key) → held_for (with_reading w t) k ≡ held_for w k
read_held w t o k = go (dec_lt (find w k) (slots_of w))
  where
    v : List ℕ
    v = with_reading w t

    c0 : Changed w (with_reading w t) 0 (use_of w 0) (key_at w 0) (body_of w 0) t
    c0 = read-run w 0 t o o.one

    f : find (with_reading w t) k ≡ find w k
    f = find-still c0 refl k

    go : Dec (find w k < slots_of w) → held_for (with_reading w t) k ≡ held_for w k
    go (yes h) =
        let c = read-run w (find w k) t o h in
        for-at (with_reading w t) k (find w k) f (omega (arith, c.slots)) ∙
        (λ i. held_of (c.ring i) (c.used i) (c.body i)) ∙ sym (for-here w k h)
    go (no h) = for-none (with_reading w t) k (omega (arith, c0.slots, f)) ∙ sym (for-none w k (omega arith))

-- another key's, where its slot stands
pub beside-held : (w v : List ℕ) (k : Key) → slots_of v ≡ slots_of w → ring_of v ≡ ring_of w → find v k ≡ find w k →
    (find w k < slots_of w → Untouched w v (find w k)) → held_for v k ≡ held_for w k
beside-held w v k n r f u = go (dec_lt (find w k) (slots_of w))
  where
    go : Dec (find w k < slots_of w) → held_for v k ≡ held_for w k
    go (yes h) =
        let q = u h in
        for-at v k (find w k) f (omega arith) ∙ (λ i. held_of (r i) (q.used i) (q.body i)) ∙ sym (for-here w k h)
    go (no h) = for-none v k (omega arith) ∙ sym (for-none w k (omega arith))
