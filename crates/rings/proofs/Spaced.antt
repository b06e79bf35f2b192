-- The reason why a ring can be long enough: the times of a key's buckets lie at least b + 1 milliseconds apart, and whatever the calls do to them keeps it. An
-- increment adds a bucket only where the newest is older than b. A set that replaces leaves one bucket. One that preserves changes counts and takes buckets
-- out at an end, and no time moves; it adds a bucket only where there is none. Eviction takes out the oldest.
-- d is the distance in ticks, b the longest age that joins, one tick less than d; t is the reading.
-- Assumes nothing.
use Rattle.std.specs.Prelude.{◌≡◌, Bool, cond, List, [], ◌∷◌, ◌++◌, ℕ, zero, suc, ◌+◌, ◌-◌, ◌*◌, ◌≤◌, ◌<◌, ltb, get_or, set, take, drop}
use Rattle.std.proofs.Math.Path.{refl, subst}
use Rattle.std.proofs.Common.{sym, ap, ◌∙◌}
use Rattle.std.proofs.Math.Bool.{true, false}
use Rattle.std.proofs.Math.Decide.{ℕ_discrete}
use native.Mathlib.Omega.{arith}
use Rattle.std.proofs.Math.Dec.{leb}
use Rattle.std.proofs.Math.ListN.{length}
use borrow.Author.Tests.{leb-false, lt-ltb}
use Rattle.answers.specs.declared.HistoryPreservation.{HistoryPreservation}
use Rattle.answers.specs.declared.HistoryPreservation.TheVariants.{PreserveNewest, PreserveOldest}
use Rattle.settings.specs.Clock.{age}
use Rattle.ring.specs.declared.Bucket.{Bucket}
use Rattle.ring.specs.Ring.{bucket, no_bucket, counts}
use Rattle.rules.specs.Buckets.{newest, raised, joins, joined, kept_end, grown, shrunk, preserved}
use Rattle.preserve.specs.Ends.{out}
use Rattle.preserve.specs.Preserving.{lost_at}
use Rattle.preserve.specs.Shortage.{parted_at}
use Rattle.preserve.proofs.Shortage.{parted-at-zero, parted-at-some, cuts, partial-time}
use Rattle.edit.specs.declared.Then.{Then}
use Rattle.edit.specs.declared.Then.TheVariants as then
use Rattle.edit.specs.Bodies.{acted_view}
use Rattle.rings.specs.Spaced.{Spaced}

spaced-lower : (d lo lo' : ℕ) (xs : List Bucket) → lo' ≤ lo → Spaced d lo xs → Spaced d lo' xs
spaced-lower d lo lo' [] h f = tt
spaced-lower d lo lo' (x ∷ xs) h f = (omega arith, f.1)

-- the oldest go
pub spaced-drop : (k d lo : ℕ) (xs : List Bucket) → Spaced d lo xs → Spaced d lo (drop k xs)
spaced-drop zero d lo xs f = f
spaced-drop (suc k) d lo [] f = tt
spaced-drop (suc k) d lo (x ∷ xs) f = spaced-lower d (x.time + d) lo (drop k xs) (omega arith) (spaced-drop k d (x.time + d) xs f.1)

-- the newest go
spaced-take : (k d lo : ℕ) (xs : List Bucket) → Spaced d lo xs → Spaced d lo (take k xs)
spaced-take zero d lo xs f = tt
spaced-take (suc k) d lo [] f = tt
spaced-take (suc k) d lo (x ∷ xs) f = (f.0, spaced-take k d (x.time + d) xs f.1)

-- one has other counts
spaced-set : (i d lo : ℕ) (xs : List Bucket) (m n : ℕ) → Spaced d lo xs → Spaced d lo (set xs i (bucket m n (get_or xs i no_bucket).time))
spaced-set i d lo [] m n f = tt
spaced-set zero d lo (x ∷ xs) m n f = f
spaced-set (suc i) d lo (x ∷ xs) m n f = (f.0, spaced-set i d (x.time + d) xs m n f.1)

-- one more at the end, at least d after the last
spaced-more : (d lo : ℕ) (xs : List Bucket) (m n t : ℕ) → (length xs ≡ 0 → lo ≤ t) → ((i : ℕ) → suc i ≡ length xs → (get_or xs i no_bucket).time + d ≤ t) →
    Spaced d lo xs → Spaced d lo (xs ++ (bucket m n t ∷ []))
spaced-more d lo [] m n t z h f = (z refl, tt)
spaced-more d lo (x ∷ xs) m n t z h f =
    (f.0, spaced-more d (x.time + d) xs m n t (λ e. h 0 (ap suc (sym e))) (λ i e. h (suc i) (ap suc e)) f.1)

-- from the oldest to the newest
pub spaced-span : (d lo : ℕ) (x : Bucket) (xs : List Bucket) → Spaced d lo (x ∷ xs) → x.time + length xs * d ≤ (get_or (x ∷ xs) (length xs) no_bucket).time
spaced-span d lo x [] f = omega arith
spaced-span d lo x (y ∷ xs) f = omega (arith, spaced-span d (x.time + d) y xs f.1)

-- any two of them
pub spaced-times : (d lo : ℕ) (xs : List Bucket) → Spaced d lo xs → (i j : ℕ) → i < j → j < length xs →
    (get_or xs i no_bucket).time + d ≤ (get_or xs j no_bucket).time
spaced-times d lo [] f i j h l = absurd (omega arith)
spaced-times d lo (x ∷ xs) f zero zero h l = absurd (omega arith)
spaced-times d lo (x ∷ xs) f (suc i) zero h l = absurd (omega arith)
spaced-times d lo (x ∷ xs) f zero (suc j) h l = spaced-from d (x.time + d) xs f.1 j (omega arith)
  where
    spaced-from : (d lo : ℕ) (xs : List Bucket) → Spaced d lo xs → (j : ℕ) → j < length xs → lo ≤ (get_or xs j no_bucket).time
    spaced-from d lo [] f j l = absurd (omega arith)
    spaced-from d lo (x ∷ xs) f zero l = f.0
    spaced-from d lo (x ∷ xs) f (suc j) l = omega (arith, f.0, spaced-from d (x.time + d) xs f.1 j (omega arith))
spaced-times d lo (x ∷ xs) f (suc i) (suc j) h l = spaced-times d (x.time + d) xs f.1 i j (omega arith) (omega arith)

-- ---- the rules keep it

module _ (d b : ℕ) (is : d ≡ b + 1) where
  raised-kept : (i c e : ℕ) (xs : List Bucket) → Spaced d 0 xs → Spaced d 0 (raised i c e xs)
  unfolding raised
  raised-kept i c e xs f = spaced-set i d 0 xs _ _ f

  -- where an increment does not join, the newest is older than b
  pub unjoined : (t : ℕ) (xs : List Bucket) → joins b t xs ≡ false → 0 < length xs → (newest xs).time + d ≤ t
  unfolding joins
  unjoined t xs e h =
      let p : leb (age t (newest xs).time) b ≡ false = rw (lt-ltb 0 (length xs) h) at e in
      omega (arith, leb-false (age t (newest xs).time) b p)

  joined-kept : (t c e : ℕ) (xs : List Bucket) → Spaced d 0 xs → Spaced d 0 (joined b t c e xs)
  unfolding joined
  joined-kept t c e xs f = go (joins b t xs) refl
    where
      go : (z : Bool) → joins b t xs ≡ z → Spaced d 0 (cond z (raised (length xs - 1) c e xs) (xs ++ (bucket c e t ∷ [])))
      go true z = raised-kept (length xs - 1) c e xs f
      go false z =
          spaced-more d 0 xs c e t (λ y. omega arith)
          (λ i q.
          let j : length xs - 1 ≡ i = omega arith in
          subst (λ (k : ℕ). (get_or xs k no_bucket).time + d ≤ t) j (unjoined t xs z (omega arith))) f

  -- a shortage: whole buckets go from one end, and the next one loses counts
  out-kept : (p : HistoryPreservation) (k : ℕ) (xs : List Bucket) → Spaced d 0 xs → Spaced d 0 (out p k xs)
  out-kept PreserveNewest k xs f = spaced-drop k d 0 xs f
  out-kept PreserveOldest k xs f = spaced-take (length xs - k) d 0 xs f

  parted-kept : (p : HistoryPreservation) (q : ℕ) (zs : List Bucket) → Spaced d 0 zs → Spaced d 0 (parted_at p q zs)
  parted-kept p q zs f = go (ℕ_discrete q 0)
    where
      go : Dec (q ≡ 0) → Spaced d 0 (parted_at p q zs)
      go (yes e) = subst (λ (ys : List Bucket). Spaced d 0 ys) (sym (parted-at-zero p q zs e)) f
      go (no n) =
          let i = lost_at p (length zs) 0 in
          let x = get_or zs i no_bucket in
          subst (λ (ys : List Bucket). Spaced d 0 ys) (sym (parted-at-some p q zs n ∙ ap (set zs i) (partial-time q x))) (spaced-set i d 0 zs _ _ f)

  shrunk-kept : (p : HistoryPreservation) (m : ℕ) (xs : List Bucket) → Spaced d 0 xs → Spaced d 0 (shrunk p m xs)
  shrunk-kept p m xs f = subst (λ (ys : List Bucket). Spaced d 0 ys) (sym (cuts p m xs).is) (parted-kept p _ _ (out-kept p _ xs f))

  -- a surplus: a bucket that is there gets it
  grown-kept : (p : HistoryPreservation) (t m : ℕ) (xs : List Bucket) → Spaced d 0 xs → Spaced d 0 (grown p t m xs)
  unfolding grown
  grown-kept p t m xs f = go (ltb 0 (length xs))
    where
      go : (z : Bool) → Spaced d 0 (cond z (raised (kept_end p (length xs)) m 0 xs) (bucket m 0 t ∷ []))
      go true = raised-kept (kept_end p (length xs)) m 0 xs f
      go false = (omega arith, tt)

  preserved-kept : (p : HistoryPreservation) (t n : ℕ) (xs : List Bucket) → Spaced d 0 xs → Spaced d 0 (preserved p t n xs)
  unfolding preserved
  preserved-kept p t n xs f = go (ltb (counts xs) n)
    where
      go : (z : Bool) → Spaced d 0 (cond z (grown p t (n - counts xs) xs) (shrunk p (counts xs - n) xs))
      go true = grown-kept p t (n - counts xs) xs f
      go false = shrunk-kept p (counts xs - n) xs f

  pub acted-kept : (t : ℕ) (then : Then) (xs : List Bucket) → Spaced d 0 xs → Spaced d 0 (acted_view b t then xs)
  unfolding acted_view
  acted-kept t then.Nothing xs f = f
  acted-kept t (then.Increment c e) xs f = joined-kept t c e xs f
  acted-kept t (then.Replace n) xs f = (omega arith, tt)
  acted-kept t (then.Preserve p n) xs f = preserved-kept p t n xs f
