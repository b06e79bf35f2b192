-- What the code of a change asks at each store, and that its stores come to the words said.
-- Assumes nothing.
use Rattle.std.specs.Prelude.{◌≡◌, ◌≢◌, true, false, List, [], ℕ, ◌-◌, ◌≤◌, ◌<◌, length, get_or, drop, leb}
use Rattle.std.proofs.Common.{sym, ap, subst, ◌∙◌, arith, drop_of_length-le}
use Rattle.ring.specs.declared.Bucket.{Bucket}
use Rattle.ring.specs.Ring.{no_bucket, count_of, denied_of, counts, declineds, len_of, buckets, Free, Leaves, without}
use Rattle.ring.specs.Sums.{sum-none}
use Rattle.ring.specs.View.{view-length, view-at}
use Rattle.rules.specs.Buckets.{newest, joins}
use Rattle.history.specs.Words.{bucket_of, Raises, Takes, Sets}
use Rattle.history.specs.Changes.{joins-some, joins-newest, sound-declined, sound-raises, emptied, empty-free}

-- ---- an increment

pub joined_is : (r : ℕ) (b : List ℕ) (s t n m : ℕ) (x : Bucket) → n ≡ len_of b → n ≢ 0 → x ≡ bucket_of r b (n - 1) → m ≡ t - x.time →
    leb m s ≡ joins s t (buckets r b)
joined_is r b s t n m x e z a w =
    let xs = buckets r b in
    let v = view-length r b in
    let i : n - 1 ≡ length xs - 1 = omega arith in
    let y : x ≡ newest xs = a ∙ sym (view-at r b (n - 1) (omega arith)) ∙ ap (λ (k : ℕ). get_or xs k no_bucket) i in
    ap (λ (k : ℕ). leb k s) (w ∙ ap (λ (y : Bucket). t - y.time) y) ∙ joins-newest s t xs (omega arith)

pub takes-some : (r : ℕ) (b : List ℕ) (s t : ℕ) → joins s t (buckets r b) ≡ true → 0 < len_of b
takes-some r b s t e = omega (arith, joins-some s t (buckets r b) e, view-length r b)

pub takes-raises : {r : ℕ} {b : List ℕ} {s t c d : ℕ} (n : ℕ) → Takes r b s t c d → joins s t (buckets r b) ≡ true → n ≡ len_of b → Raises r b (n - 1) c d
takes-raises {r} {b} {s} {t} {c} {d} n h e l = sound-raises (n - 1) c d h.sound (omega (arith, takes-some r b s t e)) h.least h.total

pub takes-free : {r : ℕ} {b : List ℕ} {s t c d : ℕ} → Takes r b s t c d → joins s t (buckets r b) ≡ false → Free r b c d
takes-free h e = record { shape = h.sound.shape; free = h.free e; count = h.total; declined = omega (arith, sound-declined h.sound, h.least, h.total) }

-- ---- replacing

pub sets-leaves : {r : ℕ} {b : List ℕ} {t n : ℕ} (k : ℕ) → Sets r b t n → k ≡ len_of b → Leaves r b k (drop k (buckets r b)) 0 0
sets-leaves {r} {b} k h e =
    let l : length (buckets r b) ≤ k = omega (arith, view-length r b) in
    let z : drop k (buckets r b) ≡ [] = drop_of_length-le (buckets r b) l in
    record {
      shape = h.sound.shape;
      some = omega arith;
      count = omega (arith, ap counts z, sum-none count_of);
      denied = omega (arith, ap declineds z, sum-none denied_of);
    }

pub sets-free : {r : ℕ} {b : List ℕ} {t n : ℕ} (b' : List ℕ) → Sets r b t n → b' ≡ without r b (len_of b) → Free r b' n 0
sets-free {r} {b} {t} {n} b' h e = subst (λ (w : List ℕ). Free r w n 0) (sym e) (empty-free {b = b} n h.most (emptied r b t h.sound))
