-- What each change makes of a sound body: the words hold what the rules say, they are sound at the reading again, and what
-- is beside the buckets stays.
-- Assumes nothing.
use Rattle.std.specs.Prelude.{◌≡◌, refl, Bool, true, false, cond, List, [], ◌∷◌, ◌++◌, ℕ, ◌+◌, ◌-◌, ◌≤◌, ◌<◌, length, get_or, set, drop, leb, ltb}
use Rattle.std.proofs.Common.{sym, ap, subst, arith, drop_of_length-le, lt-ltb, le-ltb, ltb-true}
use Rattle.ring.specs.declared.Bucket.{Bucket}
use Rattle.layout.specs.Layout.{most_total}
use Rattle.ring.specs.Ring.{bucket, no_bucket, sum_of, count_of, denied_of, counts, declineds, total_of, declined_of, len_of, buckets, Free, Rewrites, pushed, without}
use Rattle.ring.specs.Sums.{sum-append, sum_one, sum-none, sum-set, sum-at, sum-split}
use Rattle.base.specs.Decides.{and-true}
use Rattle.ring.specs.Order.{Fine, fine_more, fine-drop, fine-set, fine-at, fine-sums}
use Rattle.ring.specs.View.{view-length, view-at}
use Rattle.ring.specs.Holds.{Holds, Beside, beside-on, holds-length, holds_at, push-holds, rewrite-holds, evict-holds, push-beside, rewrite-beside}
use Rattle.ring.specs.Holds.{evict-beside}
use Rattle.ring.specs.Sound.{Sound, sound-holds, holds-sound}
use Rattle.rules.specs.Buckets.{newest, raised, joins, joined, replaced}
use Rattle.history.specs.Words.{bucket_of, raised_words, Raises, incremented, Takes, replaced_words, Sets}

-- b' holds xs, is sound at t, and has b's other words
pub record Became (r : ℕ) (b : List ℕ) (t : ℕ) (b' : List ℕ) (xs : List Bucket) : Type 0 where
  pub holds : Holds r b' xs
  pub sound : Sound r b' t
  pub beside : Beside b b'

pub became : {r : ℕ} {b b' : List ℕ} {xs : List Bucket} (t : ℕ) → Holds r b' xs → Fine 0 xs t → counts xs ≤ most_total → Beside b b' → Became r b t b' xs
became t h f m o = record { holds = h; sound = holds-sound t h f m; beside = o }

-- ---- eviction

pub evict-became : (r : ℕ) (b : List ℕ) (t k : ℕ) → Sound r b t → k ≤ len_of b → Became r b t (without r b k) (drop k (buckets r b))
evict-became r b t k s h =
    let xs = buckets r b in
    became t (evict-holds r b xs k (sound-holds s) (omega (arith, view-length r b))) (fine-drop k 0 xs t s.each)
    (omega (arith, sum-split count_of k xs, s.total, s.most)) (evict-beside r b k)

-- ---- a bucket that counts more

pub raise-within : {r : ℕ} {b : List ℕ} {i c d : ℕ} → Raises r b i c d → Rewrites r b i ((bucket_of r b i).count + c) ((bucket_of r b i).declined + d)
raise-within h = record {
  shape = h.shape;
  some = h.some;
  count = h.count;
  denied = h.denied;
  total = omega (arith, h.count, h.total);
  declined = omega (arith, h.denied, h.declined);
}

pub sound-at : {r : ℕ} {b : List ℕ} {t : ℕ} → Sound r b t → (f : Bucket → ℕ) (i : ℕ) → i < len_of b → f (bucket_of r b i) ≤ sum_of f (buckets r b)
sound-at {r} {b} s f i h = let xs = buckets r b in omega (arith, sum-at f xs i (omega (arith, view-length r b)), ap f (view-at r b i h))

pub sound-declined : {r : ℕ} {b : List ℕ} {t : ℕ} → Sound r b t → declined_of b ≤ total_of b
sound-declined {r} {b} {t} s = omega (arith, fine-sums 0 (buckets r b) t s.each, s.total, s.declined)

pub sound-raises : {r : ℕ} {b : List ℕ} {t : ℕ} (i c d : ℕ) → Sound r b t → i < len_of b → d ≤ c → total_of b + c ≤ most_total → Raises r b i c d
sound-raises i c d s h l m =
    record {
      shape = s.shape;
      some = h;
      count = omega (arith, sound-at s count_of i h, s.total);
      denied = omega (arith, sound-at s denied_of i h, s.declined);
      total = m;
      declined = omega (arith, sound-declined s);
    }

raise-holds : (r : ℕ) (b : List ℕ) (xs : List Bucket) (i c d : ℕ) → Holds r b xs → i < length xs → Holds r (raised_words r b i c d) (raised i c d xs)
unfolding raised
raise-holds r b xs i c d h l =
    subst (λ (x : Bucket). Holds r (raised_words r b i c d) (set xs i (bucket (x.count + c) (x.declined + d) (get_or xs i no_bucket).time))) (holds_at h i l)
    (rewrite-holds r b xs i ((bucket_of r b i).count + c) ((bucket_of r b i).declined + d) h l)

raised-fine : (i c d lo : ℕ) (xs : List Bucket) (hi : ℕ) → d ≤ c → Fine lo xs hi → Fine lo (raised i c d xs) hi
unfolding raised
raised-fine i c d lo xs hi h f = fine-set i lo xs ((get_or xs i no_bucket).count + c) ((get_or xs i no_bucket).declined + d) hi (omega (arith, fine-at i lo xs hi f)) f

pub raised-counts : (i c d : ℕ) (xs : List Bucket) → i < length xs → counts (raised i c d xs) ≡ counts xs + c
unfolding raised
raised-counts i c d xs l =
    omega (arith, sum-set count_of xs i (bucket ((get_or xs i no_bucket).count + c) ((get_or xs i no_bucket).declined + d) (get_or xs i no_bucket).time) l)

pub raised-declineds : (i c d : ℕ) (xs : List Bucket) → i < length xs → declineds (raised i c d xs) ≡ declineds xs + d
unfolding raised
raised-declineds i c d xs l =
    omega (arith, sum-set denied_of xs i (bucket ((get_or xs i no_bucket).count + c) ((get_or xs i no_bucket).declined + d) (get_or xs i no_bucket).time) l)

pub raise-became : (r : ℕ) (b : List ℕ) (t i c d : ℕ) → Sound r b t → i < len_of b → d ≤ c → total_of b + c ≤ most_total →
    Became r b t (raised_words r b i c d) (raised i c d (buckets r b))
raise-became r b t i c d s h l m =
    let xs = buckets r b in
    let h' : i < length xs = omega (arith, view-length r b) in
    became t (raise-holds r b xs i c d (sound-holds s) h') (raised-fine i c d 0 xs t l s.each) (omega (arith, raised-counts i c d xs h', s.total))
    (rewrite-beside r b i _ _)

pub push-became : (r : ℕ) (b : List ℕ) (t c d : ℕ) → Sound r b t → len_of b < r → d ≤ c → total_of b + c ≤ most_total →
    Became r b t (pushed r b c d t) (buckets r b ++ (bucket c d t ∷ []))
push-became r b t c d s h l m =
    let xs = buckets r b in
    became t (push-holds r b xs c d t (sound-holds s) h) (fine_more 0 xs c d t (omega arith) l s.each)
    (omega (arith, sum-append count_of xs (bucket c d t ∷ []), sum_one count_of (bucket c d t), s.total)) (push-beside r b c d t)

-- ---- an increment

pub joins-some : (s t : ℕ) (xs : List Bucket) → joins s t xs ≡ true → 0 < length xs
unfolding joins
joins-some s t xs e = ltb-true _ _ (and-true (ltb 0 (length xs)) _ e).0

pub joins-none : (s t : ℕ) (xs : List Bucket) → length xs ≡ 0 → false ≡ joins s t xs
unfolding joins
joins-none s t xs e = simp (le-ltb 0 (length xs) (omega arith))

pub joins-newest : (s t : ℕ) (xs : List Bucket) → 0 < length xs → leb (t - (newest xs).time) s ≡ joins s t xs
unfolding joins
joins-newest s t xs h = simp (lt-ltb _ _ h)

pub increment-became : (r : ℕ) (b : List ℕ) (s t c d : ℕ) → Takes r b s t c d → Became r b t (incremented r b s t c d) (joined s t c d (buckets r b))
unfolding incremented joined
increment-became r b s t c d h = go (joins s t (buckets r b)) refl
  where
    go : (j : Bool) → joins s t (buckets r b) ≡ j → Became r b t (cond j (raised_words r b (len_of b - 1) c d) (pushed r b c d t))
        (cond j (raised (length (buckets r b) - 1) c d (buckets r b)) (buckets r b ++ (bucket c d t ∷ [])))
    go true e =
        let n = view-length r b in
        let l : len_of b - 1 < len_of b = omega (arith, joins-some s t (buckets r b) e) in
        subst (λ (k : ℕ). Became r b t (raised_words r b (len_of b - 1) c d) (raised (k - 1) c d (buckets r b))) (sym n)
        (raise-became r b t (len_of b - 1) c d h.sound l h.least h.total)
    go false e = push-became r b t c d h.sound (h.free e) h.least h.total

pub joined-declineds : (s t c d : ℕ) (xs : List Bucket) → declineds (joined s t c d xs) ≡ declineds xs + d
unfolding joined
joined-declineds s t c d xs = go (joins s t xs) refl
  where
    go : (j : Bool) → joins s t xs ≡ j → declineds (cond j (raised (length xs - 1) c d xs) (xs ++ (bucket c d t ∷ []))) ≡ declineds xs + d
    go true e = raised-declineds (length xs - 1) c d xs (omega (arith, joins-some s t xs e))
    go false e = omega (arith, sum-append denied_of xs (bucket c d t ∷ []), sum_one denied_of (bucket c d t))

-- ---- replacing

pub emptied : (r : ℕ) (b : List ℕ) (t : ℕ) → Sound r b t → Became r b t (without r b (len_of b)) []
emptied r b t s = let l : length (buckets r b) ≤ len_of b =
    omega (arith, view-length r b) in subst (λ (xs : List Bucket). Became r b t (without r b (len_of b)) xs) (drop_of_length-le (buckets r b) l)
    (evict-became r b t (len_of b) s (omega arith))

-- an empty sound body can take a bucket
pub empty-free : {r : ℕ} {b : List ℕ} {b' : List ℕ} {t : ℕ} (n : ℕ) → n ≤ most_total → Became r b t b' [] → Free r b' n 0
empty-free n m e =
    let l = holds-length e.holds in
    record {
      shape = e.holds.shape;
      free = omega (arith, l, e.holds.shape.head);
      count = omega (arith, e.holds.total, sum-none count_of);
      declined = omega (arith, e.holds.declined, sum-none denied_of);
    }

pub replace-became : (r : ℕ) (b : List ℕ) (t n : ℕ) → Sets r b t n → Became r b t (replaced_words r b t n) (replaced t n)
unfolding replaced_words
replace-became r b t n h =
    let e = emptied r b t h.sound in
    let f = empty-free n h.most e in
    let p = push-became r (without r b (len_of b)) t n 0 e.sound f.free (omega arith) f.count in
    subst (λ (xs : List Bucket). Became r b t (pushed r (without r b (len_of b)) n 0 t) (xs ++ (bucket n 0 t ∷ []))) e.holds.view
    (record { holds = p.holds; sound = p.sound; beside = beside-on e.beside p.beside })
