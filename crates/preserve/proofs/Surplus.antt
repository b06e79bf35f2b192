-- What becomes of the buckets where a set that preserves has a surplus.
-- Assumes nothing.
use Rattle.std.specs.Prelude.{◌≡◌, refl, Bool, true, false, cond, List, [], ◌∷◌, ◌++◌, ℕ, ◌+◌, ◌<◌, length, ltb, eqb}
use Rattle.std.proofs.Common.{sym, ap, subst, arith, drop_of_length-le, lt-ltb, le-ltb, ltb-true, ltb-false, eqb-true}
use Rattle.std.proofs.lemmas.Bool.{eqb-false}
use Rattle.answers.specs.declared.HistoryPreservation.{HistoryPreservation}
use Rattle.answers.specs.declared.HistoryPreservation.TheVariants.{PreserveNewest, PreserveOldest}
use Rattle.ring.specs.declared.Bucket.{Bucket}
use Rattle.ring.specs.Ring.{bucket, count_of, denied_of, counts, declineds, len_of, buckets, pushed}
use Rattle.ring.specs.Sums.{sum_one, sum-none}
use Rattle.ring.specs.View.{view-length}
use Rattle.rules.specs.Buckets.{raised, kept_end, grown}
use Rattle.history.specs.Words.{raised_words}
use Rattle.preserve.specs.Preserving.{grown_words, Grows}
use Rattle.history.specs.Changes.{Became, push-became, raise-became, raised-counts, raised-declineds}

-- ---- preserving: a surplus

pub kept-lt : (p : HistoryPreservation) (n : ℕ) → 0 < n → kept_end p n < n
kept-lt PreserveNewest n h = omega arith
kept-lt PreserveOldest n h = h

pub grow-became : (p : HistoryPreservation) (r : ℕ) (b : List ℕ) (t s : ℕ) → Grows r b t s → Became r b t (grown_words p r b t s) (grown p t s (buckets r b))
unfolding grown_words grown
grow-became p r b t s h = go (eqb (len_of b) 0) refl
  where
    n : length (buckets r b) ≡ len_of b
    n = view-length r b

    go : (e : Bool) → eqb (len_of b) 0 ≡ e → Became r b t (cond e (pushed r b s 0 t) (raised_words r b (kept_end p (len_of b)) s 0))
        (cond (ltb 0 (length (buckets r b))) (raised (kept_end p (length (buckets r b))) s 0 (buckets r b)) (bucket s 0 t ∷ []))
    go true e =
        let z : len_of b ≡ 0 = eqb-true _ _ e in
        let v : buckets r b ≡ [] = drop_of_length-le (buckets r b) {i = 0} (omega (arith, n)) in
        let p = push-became r b t s 0 h.sound (omega (arith, h.sound.shape.head)) (omega arith) h.total in
        simp (le-ltb 0 (length (buckets r b)) (omega (arith, n)))
        (subst (λ (xs : List Bucket). Became r b t (pushed r b s 0 t) (xs ++ (bucket s 0 t ∷ []))) v p)
    go false e =
        let l : 0 < len_of b = omega (arith, eqb-false (len_of b) 0 e) in
        simp (lt-ltb 0 (length (buckets r b)) (omega (arith, n)))
        (subst (λ (k : ℕ). Became r b t (raised_words r b (kept_end p (len_of b)) s 0) (raised (kept_end p k) s 0 (buckets r b))) (sym n)
        (raise-became r b t (kept_end p (len_of b)) s 0 h.sound (kept-lt p (len_of b) l) (omega arith) h.total))

pub grown-counts : (p : HistoryPreservation) (t s : ℕ) (xs : List Bucket) → counts (grown p t s xs) ≡ counts xs + s
unfolding grown
grown-counts p t s xs = go (ltb 0 (length xs)) refl
  where
    go : (e : Bool) → ltb 0 (length xs) ≡ e → counts (cond e (raised (kept_end p (length xs)) s 0 xs) (bucket s 0 t ∷ [])) ≡ counts xs + s
    go true e = raised-counts (kept_end p (length xs)) s 0 xs (kept-lt p (length xs) (ltb-true _ _ e))
    go false e =
        let v : xs ≡ [] = drop_of_length-le xs {i = 0} (ltb-false _ _ e) in
        omega (arith, sum_one count_of (bucket s 0 t), ap counts v, sum-none count_of)

pub grown-declineds : (p : HistoryPreservation) (t s : ℕ) (xs : List Bucket) → declineds (grown p t s xs) ≡ declineds xs
unfolding grown
grown-declineds p t s xs = go (ltb 0 (length xs)) refl
  where
    go : (e : Bool) → ltb 0 (length xs) ≡ e → declineds (cond e (raised (kept_end p (length xs)) s 0 xs) (bucket s 0 t ∷ [])) ≡ declineds xs
    go true e = omega (arith, raised-declineds (kept_end p (length xs)) s 0 xs (kept-lt p (length xs) (ltb-true _ _ e)))
    go false e =
        let v : xs ≡ [] = drop_of_length-le xs {i = 0} (ltb-false _ _ e) in
        omega (arith, sum_one denied_of (bucket s 0 t), ap declineds v, sum-none denied_of)
