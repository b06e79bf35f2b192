-- What a shortage, and a set that preserves, make of a sound body.
-- Assumes nothing.
use Rattle.std.specs.Prelude.{◌≡◌, refl, ◌≢◌, Bool, true, false, cond, List, [], ◌∷◌, ℕ, suc, ◌+◌, ◌-◌, ◌≤◌, ◌<◌, length, get_or, set, take, drop, ltb, eqb}
use Rattle.std.proofs.Common.{sym, ap, subst, ◌∙◌, arith, drop_of_length-le, ltb-true, ltb-false, eqb-true}
use Rattle.std.proofs.lemmas.Bool.{eqb-false}
use Rattle.answers.specs.declared.HistoryPreservation.{HistoryPreservation}
use Rattle.answers.specs.declared.HistoryPreservation.TheVariants.{PreserveNewest, PreserveOldest}
use Rattle.ring.specs.declared.Bucket.{Bucket}
use Rattle.ring.specs.Ring.{bucket, no_bucket, sum_of, count_of, denied_of, counts, declineds, total_of, declined_of, len_of, buckets, Rewrites}
use Rattle.ring.specs.Ring as ring
use Rattle.ring.specs.Sums.{sum_one, sum-set, sum-split}
use Rattle.ring.specs.Order.{fine-take}
use Rattle.ring.specs.View.{view-length, view-at}
use Rattle.ring.specs.Holds.{Holds, beside-on, holds-length, holds_at, rewrite-holds, trim-holds, rewrite-beside, trim-beside}
use Rattle.ring.specs.Sound.{Sound, sound-holds}
use Rattle.preserve.specs.declared.Cut.{Cut}
use Rattle.rules.specs.Buckets.{replaced, grown, partial, shrunk, preserved}
use Rattle.history.specs.Words.{bucket_of, Sets}
use Rattle.preserve.specs.Preserving.{grown_words, Grows, facing, lost_at, wholes, rest_of, Walked, out_words, part_words, Parts, shrunk_words}
use Rattle.preserve.specs.Preserving.{Shrinks, preserved_words}
use Rattle.preserve.specs.Ends.{out}
use Rattle.preserve.proofs.Ends.{facing-length, facing-at, out-sum, lost-lt, turn-drop, turn-sum}
use Rattle.preserve.specs.Shortage.{parted_at}
use Rattle.preserve.proofs.Shortage.{wholes-done, wholes-on, wholes-part, wholes-none, parted-at-zero, parted-at-some, cuts, partial-count}
use Rattle.preserve.proofs.Shortage.{partial-time, partial-fewer, parted-fine, shrunk-leaves}
use Rattle.history.specs.Changes.{Became, became, evict-became, sound-at, sound-declined}
use Rattle.preserve.proofs.Surplus.{grow-became, grown-counts, grown-declineds}
use Rattle.preserve.specs.Preserves.{Comes, Walking, cut_of, OutLeaves}

-- ---- k out at one end

pub out-became : (p : HistoryPreservation) (r : ℕ) (b : List ℕ) (t k : ℕ) → Sound r b t → k ≤ len_of b → Became r b t (out_words p r b k) (out p k (buckets r b))
out-became PreserveNewest r b t k s h = evict-became r b t k s h
out-became PreserveOldest r b t k s h =
    let xs = buckets r b in
    let m = length xs - k in
    became t (trim-holds r b xs k (sound-holds s) (omega (arith, view-length r b))) (fine-take m 0 xs t s.each)
    (omega (arith, sum-split count_of m xs, s.total, s.most)) (trim-beside r b k)

-- ---- the partial one

pub part-within : {p : HistoryPreservation} {r : ℕ} {b : List ℕ} {t q : ℕ} → Parts p r b t q → let i = lost_at p (len_of b) 0 in let y =
    partial q (bucket_of r b i) in Rewrites r b i y.count y.declined
part-within {p} {r} {b} {t} {q} h =
    let i = lost_at p (len_of b) 0 in
    let x = bucket_of r b i in
    let s = h.sound in
    let l = lost-lt p (len_of b) 0 h.some in
    record {
      shape = s.shape;
      some = l;
      count = omega (arith, sound-at s count_of i l, s.total);
      denied = omega (arith, sound-at s denied_of i l, s.declined);
      total = omega (arith, sound-at s count_of i l, s.total, s.most, partial-count q x);
      declined = omega (arith, sound-at s denied_of i l, s.declined, sound-declined s, s.most, partial-fewer q x);
    }

pub part-became : (p : HistoryPreservation) (r : ℕ) (b : List ℕ) (t q : ℕ) → q ≢ 0 → Parts p r b t q →
    Became r b t (part_words p r b q) (parted_at p q (buckets r b))
unfolding part_words
part-became p r b t q n h =
    let xs = buckets r b in
    let s = h.sound in
    let i = lost_at p (len_of b) 0 in
    let l = lost-lt p (len_of b) 0 h.some in
    let l' : i < length xs = omega (arith, view-length r b) in
    let X = bucket_of r b i in
    let x = get_or xs i no_bucket in
    let e : X ≡ x = sym (view-at r b i l) in
    let a = rewrite-holds r b xs i (partial q X).count (partial q X).declined (sound-holds s) l' in
    let v : set xs i (bucket (partial q X).count (partial q X).declined x.time) ≡ set xs i (partial q x) =
    ap (λ (y : Bucket). set xs i (bucket (partial q y).count (partial q y).declined x.time)) e ∙ ap (set xs i) (sym (partial-time q x)) in
    let u : parted_at p q xs ≡ set xs i (partial q x) = parted-at-some p q xs n ∙
    ap (λ (k : ℕ). set xs (lost_at p k 0) (partial q (get_or xs (lost_at p k 0) no_bucket))) (view-length r b) in
    let w = v ∙ sym u in
    became t (subst (λ (ys : List Bucket). Holds r (part_words p r b q) ys) w a) (parted-fine p q 0 xs t s.each)
    (omega (arith, ap counts u, sum-set count_of xs i (partial q x) l', partial-count q x, s.total, s.most)) (rewrite-beside r b i _ _)

-- ---- a shortage

pub shrink-parts : (p : HistoryPreservation) (r : ℕ) (b : List ℕ) (t m : ℕ) → Shrinks r b t m → let ys = facing p (buckets r b) in rest_of m ys ≢ 0 →
    Parts p r (out_words p r b (wholes m ys)) t (rest_of m ys)
shrink-parts p r b t m h n =
    let xs = buckets r b in
    let c = cuts p m xs in
    let k = wholes m (facing p xs) in
    let o = out-became p r b t k h.sound (omega (arith, c.within, view-length r b)) in
    let j = c.next n (omega (arith, h.most, h.sound.total)) in
    let b' = out_words p r b k in
    let zs = out p k xs in
    let l = holds-length o.holds in
    let at = holds_at o.holds (lost_at p (length zs) 0) (lost-lt p (length zs) 0 j.0) in
    record {
      sound = o.sound;
      some = omega (arith, j.0, l);
      less = omega (arith, j.1, ap count_of at, ap (λ (i : ℕ). (bucket_of r b' (lost_at p i 0)).count) l);
    }

-- both ways on: nothing is left to take, or a part is
shrink-whole : (p : HistoryPreservation) (r : ℕ) (b : List ℕ) (t m : ℕ) → Shrinks r b t m → let ys = facing p (buckets r b) in rest_of m ys ≡ 0 →
    Became r b t (out_words p r b (wholes m ys)) (shrunk p m (buckets r b))
shrink-whole p r b t m h z =
    let xs = buckets r b in
    let c = cuts p m xs in
    let k = wholes m (facing p xs) in
    let o = out-became p r b t k h.sound (omega (arith, c.within, view-length r b)) in
    subst (λ (zs : List Bucket). Became r b t (out_words p r b k) zs) (sym (c.is ∙ parted-at-zero p _ (out p k xs) z)) o

shrink-part : (p : HistoryPreservation) (r : ℕ) (b : List ℕ) (t m : ℕ) → Shrinks r b t m → let ys = facing p (buckets r b) in rest_of m ys ≢ 0 →
    Became r b t (part_words p r (out_words p r b (wholes m ys)) (rest_of m ys)) (shrunk p m (buckets r b))
shrink-part p r b t m h n =
    let xs = buckets r b in
    let c = cuts p m xs in
    let k = wholes m (facing p xs) in
    let q = rest_of m (facing p xs) in
    let o = out-became p r b t k h.sound (omega (arith, c.within, view-length r b)) in
    let b' = out_words p r b k in
    let y = part-became p r b' t q n (shrink-parts p r b t m h n) in
    subst (λ (zs : List Bucket). Became r b t (part_words p r b' q) zs) (ap (parted_at p q) o.holds.view ∙ sym c.is)
    (record { holds = y.holds; sound = y.sound; beside = beside-on o.beside y.beside })

pub shrink-became : (p : HistoryPreservation) (r : ℕ) (b : List ℕ) (t m : ℕ) → Shrinks r b t m → Became r b t (shrunk_words p r b m) (shrunk p m (buckets r b))
unfolding shrunk_words
shrink-became p r b t m h = go (eqb (rest_of m (facing p (buckets r b))) 0) refl
  where
    go : (e : Bool) → let ys = facing p (buckets r b) in eqb (rest_of m ys) 0 ≡ e →
        Became r b t (cond e (out_words p r b (wholes m ys)) (part_words p r (out_words p r b (wholes m ys)) (rest_of m ys))) (shrunk p m (buckets r b))
    go true e = shrink-whole p r b t m h (eqb-true _ _ e)
    go false e = shrink-part p r b t m h (eqb-false _ _ e)

-- ---- a set that preserves

pub preserve-grows : {r : ℕ} {b : List ℕ} {t n : ℕ} → Sets r b t n → total_of b < n → Grows r b t (n - total_of b)
preserve-grows h l = record { sound = h.sound; total = omega (arith, h.most) }

pub preserve-shrinks : {r : ℕ} {b : List ℕ} {t n : ℕ} → Sets r b t n → Shrinks r b t (total_of b - n)
preserve-shrinks h = record { sound = h.sound; most = omega arith }

pub preserve-became : (p : HistoryPreservation) (r : ℕ) (b : List ℕ) (t n : ℕ) → Sets r b t n →
    Became r b t (preserved_words p r b t n) (preserved p t n (buckets r b))
unfolding preserved_words preserved
preserve-became p r b t n h =
    subst (λ (c : ℕ). Became r b t (preserved_words p r b t n) (cond (ltb c n) (grown p t (n - c) (buckets r b)) (shrunk p (c - n) (buckets r b))))
    h.sound.total (go (ltb (total_of b) n) refl)
  where
    go : (e : Bool) → ltb (total_of b) n ≡ e → Became r b t (cond e (grown_words p r b t (n - total_of b)) (shrunk_words p r b (total_of b - n)))
        (cond e (grown p t (n - total_of b) (buckets r b)) (shrunk p (total_of b - n) (buckets r b)))
    go true e = grow-became p r b t _ (preserve-grows h (ltb-true _ _ e))
    go false e = shrink-became p r b t _ (preserve-shrinks h)

pub preserved-comes : (p : HistoryPreservation) (t n : ℕ) (xs : List Bucket) → Comes n xs (preserved p t n xs)
unfolding preserved
preserved-comes p t n xs = go (ltb (counts xs) n) refl
  where
    go : (e : Bool) → ltb (counts xs) n ≡ e → Comes n xs (cond e (grown p t (n - counts xs) xs) (shrunk p (counts xs - n) xs))
    go true e = let l : counts xs < n = ltb-true _ _ e in
        record { count = omega (arith, l, grown-counts p t (n - counts xs) xs); fewer = omega (arith, grown-declineds p t (n - counts xs) xs) }
    go false e =
        let l : n ≤ counts xs = ltb-false _ _ e in
        let s = shrunk-leaves p (counts xs - n) xs (omega arith) in
        record { count = omega (arith, l, s.count); fewer = s.fewer }

pub replaced-comes : (t n : ℕ) (xs : List Bucket) → Comes n xs (replaced t n)
replaced-comes t n xs = record { count = sum_one count_of (bucket n 0 t); fewer = omega (arith, sum_one denied_of (bucket n 0 t)) }

pub walking_start : (p : HistoryPreservation) (r : ℕ) (b : List ℕ) (m declined : ℕ) → declined ≡ declined_of b → Walking p r b m 0 m declined
unfolding sum_of
walking_start p r b m declined e = record { whole-are = omega arith; rest-is = omega arith; declined-is = omega (arith, e) }

-- where there is nothing to take, or no bucket, or the next counts more, the walk is over
walking-over : (p : HistoryPreservation) (r : ℕ) (b : List ℕ) (m k rest declined : ℕ) (x : Cut) → Walking p r b m k rest declined →
    wholes rest (drop k (facing p (buckets r b))) ≡ 0 → x.whole ≡ k → x.rest ≡ rest → x.declined ≡ declined → Walked p r b m x
walking-over p r b m k rest declined x w z e f g = record {
  whole-are = omega (arith, w.whole-are, z, e);
  rest-is = omega (arith, w.rest-is, f, ap (λ (i : ℕ). counts (take i (facing p (buckets r b)))) e);
  declined-is = g ∙ w.declined-is ∙ ap (λ (i : ℕ). declined_of b - declineds (take i (facing p (buckets r b)))) (sym e);
}

nothing_left : (m : ℕ) (ys : List Bucket) → m ≡ 0 → wholes m ys ≡ 0
nothing_left m [] e = wholes-none m
nothing_left m (x ∷ xs) e = wholes-done m x xs e

module _ (p : HistoryPreservation) (r : ℕ) (b : List ℕ) (m k rest declined : ℕ) (w : Walking p r b m k rest declined) where
  pub walking-done : rest ≡ 0 → Walked p r b m (record { whole = k; rest = rest; declined = declined })
  walking-done z = walking-over p r b m k rest declined (cut_of k rest declined) w (nothing_left rest _ z) refl refl refl

  pub walking-end : len_of b ≤ k → Walked p r b m (record { whole = k; rest = rest; declined = declined })
  walking-end h =
      let l : length (facing p (buckets r b)) ≤ k = omega (arith, facing-length p (buckets r b), view-length r b) in
      walking-over p r b m k rest declined (cut_of k rest declined) w (ap (wholes rest) (drop_of_length-le (facing p (buckets r b)) l) ∙
      wholes-none rest) refl refl refl

  -- the bucket that a turn reads
  module _ (x : Bucket) (lt : k < len_of b) (at : x ≡ bucket_of r b (lost_at p (len_of b) k)) where
    here : x ≡ get_or (facing p (buckets r b)) k no_bucket
    here =
        let n = view-length r b in
        at ∙ sym (view-at r b (lost_at p (len_of b) k) (lost-lt p (len_of b) k lt)) ∙ ap (λ (i : ℕ). get_or (buckets r b) (lost_at p i k) no_bucket) (sym n) ∙
        sym (facing-at p (buckets r b) k (omega arith))

    some : k < length (facing p (buckets r b))
    some = omega (arith, facing-length p (buckets r b), view-length r b)

    pub walking-part : rest < x.count → Walked p r b m (record { whole = k; rest = rest; declined = declined })
    walking-part h =
        walking-over p r b m k rest declined (cut_of k rest declined) w (ap (wholes rest) (turn-drop (facing p (buckets r b)) k x some here) ∙
        wholes-part rest x (drop (k + 1) (facing p (buckets r b))) h) refl refl refl

    pub walking_on : rest ≢ 0 → x.count ≤ rest → Walking p r b m (k + 1) (rest - x.count) (declined - x.declined)
    walking_on n h =
        let ys = facing p (buckets r b) in
        let c = turn-sum count_of ys k x some here in
        let d = turn-sum denied_of ys k x some here in
        let e : wholes rest (drop k ys) ≡ suc (wholes (rest - x.count) (drop (k + 1) ys)) =
        ap (wholes rest) (turn-drop ys k x some here) ∙ wholes-on rest x (drop (k + 1) ys) n h in
        record { whole-are = omega (arith, w.whole-are, e); rest-is = omega (arith, w.rest-is, c); declined-is = omega (arith, w.declined-is, d) }

-- ---- what the walk leaves at the end it goes from

pub walked-rest : (p : HistoryPreservation) (r : ℕ) (b : List ℕ) (m : ℕ) (x : Cut) → Walked p r b m x → x.rest ≡ rest_of m (facing p (buckets r b))
walked-rest p r b m x w = omega (arith, w.rest-is, ap (λ (i : ℕ). counts (take i (facing p (buckets r b)))) w.whole-are)

out-leaves : (p : HistoryPreservation) (r : ℕ) (b : List ℕ) (k total declined : ℕ) → ring.Leaves r b k (out p k (buckets r b)) total declined →
    OutLeaves p r b k total declined
out-leaves PreserveNewest r b k total declined l = l
out-leaves PreserveOldest r b k total declined l = subst (λ (n : ℕ). ring.Leaves r b k (take (n - k) (buckets r b)) total declined) (view-length r b) l

pub walked-leaves : (p : HistoryPreservation) (r : ℕ) (b : List ℕ) (t m : ℕ) (x : Cut) → Shrinks r b t m → Walked p r b m x →
    OutLeaves p r b x.whole (total_of b - (m - x.rest)) x.declined
walked-leaves p r b t m x h w =
    let xs = buckets r b in
    let s = h.sound in
    let k : x.whole ≤ length xs = omega (arith, w.whole-are, (cuts p m xs).within) in
    out-leaves p r b x.whole _ _ (record {
      shape = s.shape;
      some = omega (arith, k, view-length r b);
      count = omega (arith, w.rest-is, s.total, h.most, out-sum p count_of x.whole xs k);
      denied = omega (arith, w.declined-is, s.declined, out-sum p denied_of x.whole xs k);
    })
