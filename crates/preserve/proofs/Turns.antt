-- What the code of a set that preserves knows at its steps, joined to the definitions.
-- Assumes nothing.
use Rattle.std.specs.Prelude.{◌≡◌, ◌≢◌, List, ℕ, ◌-◌, ◌≤◌}
use Rattle.std.proofs.Math.Path.{sym, ap}
use Rattle.std.proofs.Common.{◌∙◌, arith, eq-eqb, ne_eqb}
use Rattle.share.specs.Share.{mul_div}
use Rattle.answers.specs.declared.HistoryPreservation.{HistoryPreservation}
use Rattle.ring.specs.declared.Bucket.{Bucket}
use Rattle.ring.specs.Ring.{count_of, len_of, buckets, Free, Rewrites, rewritten}
use Rattle.preserve.specs.declared.Cut.{Cut}
use Rattle.rules.specs.Buckets.{kept_end, partial}
use Rattle.history.specs.Words.{bucket_of, Raises}
use Rattle.preserve.specs.Preserving.{Grows, facing, lost_at, rest_of, Walked, out_words, part_words, Parts, shrunk_words, Shrinks}
use Rattle.history.specs.Changes.{sound-declined, sound-raises}
use Rattle.preserve.proofs.Surplus.{kept-lt}
use Rattle.preserve.proofs.Preserves.{part-within, shrink-parts, walked-rest}

-- ---- a surplus

pub grows-free : {r : ℕ} {b : List ℕ} {t s : ℕ} → Grows r b t s → len_of b ≡ 0 → Free r b s 0
grows-free h z = record {
  shape = h.sound.shape;
  free = omega (arith, z, h.sound.shape.head);
  count = h.total;
  declined = omega (arith, sound-declined h.sound, h.total);
}

pub grows-raises : {r : ℕ} {b : List ℕ} {t s : ℕ} (p : HistoryPreservation) (n i : ℕ) → Grows r b t s → n ≡ len_of b → n ≢ 0 → i ≡ kept_end p n → Raises r b i s 0
grows-raises {r} {b} {t} {s} p n i h e z k = sound-raises i s 0 h.sound (omega (arith, k, e, kept-lt p n (omega arith))) (omega arith) h.total

-- ---- the partial bucket

module _ (p : HistoryPreservation) (r : ℕ) (b : List ℕ) (t q i : ℕ) (x : Bucket) (kept : ℕ) (h : Parts p r b t q) (e : i ≡ lost_at p (len_of b) 0)
    (a : x ≡ bucket_of r b i) (w : kept ≡ mul_div x.declined (x.count - q) x.count) where
  there : x ≡ bucket_of r b (lost_at p (len_of b) 0)
  there = a ∙ ap (bucket_of r b) e

  parted-as : (◌≡◌ {A = ℕ} (x.count - q) (partial q (bucket_of r b (lost_at p (len_of b) 0))).count) ×
      (kept ≡ (partial q (bucket_of r b (lost_at p (len_of b) 0))).declined)
  unfolding partial
  parted-as = (ap (λ (y : Bucket). y.count - q) there, w ∙ ap (λ (y : Bucket). mul_div y.declined (y.count - q) y.count) there)

  pub part-some : q ≤ x.count
  part-some = omega (arith, h.less, ap count_of there)

  pub part-stores : Rewrites r b i (x.count - q) kept
  part-stores = rw (e, parted-as.0, parted-as.1) (part-within h)

  pub part-words : rewritten r b i (x.count - q) kept ≡ part_words p r b q
  unfolding part_words
  part-words = cc (e, parted-as.0, parted-as.1)

-- ---- a shortage

module _ (p : HistoryPreservation) (r : ℕ) (b : List ℕ) (m : ℕ) (x : Cut) (w : Walked p r b m x) where
  pub shrunk-whole : x.rest ≡ 0 → out_words p r b x.whole ≡ shrunk_words p r b m
  unfolding shrunk_words
  shrunk-whole z =
      let q : rest_of m (facing p (buckets r b)) ≡ 0 = sym (walked-rest p r b m x w) ∙ z in
      simp (eq-eqb _ _ q) (ap (out_words p r b) w.whole-are)

  pub shrunk-part : x.rest ≢ 0 → part_words p r (out_words p r b x.whole) x.rest ≡ shrunk_words p r b m
  unfolding shrunk_words
  shrunk-part n =
      let q : rest_of m (facing p (buckets r b)) ≢ 0 = λ z. n (walked-rest p r b m x w ∙ z) in
      simp (ne_eqb _ _ q) (ap (λ (k : ℕ). part_words p r (out_words p r b k) x.rest) w.whole-are ∙ ap (part_words p r _) (walked-rest p r b m x w))

  pub walked-parts : (t : ℕ) (b' : List ℕ) → Shrinks r b t m → x.rest ≢ 0 → b' ≡ out_words p r b x.whole → Parts p r b' t x.rest
  walked-parts t b' h n e =
      let q : rest_of m (facing p (buckets r b)) ≢ 0 = λ z. n (walked-rest p r b m x w ∙ z) in
      let y = shrink-parts p r b t m h q in
      rw (e ∙ ap (out_words p r b) w.whole-are, walked-rest p r b m x w) y
