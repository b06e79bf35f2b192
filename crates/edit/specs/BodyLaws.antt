-- What an edit leaves of a body: its buckets, its sums and the words beside them.
-- Assumes nothing.
use Rattle.std.specs.Prelude.{◌≡◌, Bool, cond, ℕ, ◌+◌, ◌≤◌, ◌<◌, get_or, drop}
use Rattle.std.proofs.Math.Path.{refl, ap}
use Rattle.std.proofs.Common.{sym, ◌∙◌, arith}
use Rattle.std.proofs.Math.Bool.{true, false}
use mathlib.Core.List.{List, [], ◌∷◌}
use Rattle.std.proofs.Math.ListN.{length}
use Rattle.base.specs.Writes.{writes, length-writes, read_past, read_first}
use Rattle.rules.specs.Buckets.{joins}
use Rattle.history.specs.Words.{Takes}
use Rattle.history.specs.Changes.{Became, became, evict-became, increment-became, replace-became}
use Rattle.preserve.proofs.Preserves.{preserve-became}
use Rattle.ring.specs.declared.Bucket.{Bucket}
use Rattle.layout.specs.Layout.{limit_at, factor_at, factor_time_at, fixed_words, most_ring, size_of}
use Rattle.ring.specs.Ring.{count_of, counts, sum_of, wrap, cell_of, bucket_at, total_of, declined_of, head_of, len_of, buckets, without}
use Rattle.ring.specs.Sums.{sum-none}
use Rattle.ring.specs.View.{view-length, view-at, view-is, bucket-past}
use Rattle.ring.specs.Holds.{Holds, Beside, beside-all}
use Rattle.ring.specs.Sound.{Sound, sound-holds, holds-sound}
use Rattle.edit.specs.declared.Then.{Then}
use Rattle.edit.specs.declared.Then.TheVariants.{Nothing, Increment, Replace, Preserve}
use Rattle.edit.specs.declared.Edit.{Edit}
use Rattle.edit.specs.Bodies.{begun, started, acted, fixed, edited, Starts, Acts, started_view, acted_view, edited_view, Fits, ActsOn, Edits}

-- ---- the buckets that stay

begins-holds : (r : ℕ) (b : List ℕ) → length b ≡ size_of r → 1 ≤ r → r ≤ most_ring → Holds r (begun b) []
unfolding begun sum_of
begins-holds r b long one small =
    let w0 : List ℕ = writes b ((1, 0) ∷ (2, 0) ∷ (3, 0) ∷ (4, 0) ∷ []) in
    let l : length w0 ≡ length b = length-writes ((1, 0) ∷ (2, 0) ∷ (3, 0) ∷ (4, 0) ∷ []) b in
    let n : len_of w0 ≡ 0 = read_first [] (writes b ((1, 0) ∷ (2, 0) ∷ (3, 0) ∷ [])) 4 0 (omega (arith, length-writes ((1, 0) ∷ (2, 0) ∷ (3, 0) ∷ []) b)) tt in
    let h : head_of w0 ≡ 0 = read_first ((4, 0) ∷ []) (writes b ((1, 0) ∷ (2, 0) ∷ [])) 3 0 (omega (arith, length-writes ((1, 0) ∷ (2, 0) ∷ []) b))
    (omega arith) in
    let d : declined_of w0 ≡ 0 = read_first ((3, 0) ∷ (4, 0) ∷ []) (writes b ((1, 0) ∷ [])) 2 0 (omega (arith, length-writes ((1, 0) ∷ []) b)) (omega arith) in
    let t : total_of w0 ≡ 0 = read_first ((2, 0) ∷ (3, 0) ∷ (4, 0) ∷ []) b 1 0 (omega arith) (omega arith) in
    record {
      shape = record { small = small; long = l ∙ long; head = omega arith; len = omega arith };
      view = view-is r w0 [] n (λ i k. absurd (omega arith));
      total = t;
      declined = d;
    }

begins-beside : (b : List ℕ) → Beside b (begun b)
unfolding begun
begins-beside b =
    let ws : List (ℕ × ℕ) = (1, 0) ∷ (2, 0) ∷ (3, 0) ∷ (4, 0) ∷ [] in
    record {
      long = length-writes ws b;
      limit = read_past ws b 0 (omega arith);
      factor = read_past ws b 5 (omega arith);
      since = read_past ws b 6 (omega arith);
    }

module _ (r s t : ℕ) (b : List ℕ) (e : Edit) (h : Edits r s t b e) where
  pub started-became : Became r b t (started r b e) (started_view e (buckets r b))
  unfolding started started_view
  started-became = go e.begins refl
    where
      go : (x : Bool) → e.begins ≡ x → Became r b t (cond x (begun b) (without r b e.gone)) (cond x [] (drop e.gone (buckets r b)))
      go true p = became t (begins-holds r b h.long h.one h.small) tt (omega (arith, sum-none count_of)) (begins-beside b)
      go false p = evict-became r b t e.gone (h.stays p).sound (h.stays p).some

-- ---- what becomes of them

takes-fit : (r s t c d : ℕ) (b : List ℕ) (xs : List Bucket) → Sound r b t → buckets r b ≡ xs → Fits r s t c d xs → Takes r b s t c d
takes-fit r s t c d b xs o v f = record {
  sound = o;
  least = f.least;
  total = omega (arith, f.total, o.total, ap counts v);
  free = λ p. omega (arith, f.free (sym (ap (joins s t) v) ∙ p), view-length r b, ap length v);
}

pub acts-fit : (r s t : ℕ) (then : Then) (b : List ℕ) (xs : List Bucket) → Sound r b t → buckets r b ≡ xs → ActsOn r s t then xs → Acts r s t b then
acts-fit r s t Nothing b xs o v f = tt
acts-fit r s t (Increment c d) b xs o v f = takes-fit r s t c d b xs o v f
acts-fit r s t (Replace n) b xs o v f = record { sound = o; most = f }
acts-fit r s t (Preserve p n) b xs o v f = record { sound = o; most = f }

acted-became : (r s t : ℕ) (then : Then) (b : List ℕ) → Sound r b t → Acts r s t b then → Became r b t (acted r s t then b) (acted_view s t then (buckets r b))
unfolding acted acted_view
acted-became r s t Nothing b o a = record { holds = sound-holds o; sound = o; beside = beside-all b }
acted-became r s t (Increment c d) b o a = increment-became r b s t c d a
acted-became r s t (Replace n) b o a = replace-became r b t n a
acted-became r s t (Preserve p n) b o a = preserve-became p r b t n a

-- ---- the words that buckets do not use

module _ (b : List ℕ) (l f u : ℕ) where
  pub fixed_word : (j : ℕ) → 0 < j → j < 5 → get_or (fixed b l f u) j 0 ≡ get_or b j 0
  unfolding fixed
  fixed_word j p q = read_past ((limit_at, l) ∷ (factor_at, f) ∷ (factor_time_at, u) ∷ []) b j (omega arith)

  pub fixed-length : length (fixed b l f u) ≡ length b
  unfolding fixed
  fixed-length = length-writes ((limit_at, l) ∷ (factor_at, f) ∷ (factor_time_at, u) ∷ []) b

  pub fixed-limit : fixed_words ≤ length b → get_or (fixed b l f u) limit_at 0 ≡ l
  unfolding fixed
  fixed-limit h = read_first ((5, f) ∷ (6, u) ∷ []) b 0 l (omega arith) (omega arith)

  pub fixed-factor : fixed_words ≤ length b → get_or (fixed b l f u) factor_at 0 ≡ f
  unfolding fixed
  fixed-factor h = read_first ((6, u) ∷ []) (writes b ((0, l) ∷ [])) 5 f (omega (arith, length-writes ((0, l) ∷ []) b)) (omega arith)

  pub fixed-time : fixed_words ≤ length b → get_or (fixed b l f u) factor_time_at 0 ≡ u
  unfolding fixed
  fixed-time h = read_first [] (writes b ((0, l) ∷ (5, f) ∷ [])) 6 u (omega (arith, length-writes ((0, l) ∷ (5, f) ∷ []) b)) tt

  fixed-cell : (r w : ℕ) → fixed_words ≤ w → bucket_at r (fixed b l f u) w ≡ bucket_at r b w
  unfolding fixed
  fixed-cell r w h = bucket-past ((limit_at, l) ∷ (factor_at, f) ∷ (factor_time_at, u) ∷ []) r b w (omega arith) (omega arith) (omega arith)

  fixed-view : (r : ℕ) → buckets r (fixed b l f u) ≡ buckets r b
  fixed-view r =
      view-is r (fixed b l f u) (buckets r b) (fixed_word 4 (omega arith) (omega arith) ∙ sym (view-length r b))
      (λ i k.
      let h : len_of b ≡ length (buckets r b) = sym (view-length r b) in
      ap (λ (n : ℕ). bucket_at r (fixed b l f u) (7 + wrap r (n + i))) (fixed_word 3 (omega arith) (omega arith)) ∙
      fixed-cell r (cell_of r b i) (omega arith) ∙ sym (view-at r b i (omega arith)))

  pub fixed-holds : (r : ℕ) (xs : List Bucket) → Holds r b xs → Holds r (fixed b l f u) xs
  fixed-holds r xs h = record {
    shape = record {
      small = h.shape.small;
      long = fixed-length ∙ h.shape.long;
      head = omega (arith, fixed_word 3 (omega arith) (omega arith), h.shape.head);
      len =
          omega (arith, fixed_word 4 (omega arith) (omega arith), h.shape.len);
    };
    view = fixed-view r ∙ h.view;
    total = fixed_word 1 (omega arith) (omega arith) ∙ h.total;
    declined = fixed_word 2 (omega arith) (omega arith) ∙ h.declined;
  }

  pub fixed-sound : (r t : ℕ) → Sound r b t → Sound r (fixed b l f u) t
  fixed-sound r t o = holds-sound t (fixed-holds r (buckets r b) (sound-holds o)) o.each (omega (arith, o.total, o.most))

-- ---- a body, edited

pub record Edited (r s t : ℕ) (b : List ℕ) (e : Edit) (v : List ℕ) : Type 0 where
  pub long : length v ≡ length b
  pub view : buckets r v ≡ edited_view s t e (buckets r b)
  pub sound : Sound r v t
  pub limit : get_or v 0 0 ≡ e.limit
  pub factor : get_or v 5 0 ≡ e.factor
  pub time : get_or v 6 0 ≡ e.factor_time

module _ (r s t : ℕ) (b : List ℕ) (e : Edit) (h : Edits r s t b e) where
  pub edit-starts : Starts r b e
  edit-starts = record {
    long = h.long;
    leaves = λ p. let y = h.stays p in
        record { shape = y.sound.shape; some = y.some; count = y.total; denied = y.declined };
  }

  pub edit-acts : Acts r s t (started r b e) e.then
  edit-acts = let o = started-became r s t b e h in acts-fit r s t e.then (started r b e) (started_view e (buckets r b)) o.sound o.holds.view h.acts

  pub edited-is : Edited r s t b e (edited r s t b e)
  unfolding edited edited_view
  edited-is =
      let o = started-became r s t b e h in
      let a = acted-became r s t e.then (started r b e) o.sound edit-acts in
      let v = acted r s t e.then (started r b e) in
      let k : length v ≡ length b = a.beside.long ∙ o.beside.long in
      let n : fixed_words ≤ length v = omega (arith, h.long) in
      let f = fixed-holds v e.limit e.factor e.factor_time r (acted_view s t e.then (buckets r (started r b e))) a.holds in
      record {
        long = fixed-length v e.limit e.factor e.factor_time ∙ k;
        view = f.view ∙ ap (acted_view s t e.then) o.holds.view;
        sound = fixed-sound v e.limit e.factor e.factor_time r t a.sound;
        limit = fixed-limit v e.limit e.factor e.factor_time n;
        factor = fixed-factor v e.limit e.factor e.factor_time n;
        time = fixed-time v e.limit e.factor e.factor_time n;
      }
