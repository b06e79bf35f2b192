-- What a pass finds at a look: what is expired, or all buckets. A look at the window itself leaves nothing that is expired.
-- Assumes nothing.
use Rattle.std.specs.Prelude.{◌≡◌, Bool, true, false, not, ◌||◌, cond, List, [], ◌∷◌, ℕ, suc, ◌-◌, get_or, drop, ltb, eqb}
use Rattle.std.proofs.Math.Path.{refl}
use Rattle.std.proofs.Common.{sym, ap, ◌∙◌, eqb-true}
use Rattle.ring.specs.declared.Bucket.{Bucket}
use Rattle.ring.specs.Ring.{no_bucket, counts, declineds, total_of, declined_of, len_of, buckets, Shape}
use Rattle.ring.specs.Sound.{sound_buckets, sound-true}
use Rattle.sweep.specs.declared.tally.Gone.{Gone}
use Rattle.sweep.specs.declared.tally.Pass.{Pass}
use Rattle.rules.specs.Buckets.{older, ahead}
use Rattle.sweep.specs.Sweep.{gone_none, gone_of, gone_at, telling, found, unsound, pick, pass_of, leaves, all_in, looked_pass}
use Rattle.sweep.specs.Found.{sound-is, pass-not, pass-is, pass-unfit}

-- ---- where nothing is left

none-left : (x y : Bool) → y ≡ true → not (x || y) ≡ false
none-left true y e = refl
none-left false y e = ap not e

look_none : (look t : ℕ) (b : List ℕ) (p : Pass) → leaves look t p ≡ false → p ≡ looked_pass look t b p
unfolding looked_pass
look_none look t b p e = sym (ap (λ (z : Bool). cond z (all_in (total_of b) (declined_of b) p) p) e)

pub look-unsound : (look t : ℕ) (b : List ℕ) → unsound ≡ looked_pass look t b unsound
look-unsound look t b = look_none look t b unsound refl

-- ---- what goes, by the oldest's time as the code has it

module _ (r : ℕ) (b : List ℕ) (t w look oldest : ℕ) (e : oldest ≡ (get_or (buckets r b) 0 no_bucket).time) where
  pub gone-by : (x : Bool) → x ≡ ltb look (t - oldest) → cond x (gone_of r b t w) (gone_none (total_of b) (declined_of b)) ≡ gone_at look r b t w
  gone-by x h = ap (λ (x : Bool). cond x (gone_of r b t w) (gone_none (total_of b) (declined_of b))) (h ∙ ap (λ (n : ℕ). ltb look (t - n)) e)

-- ---- what the code finds

module _ (r : ℕ) (b : List ℕ) (last t w look : ℕ) where
  -- what is not sound finds nothing
  pub looked-not : sound_buckets r b last ≡ false → unsound ≡ looked_pass look t b (pass_of r b last t w)
  looked-not n = look-unsound look t b ∙ ap (looked_pass look t b) (pass-not r b last t w n)

  all-in : sound_buckets r b last ≡ true → ahead w t (buckets r b) ≡ 0 →
      all_in (total_of b) (declined_of b) (found (len_of b) (buckets r b) t w) ≡ found (len_of b) (buckets r b) t w
  all-in e z =
      let xs = buckets r b in
      let k = sound-true r b last e in
      let total = k.total ∙ ap (λ (n : ℕ). counts (drop n xs)) (sym z) in
      let declined = k.declined ∙ ap (λ (n : ℕ). declineds (drop n xs)) (sym z) in
      λ i. telling (len_of b) (record { buckets = sym z i; total = total i; declined = declined i }) (get_or xs (sym z i) no_bucket)
      (get_or xs (len_of b - 1) no_bucket) (get_or xs 0 no_bucket)

  -- the oldest is not over look
  within : sound_buckets r b last ≡ true → ltb look (t - (get_or (buckets r b) 0 no_bucket).time) ≡ false →
      all_in (total_of b) (declined_of b) (found (len_of b) (buckets r b) t w) ≡ looked_pass look t b (found (len_of b) (buckets r b) t w)
  unfolding looked_pass
  within e h = go (eqb (ahead w t (buckets r b)) 0) refl
    where
      p : Pass
      p = found (len_of b) (buckets r b) t w

      go : (z : Bool) → eqb (ahead w t (buckets r b)) 0 ≡ z → all_in (total_of b) (declined_of b) p ≡ looked_pass look t b p
      go true q = all-in e (eqb-true _ _ q) ∙ look_none look t b p (ap (λ (z : Bool). not (z || ltb look (t - (get_or (buckets r b) 0 no_bucket).time))) q)
      go false q = sym (rw (q, h))

  -- what is sound finds what the rules say; the fields as the code has them
  pub pass-looked : sound_buckets r b last ≡ true → (g : Gone) → g ≡ gone_at look r b t w → (n d : ℕ) (o m f : Bucket) →
      n ≡ len_of b → d ≡ n - 1 → o ≡ get_or (buckets r b) g.buckets no_bucket → m ≡ get_or (buckets r b) d no_bucket → f ≡ get_or (buckets r b) 0 no_bucket →
      telling n g o m f ≡ looked_pass look t b (pass_of r b last t w)
  pass-looked e g q n d o m f a z u v first = go (ltb look (t - (get_or (buckets r b) 0 no_bucket).time)) refl
    where
      xs : List Bucket
      xs = buckets r b

      none : Gone
      none = gone_none (total_of b) (declined_of b)

      p : Pass
      p = found (len_of b) xs t w

      by : (x : Bool) → ltb look (t - (get_or xs 0 no_bucket).time) ≡ x → g ≡ cond x (gone_of r b t w) none
      by x h = q ∙ ap (λ (x : Bool). cond x (gone_of r b t w) none) h

      go : (x : Bool) → ltb look (t - (get_or xs 0 no_bucket).time) ≡ x → telling n g o m f ≡ looked_pass look t b (pass_of r b last t w)
      go true h =
          pass-is r b last t w e g (by true h) n d o m f a z u v first ∙ sym (sound-is r b last t w e) ∙
          look_none look t b p (none-left (eqb (ahead w t xs) 0) _ h) ∙ ap (looked_pass look t b) (sound-is r b last t w e)
      go false h =
          let s = by false h in
          let i : o ≡ get_or xs 0 no_bucket = u ∙ ap (λ (g : Gone). get_or xs g.buckets no_bucket) s in
          let y = v ∙ ap (λ (j : ℕ). get_or xs j no_bucket) (z ∙ ap (λ (j : ℕ). j - 1) a) in
          (λ j. telling (a j) (s j) (i j) (y j) (first j)) ∙ within e h ∙ ap (looked_pass look t b) (sound-is r b last t w e)

-- words that do not fit
pub looked-unfit : (r : ℕ) (b : List ℕ) (last t w look : ℕ) → (Shape r b → ⊥) → unsound ≡ looked_pass look t b (pass_of r b last t w)
looked-unfit r b last t w look n = look-unsound look t b ∙ ap (looked_pass look t b) (pass-unfit r b last t w n)

-- ---- a look at the window

first-over : (w t : ℕ) (xs : List Bucket) → not (eqb (ahead w t xs) 0 || ltb w (t - (get_or xs 0 no_bucket).time)) ≡ false
unfolding ahead older
first-over w t [] = refl
first-over w t (x ∷ xs) = go (ltb w (t - x.time))
  where
    go : (o : Bool) → not (eqb (cond o (suc (ahead w t xs)) 0) 0 || o) ≡ false
    go true = none-left (eqb (suc (ahead w t xs)) 0) true refl
    go false = refl

pub plain-look : (r : ℕ) (b : List ℕ) (last t w : ℕ) → leaves w t (pass_of r b last t w) ≡ false
unfolding pass_of
plain-look r b last t w = go (sound_buckets r b last)
  where
    go : (x : Bool) → leaves w t (pick x (found (len_of b) (buckets r b) t w) unsound) ≡ false
    go true = first-over w t (buckets r b)
    go false = refl
