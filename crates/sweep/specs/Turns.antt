-- The two loops of a pass: what is still to be done comes to the same whole at every turn.
-- Assumes nothing.
use Rattle.std.specs.Prelude.{◌≡◌, Bool, true, false, ◌&&◌, List, ℕ, ◌+◌, ◌-◌, ◌≤◌, ◌<◌, drop}
use Rattle.std.proofs.Math.Path.{sym}
use Rattle.std.proofs.Common.{ap, ◌∙◌}
use Rattle.std.proofs.Math.Bool.{cond}
use Rattle.ring.specs.declared.Bucket.{Bucket}
use Rattle.ring.specs.Ring.{len_of, total_of, declined_of, cell_of, bucket_at, buckets}
use Rattle.ring.specs.View.{view-turn, view-end}
use Rattle.sweep.specs.declared.tally.Tally.{Tally}
use Rattle.sweep.specs.declared.tally.Gone.{Gone}
use Rattle.rules.specs.Buckets.{older}
use Rattle.sweep.specs.Sweep.{good_of, step_of, ended_of, swept, begun, sweep_of, fewer, gone_from, gone_of}

-- ---- the sweep

-- what a sweep that stands at k comes to
abbrev pub Sweeps : ℕ → List ℕ → ℕ → ℕ → Tally → Type 0
Sweeps r b last k a = swept last a (drop k (buckets r b)) ≡ sweep_of r b last

module _ (r : ℕ) (b : List ℕ) (last : ℕ) where
  pub sweep-start : (total declined : ℕ) → total ≡ total_of b → declined ≡ declined_of b → Sweeps r b last 0 (begun total declined)
  sweep-start total declined q s = cc

  turned : (k : ℕ) (a : Tally) (x : Bucket) (g : Bool) → k < len_of b → x ≡ bucket_at r b (cell_of r b k) → good_of a x ≡ g → Sweeps r b last k a →
      g && swept last (step_of a x) (drop (k + 1) (buckets r b)) ≡ sweep_of r b last
  unfolding swept
  turned k a x g h y s i =
      sym (ap (λ (f : Bool). f && swept last (step_of a x) (drop (k + 1) (buckets r b))) s) ∙ sym (ap (swept last a) (view-turn r b k x h y)) ∙ i

  pub sweep-turn : (k : ℕ) (a a' : Tally) (x : Bucket) → k < len_of b → x ≡ bucket_at r b (cell_of r b k) → good_of a x ≡ true → a' ≡ step_of a x →
      Sweeps r b last k a → Sweeps r b last (k + 1) a'
  sweep-turn k a a' x h y g s i = ap (λ (y : Tally). swept last y (drop (k + 1) (buckets r b))) s ∙ turned k a x true h y g i

  pub sweep-off : (k : ℕ) (a : Tally) (x : Bucket) → k < len_of b → x ≡ bucket_at r b (cell_of r b k) → good_of a x ≡ false → Sweeps r b last k a →
      false ≡ sweep_of r b last
  sweep-off k a x h y g i = turned k a x false h y g i

  pub sweep-end : (k : ℕ) (a : Tally) (s : Bool) → len_of b ≤ k → s ≡ ended_of last a → Sweeps r b last k a → s ≡ sweep_of r b last
  unfolding swept
  sweep-end k a s h y i = y ∙ sym (ap (swept last a) (view-end r b k h)) ∙ i

-- ---- what is expired

abbrev pub Goes : ℕ → List ℕ → ℕ → ℕ → ℕ → ℕ → ℕ → Type 0
Goes r b t w k total declined = gone_from w t (record { buckets = k; total = total; declined = declined }) (drop k (buckets r b)) ≡ gone_of r b t w

module _ (r : ℕ) (b : List ℕ) (t w : ℕ) where
  pub gone-start : (total declined : ℕ) → total ≡ total_of b → declined ≡ declined_of b → Goes r b t w 0 total declined
  gone-start total declined q s = cc

  went : (k total declined : ℕ) (x : Bucket) (o : Bool) → k < len_of b → x ≡ bucket_at r b (cell_of r b k) → older w t x ≡ o → Goes r b t w k total declined →
      cond o (gone_from w t (fewer (record { buckets = k; total = total; declined = declined }) x) (drop (k + 1) (buckets r b)))
      (record { buckets = k; total = total; declined = declined }) ≡ gone_of r b t w
  unfolding gone_from
  went k total declined x o h y s i =
      let g : Gone = record { buckets = k; total = total; declined = declined } in
      sym (ap (λ (f : Bool). cond f (gone_from w t (fewer g x) (drop (k + 1) (buckets r b))) g) s) ∙ sym (ap (gone_from w t g) (view-turn r b k x h y)) ∙ i

  pub gone-turn : (k total declined total' declined' : ℕ) (x : Bucket) → k < len_of b → x ≡ bucket_at r b (cell_of r b k) → older w t x ≡ true →
      total' ≡ total - x.count → declined' ≡ declined - x.declined → Goes r b t w k total declined → Goes r b t w (k + 1) total' declined'
  gone-turn k total declined total' declined' x h y o p q i = cc (p, q, went k total declined x true h y o i)

  pub gone-stop : (k total declined : ℕ) (x : Bucket) → k < len_of b → x ≡ bucket_at r b (cell_of r b k) → older w t x ≡ false → Goes r b t w k total declined →
      ◌≡◌ {A = Gone} (record { buckets = k; total = total; declined = declined }) (gone_of r b t w)
  gone-stop k total declined x h y o i = went k total declined x false h y o i

  pub gone-end : (k total declined : ℕ) → len_of b ≤ k → Goes r b t w k total declined →
      ◌≡◌ {A = Gone} (record { buckets = k; total = total; declined = declined }) (gone_of r b t w)
  unfolding gone_from
  gone-end k total declined h i = sym (ap (gone_from w t (record { buckets = k; total = total; declined = declined })) (view-end r b k h)) ∙ i
