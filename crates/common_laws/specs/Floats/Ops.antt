-- The operations at two finite numbers with the sign clear, each as one `round`. Assumes nothing.
use Rattle.std.specs.Prelude.{◌≡◌, refl, ℕ, ◌-◌, ◌*◌, ◌≤◌, ◌<◌, Bool, true, false, not, cond, ℤ, T, ltb, eqb}
use Rattle.std.proofs.Common.{◌∙◌, subst, lt_irrefl, not-le_of_lt, ltb→lt, eqb→eq}
use Rattle.std.proofs.Math.Dec.{not_T}
use Rattle.std.specs.Float.{inf, nan, fin, Format}
use Rattle.std.specs.Float.Ieee.{up, down, round, sum, mul, div, sub}
use Rattle.std.specs.Float.Ieee.Bits.{cond_no}

pub pos→neqb : (n : ℕ) → 0 < n → T (not (eqb n 0))
pos→neqb n h = not_T (eqb n 0) (λ u. lt_irrefl 0 (subst (λ (x : ℕ). 0 < x) (eqb→eq n 0 u) h))

pub div_is : (f : Format) (m : ℕ) (e : ℤ) (n : ℕ) (d : ℤ) → 0 < n →
    div f (fin false m e) (fin false n d) ≡ round f false (m * up e * down d) (n * up d * down e)
unfolding div
div_is f m e n d h = cond_no (eqb n 0) (cond (eqb m 0) nan (inf false)) (round f false (m * up e * down d) (n * up d * down e)) (pos→neqb n h)

pub mul_is : (f : Format) (m : ℕ) (e : ℤ) (n : ℕ) (d : ℤ) → mul f (fin false m e) (fin false n d) ≡ round f false (m * up e * (n * up d)) (down e * down d)
unfolding mul
mul_is f m e n d = refl

pick : (f : Format) (a b c : ℕ) → b ≤ a → sum f false a true b c ≡ round f false (a - b) c
unfolding sum
pick f a b c h = go (ltb a b) (ltb→lt a b)
  where
    go : (t : Bool) → (T t → a < b) → cond t (round f true (b - a) c) (round f false (a - b) c) ≡ round f false (a - b) c
    go true k = absurd (not-le_of_lt (k tt) h)
    go false k = refl

opened : (f : Format) (m : ℕ) (e : ℤ) (n : ℕ) (d : ℤ) →
    sub f (fin false m e) (fin false n d) ≡ sum f false (m * up e * down d) true (n * up d * down e) (down e * down d)
unfolding sub
opened f m e n d = refl

pub sub_is : (f : Format) (m : ℕ) (e : ℤ) (n : ℕ) (d : ℤ) → n * up d * down e ≤ m * up e * down d →
    sub f (fin false m e) (fin false n d) ≡ round f false (m * up e * down d - n * up d * down e) (down e * down d)
sub_is f m e n d h = opened f m e n d ∙ pick f (m * up e * down d) (n * up d * down e) (down e * down d) h
