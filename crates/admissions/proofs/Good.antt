-- What holds of a key's buckets and of the log of its admitted counts, from call to call; the ceiling is a part of it, the floor follows from it.
-- In ticks are w, the window, b, the longest age that joins, at most w, and t, the reading; top is the hard limit.
-- Assumes nothing.
use Rattle.std.specs.Prelude.{◌≡◌, refl, Bool, true, false, cond, List, [], ℕ, ◌+◌, ◌-◌, ◌≤◌, ◌<◌}
use Rattle.std.proofs.Math.Decide.{dec_le}
use Rattle.std.proofs.Math.Nat.{sub-zero}
use Rattle.std.proofs.Common.{arith}
use Rattle.rules.specs.Buckets.{recent, newest, joined}
use Rattle.ring.specs.declared.Bucket.{Bucket}
use Rattle.ring.specs.Order.{Fine}
use Rattle.ring.specs.Ring.{counts, declineds}
use Rattle.admissions.specs.Log.{Entry, noted, pick, in_span, aged}
use Rattle.admissions.proofs.Log.{pick-le, since-mono, span-since, since-aged}
use Rattle.admissions.specs.Buckets.{mass}
use Rattle.admissions.proofs.Buckets.{mass-total, evict-less, evict-keeps, evict-live, joined-low, joined-high, mass-old}
use Rattle.admissions.specs.Good.{Good}

module _ (w b top : ℕ) (le : b ≤ w) where
  pub good_none : (t : ℕ) → Good w b top t [] []
  good_none t = record { held = λ u h. omega arith; only = λ u. omega arith; ceiling = λ s. omega arith }

  pub good-later : {t : ℕ} {xs : List Bucket} {log : List Entry} (t' : ℕ) → t ≤ t' → Good w b top t xs log → Good w b top t' xs log
  good-later t' h g = record { held = λ u f. g.held u (omega arith); only = g.only; ceiling = g.ceiling }

  -- the expired buckets go
  pub good-evict : {t : ℕ} {xs : List Bucket} {log : List Entry} → Good w b top t xs log → Good w b top t (recent w t xs) log
  good-evict {t} {xs} g = record {
    held = λ u f. omega (arith, g.held u f, evict-keeps w t (u - b) (omega arith) xs);
    only = λ u. omega (arith, g.only u, evict-less w t u xs);
    ceiling = g.ceiling;
  }

  -- the series goes: its newest bucket's age is over a stale time of at least the window
  pub good-drop : {t : ℕ} {xs : List Bucket} {log : List Entry} (stale lo hi : ℕ) → w ≤ stale → Fine lo xs hi → stale < t - (newest xs).time →
      Good w b top t xs log → Good w b top t [] log
  good-drop {t} {xs} stale lo hi l f h g = record {
    held = λ u p. omega (arith, g.held u p, mass-old (u - b) lo xs hi f (omega arith));
    only = λ u. omega arith;
    ceiling = g.ceiling;
  }

  -- c counts are recorded, all of them admitted or none
  pub good-record : {t : ℕ} {xs : List Bucket} {log : List Entry} (is : Bool) (c : ℕ) → Fine 0 xs t → (is ≡ true → (counts xs - declineds xs) + c ≤ top) →
      Good w b top t xs log → Good w b top t (joined b t c (cond is 0 c) xs) (noted is t c log)
  good-record {t} {xs} {log} true c f h g = record {
    held = λ u p. omega (arith, g.held u p, rw (sub-zero c) at (joined-low b t c 0 u (omega arith) 0 xs f));
    only = λ u. omega (arith, g.only u, rw (sub-zero c) at (joined-high b t c 0 u (omega arith) 0 xs f));
    ceiling = λ s. go s (dec_le s t) (dec_le t (s + (w - b)));
  }
    where
      go : (s : ℕ) (p : Dec (s ≤ t)) (q : Dec (t ≤ s + (w - b))) → pick p (pick q c) + in_span s (s + (w - b)) log ≤ top
      go s (no p) q = omega (arith, g.ceiling s)
      go s (yes p) (no q) = omega (arith, g.ceiling s)
      go s (yes p) (yes q) =
          omega (
            arith,
            h refl,
            span-since s (s + (w - b)) log,
            g.held s (omega arith),
            since-mono 0 (s - b) (mass xs) (omega arith),
            mass-total 0 xs t f,
          )
  good-record {t} {xs} {log} false c f h g = record {
    held = λ u p. omega (arith, g.held u p, joined-low b t c c u (omega arith) 0 xs f);
    only = λ u. omega (arith, g.only u, joined-high b t c c u (omega arith) 0 xs f, pick-le (dec_le u t) (c - c));
    ceiling = g.ceiling;
  }

-- what is held at an age of at most v was admitted at such an age
pub good-floor : (v w b top : ℕ) {t : ℕ} {xs : List Bucket} {log : List Entry} → Fine 0 (recent v t xs) t → Good w b top t xs log →
    counts (recent v t xs) - declineds (recent v t xs) ≤ aged v t log
good-floor v w b top {t} {xs} {log} f g =
    omega (arith, mass-total 0 (recent v t xs) t f, evict-live v t xs, g.only (t - v), since-aged v t log)
