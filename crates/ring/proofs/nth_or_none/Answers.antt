-- `ring::nth_or_none` meets its contract: an index below the number of buckets is one of the view's, any other is none.
-- Assumes nothing.
use Rattle.ring.specs.View.{view-at, view-none}
use Rattle.ring.specs.Ring.{bucket, no_bucket}
use Rattle.ring.specs.declared.Bucket.{Bucket}
use mathlib.Core.Path.{◌≡◌, ap, sym, ◌∙◌}
use native.Mathlib.Omega.{arith}
use Rattle.ring.proofs.nth_or_none.Goals as goal

zeros : (x : Bucket) → x.count ≡ 0 → x.declined ≡ 0 → x.time ≡ 0 → x ≡ no_bucket
zeros x p q r = ap (λ n. bucket n x.declined x.time) p ∙ ap (λ n. bucket 0 n x.time) q ∙ ap (bucket 0 0) r

pub returns-then-i-word : goal.returns-then-i-word
returns-then-i-word c =
    let a = c.args in c.nth.ensures ∙ sym (view-at a.r a.b.now a.i (omega arith))

pub returns-else-i-word : goal.returns-else-i-word
returns-else-i-word c =
    let a = c.args in
    let e = c.default.ensures in zeros c.default.result e.0 e.1.0 e.1.1 ∙ sym (view-none a.r a.b.now a.i (omega arith))
