-- `history::walk` meets its contract. At every turn, the whole buckets so far and those that the rest still takes are all that go.
-- Assumes nothing.
use Rattle.preserve.specs.Preserves.{Walking}
use Rattle.preserve.proofs.Preserves.{walking_start, walking-done, walking-end, walking-part, walking_on}
use Rattle.history.specs.Words.{bucket_of}
use Rattle.preserve.specs.Preserving.{lost_at, Walked}
use Prim.Native.Nat.{ℕ, ◌+◌, ◌-◌}
use mathlib.Core.Path.{◌≡◌, refl, sym, ap, subst, ◌∙◌}
use native.Mathlib.Omega.{arith}
use Rattle.preserve.proofs.walk.Goals as goal

pub loop-k-init : goal.loop-k-init
loop-k-init c =
    let a = c.args in walking_start a.p a.r a.b.now a.m _ refl

pub returns-then-rest-eq0 : goal.returns-then-rest-eq0
returns-then-rest-eq0 c =
    let a = c.args in let l =
    c.loop-k in walking-done a.p a.r a.b.now a.m l.k l.rest l.declined l.invariant c.if-rest-eq0.true

pub loop-k-preserved : goal.loop-k-preserved
loop-k-preserved c =
    let a = c.args in
    let l = c.loop-k in
    subst (λ (d : ℕ). Walking a.p a.r a.b.now a.m (l.k + 1) (l.rest - c.nth-x.result.count) d)
    (sym c.saturating_sub-declined.ensures) (walking_on a.p a.r a.b.now a.m l.k l.rest l.declined l.invariant c.nth-x.result
    (omega (
      arith,
      c.len-n.ensures,
      c.loop-k-test.true,
    )) (c.nth-x.ensures ∙
    ap (bucket_of a.r a.b.now)
    (c.lost.ensures.0 ∙ ap (λ (n : ℕ). lost_at a.p n l.k)
    c.len-n.ensures)) c.if-rest-eq0.false
    c.if-rest-x.false)

pub returns : goal.returns
returns c =
    let a = c.args in
    let l = c.loop-k in
    let e : l.k ≡ c.len-n.result = omega arith in
    subst (λ (k : ℕ). Walked a.p a.r a.b.now a.m (record { whole = k; rest = l.rest; declined = l.declined })) e
    (walking-end a.p a.r a.b.now a.m l.k l.rest l.declined l.invariant (omega (arith, c.len-n.ensures, c.loop-k-test.false)))

pub returns-then-rest-x : goal.returns-then-rest-x
returns-then-rest-x c =
    let a = c.args in
    let l = c.loop-k in
    walking-part a.p a.r a.b.now a.m l.k l.rest l.declined l.invariant c.nth-x.result
    (omega (arith, c.len-n.ensures, c.loop-k-test.true))
    (c.nth-x.ensures ∙ ap (bucket_of a.r a.b.now) (c.lost.ensures.0 ∙
    ap (λ (n : ℕ). lost_at a.p n l.k) c.len-n.ensures)) c.if-rest-x.true
