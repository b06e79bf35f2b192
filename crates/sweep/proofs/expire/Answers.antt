-- `sweep::expire` meets its contract. At every turn the place is that of the next bucket, and what goes from here on comes to all that goes.
-- Assumes nothing.
use mathlib.Core.Path.{◌≡◌, refl, sym, ◌∙◌}
use Prim.Native.Nat.{◌+◌, ◌<◌}
use native.Mathlib.Omega.{arith}
use Rattle.ring.specs.Ring.{head_of, len_of}
use Rattle.ring.specs.Wrap.{wrap-lo}
use Rattle.quick.specs.Turns.{next_place, next-inside, at_place}
use Rattle.rules.specs.Buckets.{older}
use Rattle.sweep.specs.Turns.{gone-start, gone-turn, gone-stop, gone-end}
use Rattle.sweep.proofs.expire.Goals as goal

pub loop-k-init : goal.loop-k-init
loop-k-init c =
    let a = c.args in
    let h = head_of a.b.now in
    let e : h ≡ h + 0 = omega arith in (
      c.requires.head,
      e ∙ sym (wrap-lo a.r (h + 0) (omega (arith, c.requires.head))),
      gone-start a.r a.b.now a.reading a.window _ _ refl refl,
    )

pub returns-then-not-older : goal.returns-then-not-older
unfolding older
returns-then-not-older c =
    let a = c.args in
    let s = c.requires in
    let l = c.loop-k in
    let x = c.at-x in
    let o = c.older in
    gone-stop a.r a.b.now a.reading a.window l.k l.total l.declined x.result
    (omega (arith, c.len-n.ensures, c.loop-k-test.true))
    (at_place a.r a.b.now s l.k l.j x.result l.invariant.1 x.ensures) (sym o.ensures ∙ c.if-not-older.true) l.invariant.2

pub loop-k-preserved : goal.loop-k-preserved
unfolding older
loop-k-preserved c =
    let a = c.args in
    let s = c.requires in
    let l = c.loop-k in
    let x = c.at-x in
    let o = c.older in
    let p = c.saturating_sub-total in
    let d = c.saturating_sub-declined in
    let m = c.next-j in
    let more : l.k < len_of a.b.now = omega
    (arith, c.len-n.ensures, c.loop-k-test.true) in (
      next-inside a.r a.b.now s l.j m.result l.invariant.0 m.ensures,
      m.ensures ∙ next_place a.r a.b.now s l.k l.j more l.invariant.1,
      gone-turn a.r a.b.now a.reading a.window l.k l.total l.declined p.result d.result x.result more
          (at_place a.r a.b.now s l.k l.j x.result l.invariant.1 x.ensures)
          (sym o.ensures ∙ c.if-not-older.false) p.ensures d.ensures l.invariant.2,
    )

pub returns : goal.returns
returns c =
    let a = c.args in
    let l = c.loop-k in
    let e : c.len-n.result ≡ l.k = omega arith in
    rw e (gone-end a.r a.b.now a.reading a.window l.k l.total l.declined (omega (arith, c.len-n.ensures, c.loop-k-test.false)) l.invariant.2)
