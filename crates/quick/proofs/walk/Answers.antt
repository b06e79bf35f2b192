-- `quick::walk` meets its contract. At every turn the place is that of the next bucket, and what is left of the pass comes to the whole.
-- Assumes nothing.
use mathlib.Core.Path.{◌≡◌, refl, sym, ◌∙◌}
use Prim.Native.Nat.{◌+◌, ◌<◌}
use Rattle.ring.specs.Ring.{head_of, len_of}
use Rattle.ring.specs.Wrap.{wrap-lo}
use Rattle.quick.specs.Turns.{next_place, next-inside, walk_turn, walk_end}
use native.Mathlib.Omega.{arith}
use Rattle.quick.proofs.walk.Goals as goal

pub loop-k-init : goal.loop-k-init
loop-k-init c =
    let a = c.args in
    let s = c.requires in
    let h = head_of a.b.now in
    let e : h ≡ h + 0 = omega arith in
    (s.head, e ∙ sym (wrap-lo a.r (h + 0) (omega (arith, s.head))), refl)

pub loop-k-preserved : goal.loop-k-preserved
loop-k-preserved c =
    let a = c.args in
    let l = c.loop-k in
    let m = c.next-j in
    let x = c.at in
    let more : l.k < len_of a.b.now = omega
    (arith, c.len-n.ensures, c.loop-k-test.true)
    in (
      next-inside a.r a.b.now c.requires l.j m.result l.invariant.0 m.ensures,
      m.ensures ∙ next_place a.r a.b.now c.requires l.k l.j more l.invariant.1,
      walk_turn a.r a.b.now c.requires l.k l.j l.a c.full_turn-a.result _ x.result more l.invariant.1 x.ensures
          c.full_turn-a.ensures l.invariant.2,
    )

pub returns : goal.returns
returns c =
    let a = c.args in
    let l = c.loop-k in
    walk_end a.r a.b.now c.requires l.k l.a _
    (omega (arith, c.len-n.ensures, c.loop-k-test.false)) l.invariant.2
