-- The body that is lent is the slot's.
use mathlib.Core.Path.{sym, ap, ap₂, subst, ◌∙◌}
use mathlib.Core.List.{List}
use Prim.Native.Nat.{ℕ}
use Rattle.ring.specs.Ring.{Shape}
use Rattle.room.specs.Room.{ring_of}
use Rattle.room.specs.Laws.{part_body, part_length}
use Rattle.opened.specs.Sound.{has_series}
use Rattle.stale.specs.Uses.{use_after}
use native.Mathlib.Omega.{arith}
use Rattle.stale.proofs.use_next.Goals as goal

pub use_after-requires : goal.use_after-requires
use_after-requires c =
    let w = c.args.w.now in
    let i = c.args.i in
    let e = part_body w c.start-a.result i c.start-a.ensures.at in (
      record {
        long = omega (arith, part_length w c.start-a.result i c.start-a.ensures.at c.requires.0.room c.requires.0.inside);
        shape = λ p. subst (λ (b : List ℕ). Shape (ring_of w) b) (sym e) (c.requires.0.shape (ap has_series (sym c.used_at-u.ensures) ∙ p));
      },
      c.requires.1,
    )

pub returns : goal.returns
returns c =
    let a = c.args in
    let w = a.w.now in
    c.use_after.ensures ∙
    ap₂ (λ (u : ℕ) (b : List ℕ). use_after (ring_of w) u b a.reading a.ticks a.stale) c.used_at-u.ensures
    (part_body w c.start-a.result a.i c.start-a.ensures.at)
