-- `factor_opened::second_of` meets its contract: the body that is lent is the slot's.
-- Assumes nothing.
use mathlib.Core.Path.{sym, ap, ap₂, subst, ◌∙◌}
use mathlib.Core.Bool.{Bool, cond}
use mathlib.Core.List.{List}
use Prim.Native.Nat.{ℕ, ◌≤◌}
use lib.ListN.{drop}
use Rattle.ring.specs.Ring.{counts, len_of, buckets}
use Rattle.ring.specs.Sound.{Sound}
use Rattle.room.specs.Room.{ring_of, last_of, body_of}
use Rattle.room.specs.Laws.{part_body}
use Rattle.settings.specs.Clock.{ticks_in}
use Rattle.rules.specs.Buckets.{last_second, recent}
use Rattle.factor_opened.proofs.second_of.Goals as goal

pub returns-then-not-series : goal.returns-then-not-series
returns-then-not-series c =
    let a = c.args in
    let w = a.w.now in
    sym (ap (λ (z : Bool). cond z (last_second (ticks_in a.settings) a.reading (drop a.x.pass.expired (buckets (ring_of w) (body_of w a.x.at)))) 0)
    c.if-not-series.true)

pub start-a-requires : goal.start-a-requires
start-a-requires c =
    (c.requires.room, c.requires.inside c.if-not-series.false)

pub last_second-requires : goal.last_second-requires
last_second-requires c =
    let k = c.start-a in
    let w = c.args.w.now in
    let h = c.if-not-series.false in
    let e = part_body w k.result c.args.x.at k.ensures.at in (
      subst (λ (b : List ℕ). Sound (ring_of w) b (last_of w)) (sym e) (c.requires.sound h),
      subst (λ (b : List ℕ). c.args.x.pass.expired ≤ len_of b) (sym e) (c.requires.some h),
    )

pub returns : goal.returns
returns c =
    let a = c.args in
    let k = c.start-a in
    let w = a.w.now in
    let n = a.x.pass.expired in
    c.last_second.ensures ∙
    ap₂ (λ (m : ℕ) (b : List ℕ). counts (recent m a.reading (drop n (buckets (ring_of w) b)))) c.second_ticks.ensures
    (part_body w k.result a.x.at k.ensures.at) ∙
    sym (ap (λ (z : Bool). cond z (last_second (ticks_in a.settings) a.reading (drop n (buckets (ring_of w) (body_of w a.x.at)))) 0)
    c.if-not-series.false)
