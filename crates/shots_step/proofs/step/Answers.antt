-- A bad line leaves table and room; in any other the controller's key stands inside the line.
-- Assumes nothing.
use mathlib.Core.Path.{refl, sym, ◌∙◌}
use Rattle.shots_step.specs.Shots.{stepped}
use Rattle.shots_step.specs.Laws.{read-inside}
use native.Mathlib.Omega.{arith}
use Rattle.shots_step.proofs.step.Goals as goal

pub returns-in_default : goal.returns-in_default
unfolding stepped
returns-in_default c =
    rw (sym c.read_shot.ensures ∙ c.in_default.is)
    (record { answer = c.bad_line.ensures; first = refl; second = refl })

pub slice_bounds-take-count : goal.slice_bounds-take-count
slice_bounds-take-count c =
    let k = read-inside _ _ _ _ _ _ _ (sym c.read_shot.ensures ∙ c.in-Some.is) in
    omega (arith, k.starts)

pub slice_bounds-take-start : goal.slice_bounds-take-start
slice_bounds-take-start c =
    let k = read-inside _ _ _ _ _ _ _ (sym c.read_shot.ensures ∙ c.in-Some.is) in
    omega (arith, k.starts)

pub slice_bounds-take-end : goal.slice_bounds-take-end
slice_bounds-take-end c =
    let k = read-inside _ _ _ _ _ _ _ (sym c.read_shot.ensures ∙ c.in-Some.is) in
    omega (arith, k.ends)

pub returns : goal.returns
unfolding stepped
returns c =
    rw (sym c.read_shot.ensures ∙
    c.in-Some.is) c.take.ensures
