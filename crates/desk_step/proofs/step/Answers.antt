-- A bad line leaves both rooms; in any other the key stands inside the line.
-- Assumes nothing.
use Rattle.std.proofs.Common.{sym, refl, ◌∙◌, arith}
use Rattle.desk_step.specs.Desk.{stepped}
use Rattle.desk_step.specs.Laws.{read-inside}
use Rattle.desk_step.proofs.step.Goals as goal

pub returns-in_default : goal.returns-in_default
unfolding stepped
returns-in_default c =
    rw (sym c.read_call.ensures ∙ c.in_default.is)
    (record { answer = c.bad_line.ensures; first = refl; second = refl })

pub slice_bounds-call-count : goal.slice_bounds-call-count
slice_bounds-call-count c =
    let k = read-inside _ _ _ _ _ _ _ _ (sym c.read_call.ensures ∙
    c.in-Some.is) in omega (arith, k.starts)

pub slice_bounds-call-start : goal.slice_bounds-call-start
slice_bounds-call-start c =
    let k = read-inside _ _ _ _ _ _ _ _ (sym c.read_call.ensures ∙
    c.in-Some.is) in omega (arith, k.starts)

pub slice_bounds-call-end : goal.slice_bounds-call-end
slice_bounds-call-end c =
    let k = read-inside _ _ _ _ _ _ _ _ (sym c.read_call.ensures ∙
    c.in-Some.is) in omega (arith, k.ends)

pub returns : goal.returns
unfolding stepped
returns c =
    rw (sym c.read_call.ensures ∙
    c.in-Some.is) c.call.ensures
