-- What stays, what is done then, and the other words, one after the other.
use mathlib.Core.Path.{sym, ap, subst, ◌∙◌}
use mathlib.Core.List.{List}
use Prim.Native.Nat.{ℕ}
use Rattle.edit.specs.Bodies.{Acts, acted, fixed, edited}
use Rattle.edit.specs.BodyLaws.{edit-acts}
use Rattle.edit.proofs.edit_body.Goals as goal

pub act-requires : goal.act-requires
act-requires c =
    subst (λ (y : List ℕ). Acts c.args.r c.args.size c.args.reading y c.args.e.then) (sym c.start.ensures) (edit-acts _ _ _ _ _ c.requires)

pub returns : goal.returns
unfolding edited
returns c =
    let a = c.args in
    c.fix.ensures ∙
    ap (λ (y : List ℕ). fixed y a.e.limit a.e.factor a.e.factor_time)
    (c.act.ensures ∙ ap (acted a.r a.size a.reading a.e.then) c.start.ensures)
