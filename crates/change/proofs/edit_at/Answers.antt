-- The body that is lent is the slot's, and it comes back edited.
use mathlib.Core.Path.{sym, ap, subst, ◌∙◌}
use mathlib.Core.List.{List}
use Prim.Native.Nat.{ℕ}
use Rattle.room.specs.Room.{ring_of, with_body}
use Rattle.room.specs.Laws.{part_body, part-home}
use Rattle.change.specs.Words.{with_edit}
use Rattle.edit.specs.Bodies.{Edits, edited}
use Rattle.change.proofs.edit_at.Goals as goal

pub edit_body-requires : goal.edit_body-requires
edit_body-requires c =
    let w = c.args.w.now in
    subst (λ (y : List ℕ). Edits (ring_of w) c.args.size c.args.reading y c.args.e)
    (sym (part_body w c.start-a.result c.args.at c.start-a.ensures.at)) c.requires.edits

pub returns : goal.returns
unfolding with_edit
returns c =
    let a = c.args in
    let w = a.w.now in
    part-home w c.edit_body.new.b c.start-a.result a.at c.start-a.ensures.at ∙
    ap (with_body w a.at) (c.edit_body.ensures ∙ ap (λ (y : List ℕ). edited (ring_of w) a.size a.reading y a.e)
    (part_body w c.start-a.result a.at c.start-a.ensures.at))
