-- A number that names nothing leaves what can be judged without it; else the set's answer is handed over as its row.
use mathlib.Core.Path.{refl}
use Rattle.answers.specs.Rows.{set_row}
use Rattle.abi.specs.Faces.{shown_set}
use Rattle.abi.specs.Laws.{given-faced, faced}
use Rattle.abi.proofs.set.Goals as goal
use Rattle.abi.proofs.set.Goals.{in_default-via-in-Some+in_default, in_default-via-in_default}

pub returns-in_default : goal.returns-in_default
unfolding shown_set
returns-in_default c =
    elim c.in_default.branch [
      | in_default-via-in-Some+in_default w ↦ rw (w.in_default.is-0, w.in_default.is-1) (given-faced _ _ _ _ _ refl c.unnamed.ensures refl)
      | in_default-via-in_default w ↦ rw w.in_default.is-0 (given-faced _ _ _ _ _ refl c.unnamed.ensures refl)
    ]

pub returns : goal.returns
unfolding shown_set
returns c =
    rw (c.in-Some-Some.is-0, c.in-Some-Some.is-1)
    (faced set_row _ _ _ _ _ _ c.set-answer.ensures c.set_row.ensures c.give.ensures)
