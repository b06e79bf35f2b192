-- Each arm is its case of the definition.
use Rattle.edit.specs.Bodies.{acted}
use Rattle.edit.proofs.act.Goals as goal

pub returns-in-Nothing : goal.returns-in-Nothing
unfolding acted
returns-in-Nothing c =
    rw c.in-Nothing.is

pub returns-in-Increment : goal.returns-in-Increment
unfolding acted
returns-in-Increment c =
    rw c.in-Increment.is c.increment.ensures

pub returns-in-Replace : goal.returns-in-Replace
unfolding acted
returns-in-Replace c =
    rw c.in-Replace.is c.replace.ensures

pub returns-in-Preserve : goal.returns-in-Preserve
unfolding acted
returns-in-Preserve c =
    rw c.in-Preserve.is c.preserve.ensures
