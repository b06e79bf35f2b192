-- Each arm is its case of the definition.
use Rattle.change.specs.Words.{carried}
use Rattle.change.proofs.carry.Goals as goal

pub returns-in-Keep : goal.returns-in-Keep
unfolding carried
returns-in-Keep c =
    rw c.in-Keep.is

pub returns-in-Free : goal.returns-in-Free
unfolding carried
returns-in-Free c =
    rw c.in-Free.is c.release.ensures

pub returns-in-Update : goal.returns-in-Update
unfolding carried
returns-in-Update c =
    rw c.in-Update.is c.update.ensures

pub returns-in-Take : goal.returns-in-Take
unfolding carried
returns-in-Take c =
    rw c.in-Take.is c.take.ensures
