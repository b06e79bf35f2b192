-- By whether the key has a slot.
use Rattle.shared_opened.specs.Opened.{deleting}
use Rattle.shared_opened.proofs.deleting.Goals as goal

pub returns-then-has_slot : goal.returns-then-has_slot
unfolding deleting
returns-then-has_slot c =
    rw (← c.has_slot.ensures, c.if-has_slot.true)

pub returns : goal.returns
unfolding deleting
returns c =
    rw (← c.has_slot.ensures, c.if-has_slot.false)
