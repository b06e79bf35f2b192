-- `printing::put_answer` meets its contract: each arm puts the text of its own word.
-- Assumes nothing.
use native.Mathlib.Omega.{arith}
use Rattle.printing.specs.Printing.{put_word}
use Rattle.printing.proofs.put_answer.Goals as goal

pub returns-in-Allowed : goal.returns-in-Allowed
returns-in-Allowed c =
    rw c.in-Allowed.is (put_word _ _ _ _ _ c.put_text.ensures (omega arith))

pub returns-in-Rejected : goal.returns-in-Rejected
returns-in-Rejected c =
    rw c.in-Rejected.is (put_word _ _ _ _ _ c.put_text-in-Rejected.ensures (omega arith))

pub returns-in-Yes : goal.returns-in-Yes
returns-in-Yes c =
    rw c.in-Yes.is (put_word _ _ _ _ _ c.put_text-in-Yes.ensures (omega arith))

pub returns-in-No : goal.returns-in-No
returns-in-No c =
    rw c.in-No.is (put_word _ _ _ _ _ c.put_text-in-No.ensures (omega arith))

pub returns-in-Value : goal.returns-in-Value
returns-in-Value c =
    rw c.in-Value.is (put_word _ _ _ _ _ c.put_text-in-Value.ensures (omega arith))

pub returns-in-Held : goal.returns-in-Held
returns-in-Held c =
    rw c.in-Held.is (put_word _ _ _ _ _ c.put_text-in-Held.ensures (omega arith))

pub returns-in-Refused : goal.returns-in-Refused
returns-in-Refused c =
    rw c.in-Refused.is (put_word _ _ _ _ _ c.put_text-in-Refused.ensures (omega arith))
