-- `printing::print` meets its contract: a room that is too short is left, and in any other the eight fields stand one after the other.
-- Assumes nothing.
use Rattle.printing.specs.Printing.{print-short, print-whole}
use Rattle.printing.proofs.print.Goals as goal

pub returns-then-out-lt-LONGEST : goal.returns-then-out-lt-LONGEST
returns-then-out-lt-LONGEST c =
    print-short _ _ c.if-out-lt-LONGEST.true

pub returns : goal.returns
returns c =
    print-whole _ _ _ _ _ _ c.if-out-lt-LONGEST.false c.put_verdict-next.ensures c.put_counts.ensures
