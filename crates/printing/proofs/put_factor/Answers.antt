-- `printing::put_factor` meets its contract: the name, then the word's 16 hex digits.
-- Assumes nothing.
use native.Mathlib.Omega.{arith}
use Rattle.printing.specs.Printing.{put-field, hex-length}
use Rattle.printing.proofs.put_factor.Goals as goal

pub returns : goal.returns
returns c =
    put-field _ _ _ _ _ _ _ _ c.put_text-next.ensures c.put_hex.ensures
    (omega (arith, hex-length 16 c.args.factor)) c.requires
