-- `keys::tail` meets its contract: a shift by whole bytes drops the lowest ones.
-- Assumes nothing.
use mathlib.Core.Path.{◌≡◌, ap, ◌∙◌}
use Prim.Native.Nat.{ℕ, ◌+◌, ◌-◌, ◌*◌, ◌/◌, ◌^◌}
use lib.ListN.{length}
use native.Mathlib.Omega.{arith}
use Rattle.keys.specs.Keys.{pack}
use Rattle.keys.specs.KeyLaws.{pack-shifted}
use Rattle.keys.proofs.tail.Goals as goal

pub returns : goal.returns
returns c =
    let key = c.args.key.now in
    let i = c.args.i in
    let n : length key - 8 + (i + 8 - length key) ≡ i = omega (arith, c.if-n-lt8.false, c.requires) in
    ap (λ (x : ℕ). x / 2 ^ (8 * (i + 8 - length key))) c.eight.ensures ∙
    pack-shifted key (length key - 8) (i + 8 - length key) (λ k. omega (arith, c.shared_slice_known-1.given k)) (omega arith) ∙ ap (pack key) n
