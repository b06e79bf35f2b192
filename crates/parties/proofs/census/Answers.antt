-- The two words, without what is past the room's slots: their common bits, and the count of each.
-- Assumes nothing.
use mathlib.Core.Path.{◌≡◌, ap, ap₂, ◌∙◌}
use Prim.Native.Nat.{ℕ, ◌^◌, ◌<◌}
use native.Mathlib.Omega.{arith}
use lib.Dec.{eqb}
use lib.ListN.{get_or}
use lib.Bits.{bit_and}
use lib.Count.{ones, ones-le}
use mir.Syntax.{w64}
use mir.Val.{Fits}
use Rattle.layout.specs.Layout.{firsts_word, seconds_word}
use Rattle.room.specs.Room.{slots_of}
use Rattle.parties.specs.Parties.{ours}
use Rattle.parties.specs.Census.{bits_held, census_of}
use Rattle.parties.proofs.Laws.{ones_low, ours-is}
use Rattle.parties.proofs.census.Goals as goal

-- a count of 64 bits
few : (x : ℕ) → x < 2 ^ 64 → Fits w64 (ones x)
few x h = record { fits = omega (arith, ones-le 64 x h) }

pub returns : goal.returns
unfolding census_of bits_held
returns c =
    let w = c.args.w.now in
    let x = c.own_bits-firsts in
    let y = c.own_bits-seconds in
    let o : eqb (bit_and x.result y.result) 0 ≡ ours w = ap₂ (λ (a b : ℕ). eqb (bit_and a b) 0) x.ensures y.ensures ∙ ours-is w in
    let f : ones x.result ≡ bits_held w firsts_word = ap ones x.ensures ∙ ones_low (get_or w firsts_word 0) (slots_of w) in
    let s : ones y.result ≡ bits_held w seconds_word = ap ones y.ensures ∙ ones_low (get_or w seconds_word 0) (slots_of w) in
    λ i. record { ours = o i; first = f i; second = s i }
