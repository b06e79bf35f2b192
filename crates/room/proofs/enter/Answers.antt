-- Who holds it, then six stores, in the order of the definition.
-- Assumes nothing.
use mathlib.Core.Path.{ap}
use mathlib.Core.List.{List, [], ◌∷◌}
use Prim.Native.Nat.{ℕ, ◌+◌}
use Rattle.base.specs.Writes.{writes}
use Rattle.layout.specs.Layout.{len_word, a_word, b_word, c_word, d_word}
use Rattle.room.specs.Room.{entered, entry_of}
use Rattle.room.proofs.enter.Goals as goal

pub returns : goal.returns
unfolding entered
returns c =
    let a = c.args in
    let e = entry_of a.s in
    let k = a.k in
    ap (λ (y : List ℕ). writes y ((e, a.u) ∷ (e + len_word, k.len) ∷ (e + a_word, k.a) ∷ (e + b_word, k.b) ∷ (e + c_word, k.c) ∷ (e + d_word, k.d) ∷ []))
    c.hold.ensures
