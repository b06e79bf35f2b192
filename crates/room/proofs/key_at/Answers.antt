-- Who holds it, and the five words behind the use.
-- Assumes nothing.
use mathlib.Core.Path.{ap}
use Prim.Native.Nat.{ℕ, ◌+◌}
use lib.ListN.{get_or}
use Rattle.layout.specs.Layout.{len_word, a_word, b_word, c_word, d_word}
use Rattle.room.specs.Room.{key_at, entry_of}
use Rattle.room.proofs.key_at.Goals as goal

pub returns : goal.returns
unfolding key_at
returns c =
    let a = c.args in
    ap (λ (h : ℕ). record {
      holder = h;
      len = get_or a.w.now (entry_of a.s + len_word) 0;
      a = get_or a.w.now (entry_of a.s + a_word) 0;
      b = get_or a.w.now (entry_of a.s + b_word) 0;
      c = get_or a.w.now (entry_of a.s + c_word) 0;
      d = get_or a.w.now (entry_of a.s + d_word) 0;
    }) c.holder_of.ensures
