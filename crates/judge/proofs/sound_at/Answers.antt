-- Where there is no slot nothing is judged; the key of one that is there is the one looked for.
use Rattle.room.specs.Laws.{room-directory}
use mathlib.Core.Path.{◌∙◌, ap}
use Prim.Native.Nat.{ℕ}
use native.Mathlib.Omega.{arith}
use Rattle.room.specs.Room.{last_of}
use Rattle.parties.specs.Parties.{sent}
use Rattle.opened.specs.Right.{slot_right, sound_none, sound-some}
use Rattle.judge.proofs.sound_at.Goals as goal

pub returns-then-slots-at : goal.returns-then-slots-at
returns-then-slots-at c =
    sound_none _ _ _ _ _ c.requires c.if-slots-at.true

pub use_of-requires : goal.use_of-requires
use_of-requires c =
    (room-directory c.requires.room, c.if-slots-at.false)

pub returns : goal.returns
returns c =
    let w = c.args.w.now in
    sound-some c.args.kind c.args.settings w (sent c.args.caller c.args.key.now) c.args.x _
    (λ i. omega (arith, c.shared_slice_known-2-1.given i)) c.requires
    c.if-slots-at.false
    (c.slot_right.ensures ∙ ap (λ (u : ℕ). slot_right c.args.kind c.args.settings (last_of w) u c.args.x) c.use_of.ensures)
