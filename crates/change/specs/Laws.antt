-- A change that fits leaves a sound body with the buckets that the rules say, and its other words; and the room with it.
-- Assumes nothing.
use Rattle.std.specs.Prelude.{◌≡◌, List, ℕ, length}
use Rattle.std.proofs.Common.{◌∙◌}
use Rattle.layout.specs.Layout.{size_of}
use Rattle.room.specs.Room.{Room, ring_of, body_of, key_at, use_of, last_of}
use Rattle.room.specs.Laws.{body-length}
use Rattle.frame.specs.Frame.{Changed, body-change, put-use, put-release, put-entry, unchanged}
use Rattle.keys.specs.Keys.{key_of}
use Rattle.parties.specs.Parties.{Sent, key_for}
use Rattle.parties.proofs.Laws.{mark-small}
use Rattle.edit.specs.declared.Edit.{Edit}
use Rattle.change.specs.declared.Change.{Change}
use Rattle.change.specs.declared.Change.TheVariants.{Keep, Free, Update, Take}
use Rattle.change.specs.Words.{Applies, carried, with_edit, updated, taken, EditsAt}
use Rattle.edit.specs.Bodies.{edited}
use Rattle.edit.specs.BodyLaws.{edited-is}

-- ---- a room, edited

module _ (w : List ℕ) (at s t : ℕ) (e : Edit) (h : EditsAt w at s t e) where
  pub edit-size : length (edited (ring_of w) s t (body_of w at) e) ≡ size_of (ring_of w)
  edit-size = (edited-is (ring_of w) s t (body_of w at) e h.edits).long ∙ body-length w at h.room h.inside

  pub edit-change : Changed w (with_edit w at s t e) at (use_of w at) (key_at w at) (edited (ring_of w) s t (body_of w at) e) (last_of w)
  unfolding with_edit
  edit-change = body-change w at h.room h.inside (edited (ring_of w) s t (body_of w at) e) edit-size

  pub update-change : Changed w (updated w at s t e) at e.used (key_at w at) (edited (ring_of w) s t (body_of w at) e) (last_of w)
  unfolding updated
  update-change = put-use edit-change e.used

  pub take-change : (key : Sent) → Changed w (taken w at key s t e) at e.used (key_for key) (edited (ring_of w) s t (body_of w at) e) (last_of w)
  unfolding taken key_of
  take-change key = put-entry edit-change e.used (key_for key) (mark-small key.caller.party)

pub carried-room : (w : List ℕ) (at : ℕ) (key : Sent) (s t : ℕ) (change : Change) → Applies w at s t change → Room (carried w at key s t change)
unfolding carried
carried-room w at key s t Keep a = a
carried-room w at key s t Free a = (put-release (unchanged w at a.room a.inside)).room
carried-room w at key s t (Update e) a = (update-change w at s t e a).room
carried-room w at key s t (Take e) a = (take-change w at s t e a key).room
