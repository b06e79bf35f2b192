-- What `desk` and `shots` print of an answer, in 01's words: these are the definitions to hold beside the page.
-- t is the reading, x what is stored after the call. One party calls, and is promised every slot.
-- Assumes nothing.
use Rattle.std.specs.Prelude.{ℕ, Bool, true, false, ◌&&◌, List, nat_lt, Result, Ok, Err}
use Rattle.std.specs.Float.{binary64}
use Rattle.std.specs.Float.Ieee.{div}
use Rattle.common.specs.Units.{minute, real}
use Rattle.answers.specs.declared.RateLimitDecision.{RateLimitDecision}
use Rattle.common.specs.declared.units.RateLimit.{RateLimit}
use Rattle.ring.specs.Ring.{total_of, declined_of}
use Rattle.layout.specs.Layout.{first_mark}
use Rattle.room.specs.Room.{sized, slots_of, use_of, find, body_of}
use Rattle.keys.specs.Keys.{key_of}
use Rattle.opened.specs.Sound.{has_series}
use Rattle.parties.specs.declared.Caller.{Caller}
use Rattle.printing.specs.declared.Answer.TheVariants as answer
use Rattle.printing.specs.declared.AnswerLine.{AnswerLine}
use Rattle.told.specs.Told.{no_stored, said, refused_line, decided, live, snapped, line_of}
use Rattle.told.specs.declared.Stored.{Stored}
use Rattle.told.specs.declared.Told.{Told}
use Rattle.common.specs.declared.refusal.Refusal.{Refusal}
use Rattle.answers.specs.declared.ShotOutcome.{ShotOutcome}
use Rattle.answers.specs.declared.ShotOutcome.TheVariants.{Held, Decided}
use Rattle.answers.specs.declared.SuppressedRateLimitSnapshot.{SuppressedRateLimitSnapshot}

-- the one party, promised every slot of room w
abbrev pub alone : List ℕ → Caller
alone w = record { party = 1; first = slots_of w; second = 0 }

-- ---- what is stored of a key: the one party's

abbrev pub stored_at : List ℕ → ℕ → Stored
stored_at w at = record { total = total_of (body_of w at); declined = declined_of (body_of w at) }

abbrev pub pick_stored : Bool → Stored → Stored
pick_stored true x = x
pick_stored false x = no_stored

unfoldable pub stored_of : List ℕ → List ℕ → Stored
stored_of w key =
    let at = find w (key_of first_mark key) in
    pick_stored (sized w && (nat_lt at (slots_of w) && has_series (use_of w at))) (stored_at w at)

-- ---- lines

-- a line of what is told at reading t
abbrev pub line_at : ℕ → Told → AnswerLine
line_at t told = line_of (record { t = t; told = told })

unfoldable pub decision_line : ℕ → RateLimitDecision → Stored → AnswerLine
decision_line t d x = line_at t (decided d x)

-- a shot: a decision's line, and one word more
unfoldable pub shot_line : ℕ → Result ShotOutcome Refusal → Stored → AnswerLine
shot_line t (Ok Held) x = said t answer.Held 0 0 0 x
shot_line t (Ok (Decided d)) x = decision_line t d x
shot_line t (Err r) x = refused_line t r.0

unfoldable pub total_line : ℕ → Result ℕ Refusal → AnswerLine
total_line t a = line_at t (live a)

unfoldable pub snapshot_line : ℕ → Result SuppressedRateLimitSnapshot Refusal → Stored → AnswerLine
snapshot_line t a x = line_at t (snapped a x)

-- "`rate` is whole per minute": the arithmetic of `RateLimit::per_minute`
unfoldable pub per_minute : ℕ → RateLimit
per_minute rate = record { 0 = div binary64 (real rate) (real minute) }
