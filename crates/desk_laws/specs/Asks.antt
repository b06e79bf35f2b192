-- What a line of `desk` asks of its two rooms, as a call of the limiters, whose answer's number is the code that is printed; and which codes a program prints:
-- those of its calls, of a bad line, of settings outside their ranges.
-- Assumes nothing.
use Rattle.std.specs.Prelude.{◌≡◌, Bool, cond, List, [], ◌∷◌, ◌≢◌, ◌⊎◌, ℕ, zero, suc, ◌<◌, eqb, Option, Some, None, Ok, Err}
use Rattle.std.proofs.Common.{sym, ap, ◌∙◌, inl, inr, arith}
use Rattle.std.proofs.Math.Bool.{true, false}
use Rattle.std.proofs.lemmas.Bool.{false≢true}
use Rattle.std.proofs.Math.Decide.{dec_lt}
use Rattle.fields.specs.Bytes.{counted, counts, class-bad}
use Rattle.fields.specs.Numbers.{Each}
use Rattle.common.specs.Refusals.{first, refusal}
use Rattle.settings.specs.Settings.{faults}
use Rattle.settings.specs.declared.Settings.{Settings}
use Rattle.frame.specs.Keys.{Bytes}
use Rattle.parties.specs.Parties.{sent}
use Rattle.rules.specs.declared.RoomKind.{RoomKind}
use Rattle.rules.specs.declared.RoomKind.TheVariants.{Absolute, Suppressed}
use Rattle.lines.specs.Reading.{read_settings}
use Rattle.lines.specs.declared.Op as line_op
use Rattle.lines.specs.declared.Op.TheVariants.{AbsoluteInc, AbsoluteGet, SuppressedInc, SuppressedGet}
use Rattle.lines.specs.declared.SettingsLine.{SettingsLine}
use Rattle.told.specs.Told.{bad_line}
use Rattle.desk_lines.specs.Lines.{alone, per_minute}
use Rattle.desk_step.specs.Desk.{call_of, absolute_inc, absolute_get, suppressed_inc, suppressed_get, settings_of, open_with, opening_in, opening_of}
use Rattle.desk_turn.specs.declared.Program.{Program}
use Rattle.desk_turn.specs.declared.Phase.{Phase}
use Rattle.desk_turn.specs.declared.Phase.TheVariants.{Waiting, Open, Ended}
use Rattle.desk_turn.specs.Lines.{prints_in, stepped_by, turn}
use Rattle.steps.specs.Ops as Ops
use Rattle.steps.specs.Ops.{Op, answer_number}
use Rattle.desk_laws.specs.Lines.{Without, Stand, decision-code, total-code, snapshot-code, no_line, one_line}

-- ---- keys of lines are bytes

plain_byte : (b : ℕ) → counts true b ≡ true → b < 256
plain_byte b e = go (dec_lt b 256)
  where
    go : Dec (b < 256) → b < 256
    go (yes h) = h
    go (no h) =
        let digit : 57 < b = omega arith in
        let letter : 122 < b = omega arith in
        absurd (false≢true (sym (ap (counted true) (class-bad b (inr digit) (inr letter) apart)) ∙ e))
      where
        apart : (b ≡ 32) ⊎ (b ≡ 61) → ⊥
        apart (inl p) = omega arith
        apart (inr p) = omega arith

pub plain-bytes : (key : List ℕ) → Each (counts true) key → Bytes key
plain-bytes [] p i = omega arith
plain-bytes (b ∷ bs) p zero = plain_byte b p.0
plain-bytes (b ∷ bs) p (suc i) = plain-bytes bs p.1 i

-- ---- a call

-- which room it asks
abbrev pub kind_of : line_op.Op → RoomKind
kind_of AbsoluteInc = Absolute
kind_of AbsoluteGet = Absolute
kind_of SuppressedInc = Suppressed
kind_of SuppressedGet = Suppressed

abbrev pub room_of : line_op.Op → List ℕ → List ℕ → List ℕ
room_of AbsoluteInc a b = a
room_of AbsoluteGet a b = a
room_of SuppressedInc a b = b
room_of SuppressedGet a b = b

-- what it asks it, of room w
abbrev pub op_of : (op : line_op.Op) → List ℕ → List ℕ → ℕ → ℕ → ℕ → Op (kind_of op)
op_of AbsoluteInc w key rate n draw = Ops.inc (sent (alone w) key) (per_minute rate) n
op_of AbsoluteGet w key rate n draw = Ops.get (sent (alone w) key)
op_of SuppressedInc w key rate n draw = Ops.draws (sent (alone w) key) (per_minute rate) n draw
op_of SuppressedGet w key rate n draw = Ops.snapshot (sent (alone w) key)

module _ (s : Settings) (a b : List ℕ) (t : ℕ) where
  pub call-code : (op : line_op.Op) (key : List ℕ) (rate n draw : ℕ) →
      (call_of s a b t op key rate n draw).answer.code ≡ answer_number (kind_of op) s (room_of op a b) t (op_of op (room_of op a b) key rate n draw)
  unfolding call_of absolute_inc absolute_get suppressed_inc suppressed_get
  call-code AbsoluteInc key rate n draw = decision-code t _ _
  call-code AbsoluteGet key rate n draw = total-code t _
  call-code SuppressedInc key rate n draw = decision-code t _ _
  call-code SuppressedGet key rate n draw = snapshot-code t _ _

-- ---- a turn that prints no line with code n

module _ (n : ℕ) (bad : bad_line ≢ n) (faulty : (s : Settings) → first (faults s) ≢ n) where
  opened : (s : Settings) → Without n (prints_in (open_with s))
  unfolding open_with
  opened s = go (eqb (first (faults s)) 0)
    where
      go : (b : Bool) → Without n (prints_in (cond b (Ok s) (Err (refusal (first (faults s))))))
      go true = no_line n
      go false = one_line n _ (faulty s)

  -- "A bad or missing settings line prints one line, with t 0 and code 14 or 1 to 4"
  pub opening-line : (line : List ℕ) → Without n (prints_in (opening_of line))
  unfolding opening_of
  opening-line line = go (read_settings line)
    where
      go : (c : Option SettingsLine) → Without n (prints_in (opening_in c))
      go None = one_line n _ bad
      go (Some l) = opened (settings_of l.window l.bucket l.factor l.cache)

  -- where no call of such a stand has it
  pub turn-line : (P : Stand) → ((g : Program) (s : Settings) (a b line : List ℕ) → P (Open g s) a b → (stepped_by g s a b line).answer.code ≢ n) →
      (p : Phase) (a b line : List ℕ) → P p a b → Without n (turn p a b line).prints
  unfolding turn
  turn-line P h (Waiting g) a b line k = opening-line line
  turn-line P h (Open g s) a b line k = one_line n _ (h g s a b line k)
  turn-line P h Ended a b line k = no_line n
