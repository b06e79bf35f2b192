-- Every line that `desk` prints reads back (document 02, ticket 1), on any input: from what `desk` prints (`desk_laws`). Between two lines its rooms are sound
-- and its one party's; so what it tells is in range, and the line is what is printed of that.
-- Assumes nothing.
use Rattle.std.specs.Prelude.{◌≡◌, Bool, true, false, not, cond, List, [], ◌∷◌, ◌++◌, ◌≢◌, ℕ, eqb, Option, Some, None, Ok, Err}
use Rattle.std.proofs.Math.Path.{refl}
use Rattle.std.proofs.Common.{sym, ap, ap₂, subst, ◌∙◌, append_assoc, append-nil, arith, eqb-true, ne_eqb}
use Rattle.std.proofs.lemmas.Bool.{false≢true, eqb-false}
use Rattle.std.proofs.Math.Decide.{ℕ_discrete}
use Rattle.fields.specs.Numbers.{Each, show_number, each_append, show-digits}
use Rattle.lines.specs.Laws.{key_in, CallRead, call-read}
use Rattle.lines.specs.Reading.{read_call, read_settings}
use Rattle.lines.specs.Shown.{t_text, factor_text}
use Rattle.lines.specs.declared.CallLine.{CallLine}
use Rattle.lines.specs.declared.Op as line_op
use Rattle.lines.specs.declared.Op.TheVariants.{AbsoluteInc, AbsoluteGet, SuppressedInc, SuppressedGet}
use Rattle.lines.specs.declared.SettingsLine.{SettingsLine}
use Rattle.common.specs.Refusals.{first, refusal}
use Rattle.settings.specs.Settings.{faults}
use Rattle.settings.specs.declared.Settings.{Settings}
use Rattle.layout.specs.Layout.{second_mark}
use Rattle.room.specs.Room.{length_of, fits, empty}
use Rattle.frame.specs.Keys.{Bytes}
use Rattle.parties.specs.Parties.{Sent, sent, mark_of}
use Rattle.rules.specs.declared.RoomKind.{RoomKind}
use Rattle.rules.specs.declared.RoomKind.TheVariants.{Absolute, Suppressed}
use Rattle.absolute_verdicts.specs.Calls as OnAbsolute
use Rattle.suppressed_verdicts.specs.Calls as OnSuppressed
use Rattle.steps.proofs.Each.{step}
use Rattle.steps.proofs.History.{step-sane, empty-sane}
use Rattle.steps.specs.Ops.{Op, Keyed, slot_of, touches, after}
use Rattle.apart.proofs.Own.{none-empty, none-step}
use Rattle.printing.specs.Answers.{code_text, answer_text, wait_text, left_text, total_text, declined_text, show_hex16, show_verdict, show_counts, show_answer}
use Rattle.printing.specs.declared.Answer.{Answer}
use Rattle.printing.specs.declared.Answer.TheVariants.{Allowed, Rejected, Yes, No, Value, Held, Refused}
use Rattle.printing.specs.declared.AnswerLine.{AnswerLine}
use Rattle.answer_lines.specs.Reading.{is_hex}
use Rattle.answer_lines.specs.Hex.{each-hex}
use Rattle.told.specs.Told.{bad_line, decided, live, snapped, refused_line, line_of}
use Rattle.told.specs.Range.{RefusalFits, ToldFits, Fits}
use Rattle.told.specs.declared.Told.{Told}
use Rattle.told.specs.declared.Told.TheVariants as told
use Rattle.told.specs.declared.ToldLine.{ToldLine}
use Rattle.desk_lines.specs.Lines.{alone, stored_of, decision_line, total_line, snapshot_line, per_minute}
use Rattle.desk_step.specs.Desk as Calls
use Rattle.desk_step.specs.Desk.{open_with, opening_in, opening_of, settings_of}
use Rattle.desk_turn.specs.declared.Program.TheVariants as program
use Rattle.desk_turn.specs.declared.Phase.{Phase}
use Rattle.desk_turn.specs.declared.Phase.TheVariants.{Waiting, Open, Ended}
use Rattle.desk_turn.specs.Lines.{newline, shown, phase_in, prints_in, stepped_by, turn}
use Rattle.desk_feed.specs.Clauses.{slots_of, ring_length, new_first, new_second}
use Rattle.desk_laws.specs.Whole.{call_lines, input_lines, printed, program-prints, in_line, all_in_line, text_in-line, digits-in-line, next-line}
use Rattle.desk_laws.specs.Lines.{texts, texts-both, all-turns}
use Rattle.desk_laws.specs.Asks.{kind_of, room_of, op_of, plain-bytes}
use Rattle.desk_reads.specs.Range.{OwnRoom}
use Rattle.desk_reads.proofs.Range.{stored-fits, absolute-inc-fits, absolute-get-fits, suppressed-inc-fits, suppressed-get-fits, fault-fits}
use Rattle.desk_reads.specs.Reads.{EachReads, AllRead, EachTells, Telling, DeskStands, Stands}

no_line : Telling []
no_line = record { lines = []; text = refl; each = tt }

one_line : (l : ToldLine) → Fits l → Telling (shown (line_of l))
one_line l f = record {
  lines = line_of l ∷ [];
  text = sym (append-nil (shown (line_of l)));
  each = (record { tells = l; reads = record { in-range = f; prints = refl } }, tt);
}

tells_both : (ls ms : List AnswerLine) → EachTells ls → EachTells ms → EachTells (ls ++ ms)
tells_both [] ms p q = q
tells_both (l ∷ ls) ms p q = (p.0, tells_both ls ms p.1 q)

more-lines : (xs ys : List ℕ) → Telling xs → Telling ys → Telling (xs ++ ys)
more-lines xs ys p q = record {
  lines = p.lines ++ q.lines;
  text = ap₂ ◌++◌ p.text q.text ∙ texts-both p.lines q.lines;
  each = tells_both p.lines q.lines p.each q.each;
}

-- ---- a line has no newline in it

hex-in-line : (bs : List ℕ) → Each is_hex bs → Each in_line bs
unfolding is_hex
hex-in-line [] p = tt
hex-in-line (b ∷ bs) p = (ap not (go (ℕ_discrete b newline)), hex-in-line bs p.1)
  where
    go : Dec (b ≡ newline) → eqb b newline ≡ false
    go (yes e) = absurd (false≢true (sym (ap is_hex e) ∙ p.0))
    go (no n) = ne_eqb b newline n

word-in-line : (a : Answer) → Each in_line (answer_text a)
word-in-line Allowed = text_in-line (answer_text Allowed) refl
word-in-line Rejected = text_in-line (answer_text Rejected) refl
word-in-line Yes = text_in-line (answer_text Yes) refl
word-in-line No = text_in-line (answer_text No) refl
word-in-line Value = text_in-line (answer_text Value) refl
word-in-line Held = text_in-line (answer_text Held) refl
word-in-line Refused = text_in-line (answer_text Refused) refl

text-then : (text rest : List ℕ) → all_in_line text ≡ true → Each in_line rest → Each in_line (text ++ rest)
text-then text rest e r = each_append in_line text rest (text_in-line text e) r

last-field : (text : List ℕ) (n : ℕ) → all_in_line text ≡ true → Each in_line (text ++ show_number n)
last-field text n e = text-then text (show_number n) e (digits-in-line (show_number n) (show-digits false n))

field-then : (text : List ℕ) (n : ℕ) (rest : List ℕ) → all_in_line text ≡ true → Each in_line rest → Each in_line ((text ++ show_number n) ++ rest)
field-then text n rest e r = each_append in_line (text ++ show_number n) rest (last-field text n e) r

answer-in-line : (l : AnswerLine) → Each in_line (show_answer l)
unfolding show_answer show_verdict show_counts
answer-in-line l =
    let declined = declined_text ++ show_number l.declined in
    let totals = (total_text ++ show_number l.total) ++ declined in
    let lefts = (left_text ++ show_number l.left) ++ totals in
    let factor = factor_text ++ show_hex16 l.factor in
    let answered = answer_text l.answer ++ factor in
    let coded = (code_text ++ show_number l.code) ++ answered in
    each_append in_line ((t_text ++ show_number l.t) ++ coded) ((wait_text ++ show_number l.wait) ++ lefts)
    (field-then t_text l.t coded refl (field-then code_text l.code answered refl
    (each_append in_line (answer_text l.answer) factor (word-in-line l.answer)
    (text-then factor_text (show_hex16 l.factor) refl (hex-in-line (show_hex16 l.factor) (each-hex 16 l.factor))))))
    (field-then wait_text l.wait lefts refl (field-then left_text l.left totals refl
    (field-then total_text l.total declined refl (last-field declined_text l.declined refl))))

-- so cutting at newlines gives the lines
cut-reads : (ls : List AnswerLine) → EachTells ls → EachReads (call_lines [] (texts ls))
unfolding call_lines shown
cut-reads [] p = tt
cut-reads (l ∷ ls) p =
    let e : call_lines [] ((show_answer l ++ (newline ∷ [])) ++ texts ls) ≡ show_answer l ∷ call_lines [] (texts ls) =
    ap (call_lines []) (append_assoc (show_answer l) (newline ∷ []) (texts ls)) ∙ next-line [] (show_answer l) (texts ls) (answer-in-line l) in
    subst EachReads (sym e) (p.0, cut-reads ls p.1)

told-reads : (bytes : List ℕ) → Telling bytes → EachReads (call_lines [] bytes)
told-reads bytes p = subst (λ (xs : List ℕ). EachReads (call_lines [] xs)) (sym p.text) (cut-reads p.lines p.each)

room-empty : (kind : RoomKind) (s : Settings) → OwnRoom kind s (empty (slots_of program.Desk) ring_length)
unfolding fits
room-empty kind s = record {
  sane = empty-sane kind s (slots_of program.Desk) ring_length (length_of (slots_of program.Desk) ring_length) refl;
  own = none-empty second_mark (λ e. omega (arith, e)) (slots_of program.Desk) ring_length;
}

-- a call of the one party leaves the room so
room_after : (kind : RoomKind) (s : Settings) (w : List ℕ) (t : ℕ) (op : Op kind) → Keyed op →
    ((key : Sent) → touches op ≡ slot_of key → mark_of key.caller.party ≢ second_mark) → OwnRoom kind s w → OwnRoom kind s (after kind s w t op)
room_after kind s w t op k f r =
    let m = step kind s w t op k in
    record {
      sane = step-sane kind s w t op (after kind s w t op) r.sane m;
      own = none-step second_mark (λ e. omega (arith, e)) kind s w t r.own op (after kind s w t op) f m;
    }

slot-key : (a b : Sent) → slot_of a ≡ slot_of b → a ≡ b
slot-key a b e = cc

-- a slot that a call of the one party touches is its own
mine : (w key : List ℕ) (k : Sent) → slot_of (sent (alone w) key) ≡ slot_of k → mark_of k.caller.party ≢ second_mark
mine w key k e f = omega (arith, ap (λ (j : Sent). mark_of j.caller.party) (slot-key (sent (alone w) key) k e) ∙ f)

module _ (s : Settings) (a b : List ℕ) (t : ℕ) (key : List ℕ) (rate n draw : ℕ) (y : Bytes key) (h : DeskStands s a b) where
  left : (op : line_op.Op) → OwnRoom (kind_of op) s (after (kind_of op) s (room_of op a b) t (op_of op (room_of op a b) key rate n draw))
  left AbsoluteInc = room_after Absolute s a t (op_of AbsoluteInc a key rate n draw) y (mine a key) h.absolute
  left AbsoluteGet = room_after Absolute s a t (op_of AbsoluteGet a key rate n draw) tt (mine a key) h.absolute
  left SuppressedInc = room_after Suppressed s b t (op_of SuppressedInc b key rate n draw) y (mine b key) h.suppressed
  left SuppressedGet = room_after Suppressed s b t (op_of SuppressedGet b key rate n draw) tt (mine b key) h.suppressed

  -- what is told of the call
  abbrev tell : line_op.Op → Told
  tell AbsoluteInc = let v = OnAbsolute.inc s a t (sent (alone a) key) (per_minute rate) n in decided v.answer (stored_of v.words key)
  tell AbsoluteGet = live (OnAbsolute.get s a t (sent (alone a) key)).answer
  tell SuppressedInc = let v = OnSuppressed.inc s b t (sent (alone b) key) (per_minute rate) n draw in decided v.answer (stored_of v.words key)
  tell SuppressedGet = let v = OnSuppressed.get s b t (sent (alone b) key) in snapped v.answer (stored_of v.words key)

  tell-fits : (op : line_op.Op) → ToldFits t (tell op)
  tell-fits AbsoluteInc =
      absolute-inc-fits s a t h.fine key h.absolute (per_minute rate) n _ (stored-fits Absolute s _ (left AbsoluteInc).sane.sound key)
  tell-fits AbsoluteGet = absolute-get-fits s a t h.fine key h.absolute
  tell-fits SuppressedInc =
      suppressed-inc-fits s b t h.fine key h.suppressed y (per_minute rate) n draw _ (stored-fits Suppressed s _ (left SuppressedInc).sane.sound key)
  tell-fits SuppressedGet =
      suppressed-get-fits s b t h.fine key h.suppressed y _ (stored-fits Suppressed s _ (left SuppressedGet).sane.sound key)

  call_line : (op : line_op.Op) → (Calls.call_of s a b t op key rate n draw).answer ≡ line_of (record { t = t; told = tell op })
  unfolding Calls.call_of Calls.absolute_inc Calls.absolute_get Calls.suppressed_inc Calls.suppressed_get decision_line total_line snapshot_line
  call_line AbsoluteInc = refl
  call_line AbsoluteGet = refl
  call_line SuppressedInc = refl
  call_line SuppressedGet = refl

  call-stands : (op : line_op.Op) → let v = Calls.call_of s a b t op key rate n draw in DeskStands s v.first v.second
  unfolding Calls.call_of Calls.absolute_inc Calls.absolute_get Calls.suppressed_inc Calls.suppressed_get
  call-stands AbsoluteInc = record { fine = h.fine; absolute = left AbsoluteInc; suppressed = h.suppressed }
  call-stands AbsoluteGet = record { fine = h.fine; absolute = left AbsoluteGet; suppressed = h.suppressed }
  call-stands SuppressedInc = record { fine = h.fine; absolute = h.absolute; suppressed = left SuppressedInc }
  call-stands SuppressedGet = record { fine = h.fine; absolute = h.absolute; suppressed = left SuppressedGet }

refused-line : (n : ℕ) → RefusalFits 0 n → Telling (shown (refused_line 0 n))
unfolding line_of
refused-line n f = one_line (record { t = 0; told = told.Refused n }) (record { time = omega arith; told = f })

-- "14 at t=0"
bad-fits : RefusalFits 0 bad_line
bad-fits = record { some = omega arith; most = omega arith; at_zero = λ e. refl }

-- ---- a turn

desk-step : (s : Settings) (a b line : List ℕ) (c : Option CallLine) → CallRead line c → DeskStands s a b →
    let v = Calls.step_of s a b line c in Telling (shown v.answer) × DeskStands s v.first v.second
desk-step s a b line None p h = (refused-line bad_line bad-fits, h)
desk-step s a b line (Some l) p h =
    let key = key_in line l.start l.end in
    let y = plain-bytes key p.fits.keys.plain in (
      subst (λ (m : AnswerLine). Telling (shown m)) (sym (call_line s a b l.t key l.rate l.n l.draw y h l.op))
          (one_line (record { t = l.t; told = tell s a b l.t key l.rate l.n l.draw y h l.op })
          (record { time = p.fits.times; told = tell-fits s a b l.t key l.rate l.n l.draw y h l.op })),
      call-stands s a b l.t key l.rate l.n l.draw y h l.op,
    )

open-with : (s : Settings) → let o = open_with s in
    Telling (prints_in o) × Stands (phase_in program.Desk o) (new_first program.Desk) (new_second program.Desk)
unfolding open_with
open-with s = go (eqb (first (faults s)) 0) refl
  where
    go : (z : Bool) → eqb (first (faults s)) 0 ≡ z →
        let o = cond z (Ok s) (Err (refusal (first (faults s)))) in
        Telling (prints_in o) × Stands (phase_in program.Desk o) (new_first program.Desk) (new_second program.Desk)
    go true e = (no_line, record { fine = eqb-true (first (faults s)) 0 e; absolute = room-empty Absolute s; suppressed = room-empty Suppressed s })
    go false e = (refused-line (first (faults s)) (fault-fits s (eqb-false (first (faults s)) 0 e)), tt)

opening-in : (c : Option SettingsLine) → let o = opening_in c in
    Telling (prints_in o) × Stands (phase_in program.Desk o) (new_first program.Desk) (new_second program.Desk)
opening-in None = (refused-line bad_line bad-fits, tt)
opening-in (Some l) = open-with (settings_of l.window l.bucket l.factor l.cache)

turn-reads : (p : Phase) (a b line : List ℕ) → Stands p a b → let e = turn p a b line in Telling e.prints × Stands e.phase e.first e.second
unfolding turn opening_of stepped_by Calls.stepped
turn-reads (Waiting program.Desk) a b line h =
    let o = opening-in (read_settings line) in (
      o.0,
      subst (λ (x : List ℕ). Stands (phase_in program.Desk (opening_in (read_settings line))) x b) (sym h.0)
          (subst (λ (x : List ℕ). Stands (phase_in program.Desk (opening_in (read_settings line))) (new_first program.Desk) x) (sym h.1) o.1),
    )
turn-reads (Waiting program.Shots) a b line h = absurd h
turn-reads (Open program.Desk s) a b line h = desk-step s a b line (read_call line) (call-read line) h
turn-reads (Open program.Shots s) a b line h = absurd h
turn-reads Ended a b line h = (no_line, tt)

-- ---- all lines

pub desk-reads-back : AllRead program.Desk
desk-reads-back h xs e =
    told-reads (printed program.Desk h xs)
    (subst Telling (sym (program-prints program.Desk h xs e))
    (all-turns Telling no_line more-lines Stands (λ p a b line k. (turn-reads p a b line k).0) (λ p a b line k. (turn-reads p a b line k).1)
    (Waiting program.Desk) (new_first program.Desk) (new_second program.Desk) (input_lines [] xs) (refl, refl)))
