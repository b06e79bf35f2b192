-- `desk` and `shots` print no code 12 where their rings suffice (document 02, ticket 4): so at a window of 30 s and buckets of 100 ms (ticket 5), whatever
-- lines come. Of `desk`'s rooms each has a history of calls, the room of `shots` one of shots through a gateway: what is promised of these is promised of it.
-- Assumes nothing.
use Rattle.std.specs.Prelude.{◌≡◌, refl, Bool, true, false, cond, List, [], ◌∷◌, ◌++◌, ◌≢◌, ℕ, ◌-◌, ◌≤◌, eqb, length, Option, Some, None, Result, Ok, Err}
use Rattle.std.proofs.Common.{sym, ap, subst, ◌∙◌, arith}
use Rattle.std.proofs.lemmas.Bool.{false≢true}
use Rattle.fields.specs.Ranges.{largest, exact_largest}
use Rattle.common.specs.Refusals.{first, refusal}
use Rattle.common.specs.declared.refusal.Refusal.{Refusal}
use Rattle.settings.specs.Settings.{defaults, defaults-unrefused, faults}
use Rattle.settings.specs.declared.Settings.{Settings}
use Rattle.ring_length.specs.RingLength.{sufficient_ring}
use Rattle.rules.specs.declared.RoomKind.{RoomKind}
use Rattle.rules.specs.declared.RoomKind.TheVariants.{Absolute, Suppressed}
use Rattle.room.specs.Room.{length_of, fits}
use Rattle.parties.specs.Parties.{sent}
use Rattle.table.specs.Table.{empty_table}
use Rattle.lines.specs.Laws.{key_in, CallRead, call-read, settings-shown}
use Rattle.lines.specs.Reading.{read_call, read_settings}
use Rattle.lines.specs.Shown.{show_settings}
use Rattle.lines.specs.declared.CallLine.{CallLine}
use Rattle.lines.specs.declared.SettingsLine.{SettingsLine}
use Rattle.shot_lines.specs.Laws.{ShotRead, shot-read}
use Rattle.shot_lines.specs.Reading.{read_shot}
use Rattle.shot_lines.specs.declared.ShotLine.{ShotLine}
use Rattle.told.specs.Told.{bad_line}
use Rattle.desk_lines.specs.Lines.{alone, per_minute}
use Rattle.desk_step.specs.Desk as Calls
use Rattle.desk_step.specs.Desk.{open_with, opening_in, opening_of}
use Rattle.shots_step.specs.Shots as Shots
use Rattle.desk_turn.specs.declared.Program.{Program}
use Rattle.desk_turn.specs.declared.Program.TheVariants as program
use Rattle.desk_turn.specs.declared.Phase.{Phase}
use Rattle.desk_turn.specs.declared.Phase.TheVariants.{Waiting, Open, Ended}
use Rattle.desk_turn.specs.Lines.{newline, phase_in, prints_in, stepped_by, turn}
use Rattle.desk_feed.specs.Clauses.{slots_of, ring_length, new_first, new_second}
use Rattle.desk_laws.specs.Whole.{input_lines, turns, printed, program-prints, settings-first}
use Rattle.desk_laws.specs.Lines.{Without, shot-code, no_line, more-lines, all_lines}
use Rattle.desk_laws.specs.Asks.{plain-bytes, call-code, opening-line, turn-line}
use Rattle.steps.specs.Ops.{verdict_of}
use Rattle.steps.specs.Order.{met}
use Rattle.steps.proofs.Order.{first-met}
use Rattle.rings.specs.Rings.{Meets}
use Rattle.rings.proofs.Rings.{necessary}
use Rattle.through.specs.Events.{Event, shot, Lent, lent, left}
use Rattle.through.specs.Events as Through
use Rattle.through.specs.Rings.{number_in}
use Rattle.through.proofs.Rings.{through-never-full}
use Rattle.desk_rings.specs.Rings.{Enough, first_of, NeverFull, new-left, program-fits, DeskStands, asks-untold, call-stands, ShotsStands, StandsBy, Opened, default_line}

-- ---- `desk`

desk-step : (s : Settings) (a b line : List ℕ) (c : Option CallLine) → CallRead line c → DeskStands s a b →
    let v = Calls.step_of s a b line c in (sufficient_ring s ≤ ring_length → v.answer.code ≢ 12) × DeskStands s v.first v.second
desk-step s a b line None p h = (λ enough e. omega (arith, e), h)
desk-step s a b line (Some l) p h =
    let key = key_in line l.start l.end in (
      λ enough e. asks-untold s a b l.t key l.rate l.n l.draw h enough l.op (sym (call-code s a b l.t l.op key l.rate l.n l.draw) ∙ e),
      call-stands s a b l.t key l.rate l.n l.draw h (plain-bytes key p.fits.keys.plain) l.op,
    )

-- ---- `shots`

shot-step : (s : Settings) (w r line : List ℕ) (c : Option ShotLine) → ShotRead line c → ShotsStands s w r →
    let v = Shots.step_of s w r line c in (sufficient_ring s ≤ ring_length → v.answer.code ≢ 12) × ShotsStands s v.first v.second
unfolding Shots.shot_of
shot-step s w r line None p h = (λ enough e. omega (arith, e), h)
shot-step s w r line (Some l) p h =
    let e : Event = shot l.t (sent (alone r) (key_in line l.start l.end)) l.number (per_minute l.rate) l.draw in (
      λ enough f.
          subst (λ (x : Lent). number_in s x e ≢ 12) (sym h.lent_is)
          (through-never-full s (slots_of program.Shots) ring_length (length_of (slots_of program.Shots) ring_length) empty_table (program-fits program.Shots) enough
          h.events h.keyed e)
          (sym (shot-code l.t _ _) ∙ f),
      record {
        events = e ∷ h.events;
        keyed = (plain-bytes (key_in line l.start l.end) p.fits.keys.plain, h.keyed);
        lent_is = ap (λ (x : Lent). Through.after s x e) h.lent_is;
      },
    )

-- ---- all lines

step-stands : (g : Program) (s : Settings) (a b line : List ℕ) → StandsBy g s a b →
    let v = stepped_by g s a b line in (sufficient_ring s ≤ ring_length → v.answer.code ≢ 12) × StandsBy g s v.first v.second
unfolding stepped_by Calls.stepped Shots.stepped
step-stands program.Desk s a b line h = desk-step s a b line (read_call line) (call-read line) h
step-stands program.Shots s a b line h = shot-step s a b line (read_shot line) (shot-read line) h

turn-opened : (p : Phase) (a b line : List ℕ) → Opened p a b → let e = turn p a b line in Opened e.phase e.first e.second
unfolding turn
turn-opened (Waiting g) a b line h = absurd h
turn-opened (Open g s) a b line h = (h.0, (step-stands g s a b line h.1).1)
turn-opened Ended a b line h = h

faulty : (s : Settings) → first (faults s) ≢ 12
unfolding faults met
faulty s e =
    let unmet : met (faults s) 12 ≡ false = refl in
    false≢true (sym unmet ∙ ap (met (faults s)) (sym e) ∙ first-met (faults s) (λ z. omega (arith, z, e)))

new-stands : (g : Program) (s : Settings) → StandsBy g s (new_first g) (new_second g)
new-stands program.Desk s = record { absolute = new-left Absolute s _; suppressed = new-left Suppressed s _ }
new-stands program.Shots s = record { events = []; keyed = tt; lent_is = refl }

opens : (g : Program) (o : Result Settings Refusal) → Enough o → Opened (phase_in g o) (new_first g) (new_second g)
opens g (Ok s) h = (h, new-stands g s)
opens g (Err e) h = tt

lines-never : (g : Program) (ls : List (List ℕ)) → Enough (opening_of (first_of ls)) → Without 12 (turns (Waiting g) (new_first g) (new_second g) ls)
unfolding turns turn
lines-never g [] h = no_line 12
lines-never g (line ∷ more) h =
    let bad : bad_line ≢ 12 = λ e. omega (arith, e) in
    more-lines 12 (prints_in (opening_of line)) (turns (phase_in g (opening_of line)) (new_first g) (new_second g) more) (opening-line 12 bad faulty line)
    (all_lines 12 Opened (turn-line 12 bad faulty Opened (λ g s a b line k. (step-stands g s a b line k.1).0 k.0)) turn-opened
    (phase_in g (opening_of line)) (new_first g) (new_second g) more (opens g (opening_of line) h))

pub never-full : (g : Program) → NeverFull g
never-full g h xs e enough = subst (Without 12) (sym (program-prints g h xs e)) (lines-never g (input_lines [] xs) enough)

-- ---- at a window of 30 s and buckets of 100 ms, whatever factor and cache period are

-- the programs' rings are those that the defaults need, to the bucket
pub by-the-defaults : sufficient_ring defaults ≡ ring_length
by-the-defaults = refl

-- with one bucket less a room of `desk` would meet 12
pub one-less-full : (kind : RoomKind) → Meets verdict_of kind defaults (slots_of program.Desk) (ring_length - 1)
unfolding fits
one-less-full kind =
    necessary kind defaults (slots_of program.Desk) (ring_length - 1) (length_of (slots_of program.Desk) (ring_length - 1)) refl defaults-unrefused (omega arith)

enough-with : (s : Settings) → sufficient_ring s ≤ ring_length → Enough (open_with s)
unfolding open_with
enough-with s h = go (eqb (first (faults s)) 0)
  where
    go : (z : Bool) → Enough (cond z (Ok s) (Err (refusal (first (faults s)))))
    go true = h
    go false = tt

enough-then : (factor cache : ℕ) → Enough (opening_in (default_line factor cache))
enough-then factor cache = enough-with _ (omega arith)

pub thirty-seconds : (g : Program) (h xs : List ℕ) (factor cache : ℕ) → length h ≡ 200 →
    read_settings (first_of (input_lines [] xs)) ≡ default_line factor cache → Without 12 (printed g h xs)
unfolding opening_of
thirty-seconds g h xs factor cache e p = never-full g h xs e (subst (λ (c : Option SettingsLine). Enough (opening_in c)) (sym p) (enough-then factor cache))

-- in bytes: an input that begins with `window=30 bucket=100 factor=.. cache=..` and a newline, whatever comes behind
pub thirty-seconds-shown : (g : Program) (h rest : List ℕ) (factor cache : ℕ) → length h ≡ 200 → factor ≤ exact_largest → cache ≤ largest →
    Without 12 (printed g h (show_settings 30 100 factor cache ++ (newline ∷ rest)))
thirty-seconds-shown g h rest factor cache e f c =
    thirty-seconds g h (show_settings 30 100 factor cache ++ (newline ∷ rest)) factor cache e
    (ap (λ (ls : List (List ℕ)). read_settings (first_of ls)) (settings-first 30 100 factor cache rest) ∙
    settings-shown 30 100 factor cache (record { windows = omega arith; buckets = omega arith; factors = f; caches = c }))
