-- A sound room stays sound: its lengths are right and every slot in use is a party's and sound (`SoundRoom`) after any call, refused or not, if they were
-- before it (`StaysSound`). A call on a sound room is not answered 5, whatever it is (`sound-unmet`), and an empty room is sound. So no call is ever
-- answered 5 where only these calls, with these settings, have written (`NeverFive`).
-- Assumes nothing.
use Rattle.std.specs.Prelude.{◌≡◌, refl, Bool, true, false, ◌&&◌, List, ◌≢◌, ℕ, zero, suc, ◌<◌}
use Rattle.std.proofs.Common.{sym, ◌∙◌, arith}
use Rattle.std.proofs.Math.Decide.{ℕ_discrete}
use Rattle.base.specs.Decides.{true-and}
use Rattle.answers.specs.Rows.{read_out_row, number_of}
use Rattle.settings.specs.Settings.{faults}
use Rattle.settings.specs.declared.Settings.{Settings}
use Rattle.ring.specs.declared.Bucket.{Bucket}
use Rattle.room.specs.Room.{Room, slots_of, holder_of, sized}
use Rattle.room.specs.Laws.{room-sized}
use Rattle.parties.specs.declared.Caller.{Caller}
use Rattle.parties.specs.Parties.{Sent, ours, turns}
use Rattle.rules.specs.declared.RoomKind.{RoomKind}
use Rattle.rules.specs.declared.RoomKind.TheVariants.{Absolute, Suppressed}
use Rattle.rules.specs.Sets.{rate_turns}
use Rattle.judge.specs.Judge as Judge
use Rattle.base.specs.Every.{every}
use Rattle.cleanup.specs.Cleanup as Cleanup
use Rattle.cleanup.specs.Cleanup.{slot_passes, all_pass}
use Rattle.cleanup.specs.Laws.{passes-free, passes-used}
use Rattle.clearing.specs.Clear as Clear
use Rattle.readout.specs.ReadOut as ReadOut
use Rattle.places.specs.SoundRoom.{SoundRoom, five-unmet}
use Rattle.steps.proofs.Each.{step}
use Rattle.steps.specs.Order.{met}
use Rattle.steps.proofs.Order.{not-given}
use Rattle.steps.specs.Ops as Ops
use Rattle.steps.specs.Ops.{Op, Call, Keyed, AllKeyed, after, answer_number, words}
use Rattle.steps.proofs.Sound.{step-sound}
use Rattle.steps.specs.Table.{table_of, clears, cleans_both}
use Rattle.steps.proofs.Table.{unmet}
use Rattle.promises.specs.Refusals.{reads}
use Rattle.promises.proofs.Refusals.{demand1}
use Rattle.promises.specs.Sound.{StaysSound, OtherSound}

pub stays-sound : StaysSound
stays-sound kind s w t op by o = step-sound kind s w t op (after kind s w t op) o (step kind s w t op by)

-- ---- a call on a sound room is not answered 5

-- "Cleanup judges every slot in use"
each-passes : (p : ℕ → Bool) (n : ℕ) → ((i : ℕ) → i < n → p i ≡ true) → every p n ≡ true
unfolding every
each-passes p zero f = refl
each-passes p (suc n) f = true-and (every p n) (p n) (each-passes p n (λ i h. f i (omega arith))) (f n (omega arith))

clean-unmet : (kind : RoomKind) (s : Settings) (w : List ℕ) → SoundRoom kind s w → sized w && (ours w && all_pass kind s w) ≡ true
clean-unmet kind s w o =
    true-and (sized w) _ (room-sized w o.room)
    (true-and (ours w) _ o.theirs (each-passes (slot_passes kind s w) (slots_of w) (λ i h. go i h (ℕ_discrete (holder_of w i) 0))))
  where
    go : (i : ℕ) → i < slots_of w → Dec (holder_of w i ≡ 0) → slot_passes kind s w i ≡ true
    go i h (yes e) = sym (passes-free kind s w i e)
    go i h (no n) = passes-used kind s w i n ∙ o.slots i h n

pub both-unmet : (s : Settings) (a b : List ℕ) (t : ℕ) (c d : Caller) → SoundRoom Absolute s a → SoundRoom Suppressed s b → met (cleans_both s a b t c d) 5 ≡ false
unfolding met faults
both-unmet s a b t c d o p = rw (clean-unmet Absolute s a o, clean-unmet Suppressed s b p)

-- "clear judges lengths only", and that no "slot in use is neither party's"
clear-fails : (s : Settings) (w : List ℕ) (t : ℕ) (who : Caller) → Room w → ours w ≡ true → met (clears s w t who) 5 ≡ false
unfolding met faults turns Clear.unclear
clear-fails s w t who o theirs = rw (room-sized w o, theirs)

-- the condition of 5 does not hold
five-fails : (kind : RoomKind) (s : Settings) (w : List ℕ) (t : ℕ) (op : Op kind) → SoundRoom kind s w → OtherSound kind s op →
    met (table_of kind s w t op) 5 ≡ false
unfolding met faults rate_turns turns Judge.misfits Cleanup.misfits
five-fails kind s w t (Ops.inc key rate count) o b = rw (five-unmet kind s w key o)
five-fails kind s w t (Ops.is_allowed key) o b = rw (five-unmet kind s w key o)
five-fails kind s w t (Ops.get key) o b = rw (five-unmet kind s w key o)
five-fails kind s w t (Ops.draws key rate count draw) o b = rw (five-unmet kind s w key o)
five-fails kind s w t (Ops.snapshot key) o b = rw (five-unmet kind s w key o)
five-fails kind s w t (Ops.get_factor key) o b = rw (five-unmet kind s w key o)
five-fails kind s w t (Ops.set_rate key rate) o b = rw (five-unmet kind s w key o)
five-fails kind s w t (Ops.set key rate comparator count mode) o b = rw (five-unmet kind s w key o)
five-fails kind s w t (Ops.delete key) o b = rw (five-unmet kind s w key o)
five-fails kind s w t (Ops.cleanup who stale) o b = rw (clean-unmet kind s w o)
five-fails Absolute s w t (Ops.cleanup_both who other whose stale) o b = both-unmet s w other t who whose o (b who other whose stale refl)
five-fails Suppressed s w t (Ops.cleanup_both who other whose stale) o b = both-unmet s other w t whose who (b who other whose stale refl) o
five-fails kind s w t (Ops.clear who) o b = clear-fails s w t who o.room o.theirs

pub sound-unmet : (kind : RoomKind) (s : Settings) (w : List ℕ) (t : ℕ) (op : Op kind) → SoundRoom kind s w → OtherSound kind s op →
    answer_number kind s w t op ≢ 5
sound-unmet kind s w t op o b = unmet kind s w t op 5 (λ z. omega (arith, z)) (five-fails kind s w t op o b)

-- clear is not, whatever its slots hold, where each that is in use is a party's
pub clear-unmet : (kind : RoomKind) (s : Settings) (w : List ℕ) (t : ℕ) (who : Caller) → Room w → ours w ≡ true → answer_number kind s w t (Ops.clear who) ≢ 5
clear-unmet kind s w t who o theirs = unmet kind s w t (Ops.clear who) 5 (λ z. omega (arith, z)) (clear-fails s w t who o theirs)

pub read-unmet : (kind : RoomKind) (s : Settings) (w : List ℕ) (key : Sent) (cells : List Bucket) → SoundRoom kind s w →
    number_of (read_out_row (ReadOut.read_out kind s w key cells).answer) ≢ 5
unfolding met faults
read-unmet kind s w key cells o =
    not-given (reads kind s w key) _ _ _ (demand1.read_out kind s w key cells) 5 (λ z. omega (arith, z)) (rw (five-unmet kind s w key o))
