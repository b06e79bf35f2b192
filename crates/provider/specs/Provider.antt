-- The provider's cleanup: what it answers, and what it leaves in both rooms. a and b are the absolute and the suppressed room, t the reading, stale the
-- stale time; c and d are the two rooms' callers.
-- Assumes nothing.
use Rattle.std.specs.Prelude.{◌≡◌, cond, List, ℕ, min, eqb, ltb, Result, Ok, Err}
use Rattle.settings.specs.Clock.{ticks_in}
use Rattle.settings.specs.declared.Settings.{Settings}
use Rattle.parties.specs.declared.Caller.{Caller}
use Rattle.rules.specs.declared.RoomKind.TheVariants.{Absolute, Suppressed}
use Rattle.cleanup.specs.Cleanup.{refusal}
use Rattle.stale.specs.Uses.{cleaned}
use Rattle.common.specs.Refusals.{refuse}
use Rattle.common.specs.declared.refusal.Refusal.{Refusal}

-- the lower of two refusals, where 0 is none
unfoldable pub lowest : ℕ → ℕ → ℕ
lowest m n = cond (eqb m 0) n (cond (eqb n 0) m (min m n))

-- the same of two judgements
unfoldable pub lower : Result (Unit {0}) Refusal → Result (Unit {0}) Refusal → Result (Unit {0}) Refusal
lower (Ok x) b = b
lower (Err m) (Ok x) = Err m
lower (Err m) (Err n) = cond (ltb m.0 n.0) (Err m) (Err n)

-- the lowest over both rooms
abbrev pub refusal_of_both : Settings → List ℕ → List ℕ → ℕ → Caller → Caller → ℕ
refusal_of_both s a b t c d = lowest (refusal Absolute s a t c) (refusal Suppressed s b t d)

-- an answer, and the words of both rooms
pub record Verdict : Type 0 where
  pub answer : Result (Unit {0}) Refusal
  pub absolute : List ℕ
  pub suppressed : List ℕ

-- refused with n, unless n is 0: "cleans both rooms or neither"; ticks is the number of ticks in a millisecond
unfoldable pub decided : ℕ → List ℕ → List ℕ → ℕ → ℕ → ℕ → Verdict
decided n a b t ticks stale = record {
  answer = cond (eqb n 0) (Ok tt) (refuse n);
  absolute = cond (eqb n 0) (cleaned a t ticks stale) a;
  suppressed = cond (eqb n 0) (cleaned b t ticks stale) b;
}

abbrev pub cleanup : Settings → List ℕ → List ℕ → ℕ → Caller → Caller → ℕ → Verdict
cleanup s a b t c d stale = decided (refusal_of_both s a b t c d) a b t (ticks_in s) stale

-- the answer and the words after are the verdict's
pub record Told (v : Verdict) (r : Result (Unit {0}) Refusal) (a b : List ℕ) : Type 0 where
  pub answer : r ≡ v.answer
  pub absolute : a ≡ v.absolute
  pub suppressed : b ≡ v.suppressed
