-- From an empty room no call is ever answered 5.
use Rattle.std.specs.Prelude.{◌≡◌, true, List, ℕ}
use Rattle.std.proofs.Common.{arith}
use Rattle.settings.specs.declared.Settings.{Settings}
use Rattle.room.specs.Room.{fits, empty}
use Rattle.rules.specs.declared.RoomKind.{RoomKind}
use Rattle.rules.specs.declared.RoomKind.TheVariants.{Absolute, Suppressed}
use Rattle.places.specs.SoundRoom.{SoundRoom}
use Rattle.steps.proofs.History.{empty-sane, history}
use Rattle.steps.proofs.Order.{not-given}
use Rattle.steps.specs.Ops.{Call, AllKeyed, words}
use Rattle.steps.specs.Table.{cleans_both}
use Rattle.promises.proofs.Refusals.{demand1}
use Rattle.promises.specs.Sound.{NeverFive}
use Rattle.promises.proofs.Sound.{both-unmet, read-unmet, sound-unmet}

-- ---- over whole histories

-- from an empty room of any size, after any calls with the same settings
module _ (kind : RoomKind) (s : Settings) (slots ring l : ℕ) (fit : fits slots ring l ≡ true) (calls : List (Call kind)) (by : AllKeyed calls) where
  pub always-sound : SoundRoom kind s (words kind s (empty slots ring) calls)
  always-sound = (history kind s (λ v. Unit {0}) (λ w t op v o p m. tt) (empty slots ring) (empty-sane kind s slots ring l fit) tt calls by).0.sound

pub never-five : NeverFive
never-five = record {
  calls = λ kind s slots ring l e made k t op b. sound-unmet kind s _ t op (always-sound kind s slots ring l e made k) b;
  provider-cleanup = λ s slots ring l e made k slots' ring' l' e' made' k' t c d stale.
      let a = words Absolute s (empty slots ring) made in
      let b = words Suppressed s (empty slots' ring') made' in
      not-given (cleans_both s a b t c d) _ _ _ (demand1.provider-cleanup s a b t c d stale) 5 (λ z. omega (arith, z))
      (both-unmet s a b t c d (always-sound Absolute s slots ring l e made k) (always-sound Suppressed s slots' ring' l' e' made' k'));
  read_out = λ kind s slots ring l e made k key cells. read-unmet kind s _ key cells (always-sound kind s slots ring l e made k);
}
