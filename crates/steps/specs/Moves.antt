-- What is known of a change that a call with a key makes: where it stands, which of the slot's buckets it starts from, and that what it stores is right.
-- x is the key's slot, opened at the reading.
-- Assumes nothing.
use Rattle.std.specs.Prelude.{◌≡◌, true, false, ◌&&◌, List, ℕ, leb}
use Rattle.suppression.specs.Factor.{factor_word_ok}
use Rattle.common.specs.Limits.{limit_ok}
use Rattle.settings.specs.Settings.{window_in, factor_in}
use Rattle.settings.specs.Clock.{join_ticks}
use Rattle.settings.specs.declared.Settings.{Settings}
use Rattle.keys.specs.declared.Key.{Key}
use Rattle.keys.specs.Keys.{key_fits}
use Rattle.parties.specs.Parties.{Sent, key_for}
use Rattle.change.specs.declared.Change.{Change}
use Rattle.change.specs.declared.Change.TheVariants.{Keep, Free, Update, Take}
use Rattle.edit.specs.declared.Edit.{Edit}
use Rattle.edit.specs.declared.Then.{Then}
use Rattle.edit.specs.declared.Then.TheVariants as then
use Rattle.change.specs.Words.{Applies}
use Rattle.rules.specs.declared.RoomKind.{RoomKind}
use Rattle.rules.specs.declared.RoomKind.TheVariants.{Absolute, Suppressed}
use Rattle.opened.specs.declared.Slot.{Slot}
use Rattle.judge.specs.Judge.{Passed, slot_in}
use Rattle.opened.specs.Sound.{has_series, has_cached, right_use}
use Rattle.rules.specs.Both.{divisor}
use Rattle.places.specs.Placed.{Owns, Lacks}

-- it is no set that preserves
abbrev pub Plain : Then → Type 0
Plain then.Nothing = Unit {0}
Plain (then.Increment c d) = Unit {0}
Plain (then.Replace n) = Unit {0}
Plain (then.Preserve p n) = ⊥

-- the buckets that an edit starts from: none, where a series begins; all of them; those that are not expired. A set that preserves starts from these
pub data From (x : Slot) (e : Edit) : Type 0 where
  opens : e.begins ≡ true → Plain e.then → From x e
  keeps : x.series ≡ true → e.begins ≡ false → e.gone ≡ 0 → Plain e.then → From x e
  evicts : x.series ≡ true → e.begins ≡ false → e.gone ≡ x.pass.expired → From x e

-- "zero in the absolute room"
abbrev pub Quiet : RoomKind → Then → Type 0
Quiet Suppressed then = Unit {0}
Quiet Absolute then.Nothing = Unit {0}
Quiet Absolute (then.Increment c d) = d ≡ 0
Quiet Absolute (then.Replace n) = Unit {0}
Quiet Absolute (then.Preserve p n) = Unit {0}

-- use, limit and cached factor are right, and what is declined
pub record Right (kind : RoomKind) (s : Settings) (t : ℕ) (e : Edit) : Type 0 where
  pub uses : right_use kind e.used ≡ true
  pub limit : has_series e.used ≡ true → limit_ok (window_in s) (divisor kind (factor_in s)) e.limit ≡ true
  pub factor : has_cached e.used ≡ true → factor_word_ok e.factor && leb e.factor_time t ≡ true
  pub quiet : Quiet kind e.then

pub record Updates (x : Slot) (w : List ℕ) (k : Key) (at : ℕ) (e : Edit) : Type 0 where
  pub owns : Owns w at k
  pub place : x.at ≡ at
  pub from : From x e

pub record Takes (w : List ℕ) (k : Key) (at : ℕ) (e : Edit) : Type 0 where
  pub lacks : Lacks w at k
  pub begins : e.begins ≡ true
  pub plain : Plain e.then
  pub fits : key_fits k ≡ true

abbrev pub Moves : Slot → List ℕ → Key → ℕ → Change → Type 0
Moves x w k at Keep = Unit {0}
Moves x w k at Free = Owns w at k
Moves x w k at (Update e) = Updates x w k at e
Moves x w k at (Take e) = Takes w k at e

abbrev pub Stores : RoomKind → Settings → ℕ → Change → Type 0
Stores kind s t Keep = Unit {0}
Stores kind s t Free = Unit {0}
Stores kind s t (Update e) = Right kind s t e
Stores kind s t (Take e) = Right kind s t e

-- a call that passed refusals 1 to 7, 15 and 16, and its change
pub record Does (kind : RoomKind) (s : Settings) (w : List ℕ) (t : ℕ) (key : Sent) (at : ℕ) (change : Change) : Type 0 where
  pub passed : Passed kind s w t key
  pub applies : Applies w at (join_ticks s) t change
  pub moves : Moves (slot_in s w t key) w (key_for key) at change
  pub stores : Stores kind s t change
