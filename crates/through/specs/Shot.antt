-- A shot as the limiter sees it: it is asked, for a count of 1, or it is not and its room stays.
-- Assumes nothing.
use Rattle.std.specs.Prelude.{◌≡◌, Bool, ◌&&◌, List, ◌≢◌, ◌⊎◌, ℕ, Ok}
use Rattle.std.proofs.Math.Bool.{false, not}
use Rattle.std.proofs.Math.Dec.{eqb}
use Rattle.answers.specs.Rows.{shot_row, number_of}
use Rattle.common.specs.Refusals.{first}
use Rattle.table.specs.Table.{sound_for}
use Rattle.gateway.specs.Gateway.{is_held, gate_turns, admits_shot, Verdict}
use Rattle.answers.specs.declared.ShotOutcome.TheVariants.{Held}

-- whether the limiter is asked: the table is sound, 19 to 21 are not met, and the shot is not held
unfoldable pub asks : List ℕ → List ℕ → ℕ → Bool
asks w key number = sound_for w key && (eqb (first (gate_turns w key number)) 0 && not (is_held w key number))

-- ---- a shot that the limiter is not asked about

-- it is held or refused, admits nothing, and leaves the room r
pub record Quiet (r : List ℕ) (v : Verdict) : Type 0 where
  pub room : v.room ≡ r
  pub none : admits_shot v.answer ≡ false
  pub said : (v.answer ≡ Ok Held) ⊎ (number_of (shot_row v.answer) ≢ 0)
