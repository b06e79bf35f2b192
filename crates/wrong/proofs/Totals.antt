-- Made-up totals, given by `get` or stored, of either limiter: they break demand 2, or the room is unsound.
-- Assumes nothing.
use Rattle.std.specs.Prelude.{◌≡◌, List, ◌≢◌, ℕ, get_or, set, Result}
use Rattle.std.proofs.Common.{sym, ap, ◌∙◌, arith}
use Rattle.answers.specs.Rows.{refused_row, snapshot_row, total_row}
use Rattle.common.specs.Refusals.{first}
use Rattle.settings.specs.Settings.{ten_seconds, faults}
use Rattle.settings.specs.declared.Settings.{Settings}
use Rattle.parties.specs.Parties.{Sent, turns}
use Rattle.rules.specs.declared.RoomKind.TheVariants.{Absolute, Suppressed}
use Rattle.judge.specs.Judge.{misfits}
use Rattle.judge.specs.Verdict.{Verdict}
use Rattle.steps.specs.Ops.{get, snapshot}
use Rattle.steps.specs.Table.{plain}
use Rattle.promises.proofs.Refusals.{demand1}
use Rattle.promises.specs.Rules.{TotalByRules, SnapshotByRules}
use Rattle.promises.proofs.Rules.{demand2}
use Rattle.promises.specs.Cases.{hard_by, key, aget, ten, sget, twenty}
use Rattle.promises.proofs.Boundary.{boundary, further}
use Rattle.steps.proofs.Order.{taken}
use Rattle.wrong.proofs.Limiters.{key-bytes}
use Rattle.common.specs.declared.refusal.Refusal.{Refusal}
use Rattle.answers.specs.declared.SuppressedRateLimitSnapshot.{SuppressedRateLimitSnapshot}

-- ---- given: the total is the third number of a row

-- of the 10 at reading 0, at an age of one window
ten-passes : first (plain Absolute ten_seconds ten 10000 key) ≡ 0
unfolding faults misfits turns total_row
ten-passes =
    taken (plain Absolute ten_seconds ten 10000 key) (omega arith) _ _ _ (demand1.calls Absolute ten_seconds ten 10000 (get key))
    (ap (λ (a : Result ℕ Refusal). get_or (total_row a) 0 0) boundary.live-10000)

pub telling-breaks-the-absolute-sums : (g : Settings → List ℕ → ℕ → Sent → Verdict (Result ℕ Refusal)) →
    get_or (total_row (g ten_seconds ten 10000 key).answer) 2 0 ≢ 10 → TotalByRules g → ⊥
unfolding total_row
telling-breaks-the-absolute-sums g h p =
    h (ap (λ (a : Result ℕ Refusal). get_or (total_row a) 2 0) ((p ten_seconds ten 10000 key ten-passes).answer ∙
    sym (demand2.absolute-get ten_seconds ten 10000 key ten-passes).answer ∙ boundary.live-10000))

-- of the 20 at reading 0, at the same reading
twenty-passes : first (plain Suppressed (hard_by 2) twenty 0 key) ≡ 0
unfolding faults misfits turns snapshot_row
twenty-passes =
    taken (plain Suppressed (hard_by 2) twenty 0 key) (omega arith) _ _ _ (demand1.calls Suppressed (hard_by 2) twenty 0 (snapshot key))
    (ap (λ (a : Result SuppressedRateLimitSnapshot Refusal). get_or (snapshot_row a) 0 0) further.twenty-given)

pub telling-breaks-the-sums : (g : Settings → List ℕ → ℕ → Sent → Verdict (Result SuppressedRateLimitSnapshot Refusal)) →
    get_or (snapshot_row (g (hard_by 2) twenty 0 key).answer) 2 0 ≢ 20 → SnapshotByRules g → ⊥
unfolding snapshot_row
telling-breaks-the-sums g h p =
    h (ap (λ (a : Result SuppressedRateLimitSnapshot Refusal). get_or (snapshot_row a) 2 0) ((p (hard_by 2) twenty 0 key key-bytes twenty-passes).known-answer further.twenty-known ∙
    sym ((demand2.suppressed-get (hard_by 2) twenty 0 key key-bytes twenty-passes).known-answer further.twenty-known) ∙ further.twenty-given))

-- ---- stored: whatever it is, the slot is unsound and the next call is turned away with 5. So `NeverFive` does not hold of any words

pub storing-breaks-the-absolute-sums : (n : ℕ) → n ≢ 10 → total_row (aget 0 (set ten 12 n)).answer ≡ refused_row 5
unfolding total_row
storing-breaks-the-absolute-sums n h = rw (further.absolute-made-up n h)

pub storing-breaks-the-sums : (n : ℕ) → n ≢ 20 → snapshot_row (sget 0 (set twenty 12 n)).answer ≡ refused_row 5
unfolding snapshot_row
storing-breaks-the-sums n h = rw (further.made_up n h)
