-- The tests are those of the lengths; the sum is small enough not to wrap.
use mathlib.Core.Path.{refl}
use native.Mathlib.Omega.{arith}
use Rattle.room.specs.Laws.{bodies-few}
use Rattle.abi.specs.Laws.{words-some, words-none}
use Rattle.abi.proofs.frostaxle_room_words.Goals as goal

pub returns-then-slots-lt1 : goal.returns-then-slots-lt1
returns-then-slots-lt1 c =
    words-none _ _ (λ o. omega (arith, o.one))

pub returns-then-slots-gt64 : goal.returns-then-slots-gt64
returns-then-slots-gt64 c =
    words-none _ _ (λ o. omega (arith, o.few))

pub returns-then-ring-lt1 : goal.returns-then-ring-lt1
returns-then-ring-lt1 c =
    words-none _ _ (λ o. omega (arith, o.some))

pub returns-then-ring-gt512 : goal.returns-then-ring-gt512
returns-then-ring-gt512 c =
    words-none _ _ (λ o. omega (arith, o.small))

pub overflow_mul-result-3 : goal.overflow_mul-result-3
overflow_mul-result-3 c =
    let a = c.args in omega (arith, bodies-few a.slots a.ring (omega arith) (omega arith))

pub overflow_add-result-3 : goal.overflow_add-result-3
overflow_add-result-3 c =
    let a = c.args in omega (arith, bodies-few a.slots a.ring (omega arith) (omega arith))

pub returns : goal.returns
returns c =
    words-some _ _ (record { one = omega arith; few = omega arith; some = omega arith; small = omega arith; long = refl })
