-- An absolute increment's late refusals, and what each call changes, as the code decides them on a key's slot x that is opened at
-- reading t; n is the key's limit cut to a whole number, r the ring, b the longest age that joins, c the count. They are the rules'
-- (`absolute_verdicts/specs/Seen.antt`), and no contract of a call names them but for the edits.
-- Assumes nothing.
use Rattle.std.specs.Prelude.{Bool, true, false, not, ◌&&◌, ◌||◌, List, [], ◌∷◌, ℕ}
use Rattle.rules.specs.Both.{passes}
use Rattle.change.specs.declared.Change.{Change}
use Rattle.change.specs.declared.Change.TheVariants.{Keep, Update, Take}
use Rattle.edit.specs.declared.Edit.{Edit}
use Rattle.edit.specs.declared.Then.{Then}
use Rattle.edit.specs.declared.Then.TheVariants.{Nothing, Increment}
use Rattle.opened.specs.declared.Slot.{Slot}
use Rattle.plan.specs.Plan.{full_after, keeping, evicting, opening}
use Rattle.absolute_test.specs.Test.{evicts, gone_if, total_if}

-- ---- with the expired buckets out, or not

-- the slot with them, and then
abbrev pub leaving : Bool → Slot → Then → Edit
leaving true x then = evicting x then
leaving false x then = keeping x then

-- ---- an increment; may says whether it is allowed, out whether the expired buckets are out

abbrev pub crowds_at : ℕ → ℕ → ℕ → ℕ → Slot → Bool
crowds_at r b t c x = passes c x.total || full_after r b t 0 x

unfoldable pub clears_at : ℕ → ℕ → ℕ → ℕ → ℕ → Slot → Bool
clears_at r b t c n x = evicts n x || crowds_at r b t c x

abbrev pub in_order : Bool → Bool → Bool → Bool → List (ℕ × Bool)
in_order rated passes none crams = (8, not rated) ∷ (10, passes) ∷ (11, none) ∷ (12, crams) ∷ []

unfoldable pub inc_refusals : ℕ → ℕ → ℕ → ℕ → Bool → Bool → Bool → Bool → Slot → List (ℕ × Bool)
inc_refusals r b t c rated may none out x =
    in_order rated (may && passes c (total_if out x)) none (may && full_after r b t (gone_if out x) x)

-- ---- what each call changes: its edits

abbrev pub pick_change : Bool → Change → Change → Change
pick_change true a b = a
pick_change false a b = b

-- `get` takes the expired buckets out
unfoldable pub get_change : Slot → Change
get_change x = pick_change x.series (Update (evicting x Nothing)) Keep

-- `is_allowed` does where it tests again
abbrev pub ask_change : Bool → Slot → Change
ask_change again x = pick_change again (get_change x) Keep

-- `inc`: an unknown key's series begins ("Limit = rate * W, stored at the key's first increment"); a rejection leaves what the first look does, which is y
unfoldable pub inc_change : ℕ → ℕ → Bool → Bool → Slot → Slot → Change
inc_change limit c may out x y =
    pick_change x.series
    (pick_change may (Update (leaving out x (Increment c 0))) (Update (evicting y Nothing)))
    (Take (opening limit (Increment c 0) 0 0 1))
