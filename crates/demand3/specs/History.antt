-- Histories of calls on a suppressed room (`Call`, `words` of the steps): what a key was admitted, counted from the answers given, and the calls that
-- leave a key to the limiter.
-- Assumes nothing.
use Rattle.std.specs.Prelude.{◌≡◌, Bool, true, false, ◌&&◌, ◌||◌, List, [], ◌∷◌, ◌≢◌, ◌⊎◌, ℕ, ◌≤◌, eqb, length, get_or}
use Rattle.answers.specs.Rows.{decision_row}
use Rattle.common.specs.Limits.{hard_word, cut_word, soft_word}
use Rattle.settings.specs.Settings.{window_in, factor_in}
use Rattle.settings.specs.Clock.{window_in_milliseconds}
use Rattle.answers.specs.declared.RateLimitDecision.{RateLimitDecision}
use Rattle.settings.specs.declared.Settings.{Settings}
use Rattle.common.specs.declared.units.RateLimit.{RateLimit}
use Rattle.rules.specs.Sets.{still_for}
use Rattle.frame.specs.Keys.{Bytes}
use Rattle.parties.specs.Parties.{Sent, is_party}
use Rattle.rules.specs.declared.RoomKind.TheVariants as kind
use Rattle.judge.specs.Held.{held_in}
use Rattle.suppressed_verdicts.specs.Calls as Own
use Rattle.admissions.specs.Log.{Entry, noted}
use Rattle.steps.specs.Ops.{Op, draws, snapshot, get_factor, set_rate, set, delete, cleanup, cleanup_both, clear, Call, words, answer_number}

-- ---- what a key was admitted

-- whether a decision admits, by its row of document 01's numbers: case 1, Allowed, or case 3, Suppressed, with yes
abbrev pub row_admits : List ℕ → Bool
row_admits row = eqb (get_or row 1 0) 1 || (eqb (get_or row 1 0) 3 && eqb (get_or row 3 0) 1)

abbrev pub admits_count : RateLimitDecision → Bool
admits_count d = row_admits (decision_row d)

-- the same bytes
abbrev pub same_bytes : List ℕ → List ℕ → Bool
same_bytes [] [] = true
same_bytes [] (y ∷ ys) = false
same_bytes (x ∷ xs) [] = false
same_bytes (x ∷ xs) (y ∷ ys) = eqb x y && same_bytes xs ys

-- the same key: "A key belongs to the party that sends it", with whatever promises the call comes
abbrev pub Same : Sent → Sent → Type 0
Same k key = (k.caller.party ≡ key.caller.party) × (k.bytes ≡ key.bytes)

-- another key: other bytes, or the other party's
abbrev pub Other : Sent → Sent → Type 0
Other k key = Same k key → ⊥

abbrev pub same_key : Sent → Sent → Bool
same_key k key = eqb k.caller.party key.caller.party && same_bytes k.bytes key.bytes

-- the key's log after a call
abbrev pub logged : Settings → Sent → List ℕ → ℕ → Op kind.Suppressed → List Entry → List Entry
logged s key w t (draws k rate count draw) log = noted (same_key k key && admits_count (Own.inc s w t k rate count draw).answer) t count log
logged s key w t (snapshot k) log = log
logged s key w t (get_factor k) log = log
logged s key w t (set_rate k rate) log = log
logged s key w t (set k rate comparator count mode) log = log
logged s key w t (delete k) log = log
logged s key w t (cleanup who stale) log = log
logged s key w t (cleanup_both who absolute whose stale) log = log
logged s key w t (clear who) log = log

-- of a history, from the words w
abbrev pub admitted : Settings → Sent → List ℕ → List (Call kind.Suppressed) → List Entry
admitted s key w [] = []
admitted s key w (c ∷ cs) = logged s key (words kind.Suppressed s w cs) c.reading c.op (admitted s key w cs)

-- ---- the key, and its limits: H, and S

-- "Key: 0 to 32 bytes", and a party's
pub record IsKey (key : Sent) : Type 0 where
  pub party : is_party key.caller.party ≡ true
  pub bytes : Bytes key.bytes
  pub short : length key.bytes ≤ 32

abbrev pub limit_word : Settings → RateLimit → ℕ
limit_word s rate = hard_word rate.0 (factor_in s) (window_in s)

abbrev pub hard_of : Settings → RateLimit → ℕ
hard_of s rate = cut_word (limit_word s rate)

abbrev pub soft_of : Settings → RateLimit → ℕ
soft_of s rate = soft_word (factor_in s) (limit_word s rate)

-- ---- what is asked of the calls

-- of a call: by settings, key and rate, the words before it and its reading
abbrev pub Clause : Type 1
Clause = Settings → Sent → RateLimit → List ℕ → ℕ → Op kind.Suppressed → Type 0

abbrev pub Or : Clause → Clause → Clause
Or P Q s key rate w t op = P s key rate w t op ⊎ Q s key rate w t op

-- of every call of a history, from the words w
abbrev pub AllBy : Clause → Settings → Sent → RateLimit → List ℕ → List (Call kind.Suppressed) → Type 0
AllBy P s key rate w [] = Unit {0}
AllBy P s key rate w (c ∷ cs) = P s key rate (words kind.Suppressed s w cs) c.reading c.op × AllBy P s key rate w cs

-- one clause asks for no less than another
abbrev pub Gives : Clause → Clause → Type 0
Gives P Q = (s : Settings) (key : Sent) (rate : RateLimit) (w : List ℕ) (t : ℕ) (op : Op kind.Suppressed) → P s key rate w t op → Q s key rate w t op

-- ---- calls that leave a key to the limiter

-- in the mission's words: the key is at one rate, nobody sets, deletes or clears it, or cleans below the window. Keys are bytes, of any number; those of the
-- other party are other keys, and its clears clear others
abbrev pub LeavesAlone : Clause
LeavesAlone s key rate w t (draws k r count draw) = Bytes k.bytes × (Same k key → r ≡ rate)
LeavesAlone s key rate w t (snapshot k) = Bytes k.bytes
LeavesAlone s key rate w t (get_factor k) = Bytes k.bytes
LeavesAlone s key rate w t (set_rate k r) = Bytes k.bytes × (Same k key → r ≡ rate)
LeavesAlone s key rate w t (set k r comparator count mode) = Bytes k.bytes × Other k key
LeavesAlone s key rate w t (delete k) = Bytes k.bytes × Other k key
LeavesAlone s key rate w t (cleanup who stale) = window_in_milliseconds (window_in s) ≤ stale
LeavesAlone s key rate w t (cleanup_both who absolute whose stale) = window_in_milliseconds (window_in s) ≤ stale
LeavesAlone s key rate w t (clear who) = who.party ≢ key.caller.party

-- ---- and all other calls that change neither its limit nor its counts, by what the key holds before them

-- a call that is turned away, whichever it is
abbrev pub Refused : Clause
Refused s key rate w t op = answer_number kind.Suppressed s w t op ≢ 0

-- an increment at rate r finds the limit of rate: a known key keeps its own, whatever r is, and an unknown one begins with r's (`limit_for`)
abbrev pub Begins : Settings → Sent → RateLimit → List ℕ → RateLimit → Type 0
Begins s key rate w r = (held_in w key).known ≡ false → limit_word s r ≡ limit_word s rate

-- a call that counts the key under its limit, stores the limit that it has, sets it so that nothing changes, deletes it while it is unknown, or cleans from
-- the window on; or a call of another key, or a clear of the other party
abbrev pub Harmless : Clause
Harmless s key rate w t (draws k r count draw) = Bytes k.bytes × (Same k key → Begins s key rate w r)
Harmless s key rate w t (snapshot k) = Bytes k.bytes
Harmless s key rate w t (get_factor k) = Bytes k.bytes
Harmless s key rate w t (set_rate k r) = Bytes k.bytes × (Same k key → (held_in w key).known ≡ true → limit_word s r ≡ limit_word s rate)
Harmless s key rate w t (set k r comparator count mode) =
    Bytes k.bytes × (Same k key → still_for kind.Suppressed s t r comparator count mode (held_in w key) ≡ true)
Harmless s key rate w t (delete k) = Bytes k.bytes × (Same k key → (held_in w key).known ≡ false)
Harmless s key rate w t (cleanup who stale) = window_in_milliseconds (window_in s) ≤ stale
Harmless s key rate w t (cleanup_both who absolute whose stale) = window_in_milliseconds (window_in s) ≤ stale
Harmless s key rate w t (clear who) = who.party ≢ key.caller.party

abbrev pub Spares : Clause
Spares = Or Refused Harmless

-- of a history
abbrev pub AllLeaveAlone : Settings → Sent → RateLimit → List ℕ → List (Call kind.Suppressed) → Type 0
AllLeaveAlone = AllBy LeavesAlone

abbrev pub AllSpare : Settings → Sent → RateLimit → List ℕ → List (Call kind.Suppressed) → Type 0
AllSpare = AllBy Spares
