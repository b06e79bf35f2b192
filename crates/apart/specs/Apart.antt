-- Non-interference (document 02, ticket 6): "while the promises given stay the same, nothing the other party does, its clears included, alters a decision, a
-- total or a refusal 11. This compares histories with the same cleanups, and the shared rising clock is still assumed." Said of the answers given (`Apart`,
-- `apart`), of histories of any length, on any keys, refused calls too.
-- Assumes nothing.
use Rattle.std.specs.Prelude.{◌≡◌, cond, List, [], ◌∷◌, ℕ, ◌≤◌}
use Rattle.settings.specs.declared.Settings.{Settings}
use Rattle.rules.specs.declared.RoomKind.{RoomKind}
use Rattle.rules.specs.declared.RoomKind.TheVariants as kind
use Rattle.room.specs.Room.{empty}
use Rattle.frame.specs.Keys.{Bytes}
use Rattle.parties.specs.declared.Caller.{Caller}
use Rattle.cleanup.specs.Cleanup as Cleanup
use Rattle.judge.specs.Verdict.{Verdict}
use Rattle.steps.specs.Ops.{Op, Call, Answer, cleanup_both, row_of, verdict_of, answer_row, words, rows}
use Rattle.apart.specs.One.{key_in}
use Rattle.apart.specs.Promised.{Gives}
use Rattle.apart.specs.Like.{Alike, mine}

-- ---- histories, newest first

-- "one party's calls and all cleanups", in their order
abbrev pub picked : {kind : RoomKind} → ℕ → List (Call kind) → List (Call kind)
picked p [] = []
picked p (c ∷ cs) = cond (mine p c.op) (c ∷ picked p cs) (picked p cs)

-- a limiter: what each call answers and leaves, by the words and the reading
abbrev pub Limiter : RoomKind → Type 0
Limiter kind = List ℕ → ℕ → (op : Op kind) → Verdict (Answer op)

-- the words that it leaves after a history, and what it answered the picked calls, among the others
abbrev pub words_by : {kind : RoomKind} → Limiter kind → List ℕ → List (Call kind) → List ℕ
words_by l w [] = w
words_by l w (c ∷ cs) = (l (words_by l w cs) c.reading c.op).words

abbrev pub told_by : {kind : RoomKind} → Limiter kind → ℕ → List ℕ → List (Call kind) → List (List ℕ)
told_by l p w [] = []
told_by l p w (c ∷ cs) = cond (mine p c.op) (row_of c.op (l (words_by l w cs) c.reading c.op).answer ∷ told_by l p w cs) (told_by l p w cs)

-- "the shared rising clock": readings never fall, and end at u at most
abbrev pub Rising : {kind : RoomKind} → ℕ → List (Call kind) → Type 0
Rising u [] = Unit {0}
Rising u (c ∷ cs) = (c.reading ≤ u) × Rising c.reading cs

-- "while the promises given stay the same": a and b, in every call
abbrev pub AllGive : {kind : RoomKind} → ℕ → ℕ → List (Call kind) → Type 0
AllGive a b [] = Unit {0}
AllGive a b (c ∷ cs) = Gives a b c.op × AllGive a b cs

-- keys are bytes
abbrev pub AllBytes : {kind : RoomKind} → List (Call kind) → Type 0
AllBytes [] = Unit {0}
AllBytes (c ∷ cs) = Bytes (key_in c.op).bytes × AllBytes cs

-- ---- the same calls

abbrev pub other_kind : RoomKind → RoomKind
other_kind kind.Absolute = kind.Suppressed
other_kind kind.Suppressed = kind.Absolute

-- one call; a cleanup of both rooms is the same whatever the other room has, where that room turns it away with the same number
pub data Twin (k : RoomKind) (s : Settings) (t : ℕ) : Op k → Op k → Type 0 where
  itself : (op : Op k) → Twin k s t op op
  beside : (who : Caller) (x y : List ℕ) (c d : Caller) (stale : ℕ) → Cleanup.refusal (other_kind k) s x t c ≡ Cleanup.refusal (other_kind k) s y t d →
      Twin k s t (cleanup_both who x c stale) (cleanup_both who y d stale)

abbrev pub SameCalls : (k : RoomKind) → Settings → List (Call k) → List (Call k) → Type 0
SameCalls k s [] [] = Unit {0}
SameCalls k s [] (d ∷ ds) = ⊥
SameCalls k s (c ∷ cs) [] = ⊥
SameCalls k s (c ∷ cs) (d ∷ ds) = (c.reading ≡ d.reading) × Twin k s c.reading c.op d.op × SameCalls k s cs ds

-- ---- the promise

-- of a limiter and party p, from an empty room; P says what is asked of the promises given
abbrev pub ApartBy : (kind : RoomKind) → Settings → Limiter kind → (List (Call kind) → Type 0) → ℕ → ℕ → ℕ → Type 0
ApartBy k s l P p slots ring =
    (cs ds : List (Call k)) → AllBytes cs → AllBytes ds → (u : ℕ) → Rising u cs → Rising u ds → P cs → P ds →
    SameCalls k s (picked p cs) (picked p ds) → told_by l p (empty slots ring) cs ≡ told_by l p (empty slots ring) ds

-- of the verdicts that the contracts name, with the promises a and b in every call
abbrev pub Apart : (kind : RoomKind) → Settings → ℕ → ℕ → ℕ → ℕ → ℕ → Type 0
Apart k s p a b slots ring = ApartBy k s (verdict_of k s) (AllGive a b) p slots ring

-- ---- the proof

-- by the words of a history
abbrev pub told : (kind : RoomKind) → Settings → ℕ → List ℕ → List (Call kind) → List (List ℕ)
told k s p w [] = []
told k s p w (c ∷ cs) = cond (mine p c.op) (answer_row k s (words k s w cs) c.reading c.op ∷ told k s p w cs) (told k s p w cs)

-- a history beside that of the party's own calls: what they were answered among the others, and alone
pub record Beside (k : RoomKind) (s : Settings) (u p a b : ℕ) (w : List ℕ) (cs own : List (Call k)) (answers : List (List ℕ)) : Type 0 where
  pub alike : Alike k s u p a b (words k s w cs) (words k s w own)
  pub alone : answers ≡ rows k s w own
