-- How long a ring must be (document 02, ticket 4): floor(1000 W / (b + 1)) + 1 buckets suffice, and no fewer do. Over histories of any length of any calls of
-- either limiter and of either party, on any keys, refused ones too, counted from the answers given, in either clock mode.
-- Assumes nothing.
use Rattle.std.specs.Prelude.{◌≡◌, refl, true, ℕ, zero, suc, ◌*◌, ◌≤◌}
use Rattle.std.proofs.Common.{sym, ap, ap₂, subst, ◌∙◌, arith}
use mathlib.Core.List.{List, [], ◌∷◌}
use Rattle.settings.specs.Clock.{window_ticks}
use Rattle.settings.specs.Settings.{proper}
use Rattle.settings.specs.declared.Settings.{Settings}
use Rattle.ring_length.specs.RingLength.{sufficient_ring}
use Rattle.rules.specs.declared.RoomKind.{RoomKind}
use Rattle.rules.specs.declared.RoomKind.TheVariants as kind
use Rattle.room.specs.Room.{fits, empty}
use Rattle.room.specs.Laws.{fit-lengths}
use Rattle.parties.specs.Parties.{Sent}
use Rattle.judge.specs.Held.{held_in}
use Rattle.steps.specs.Ops.{Call, verdict_of, answer_row, words, rows, AllKeyed}
use Rattle.steps.proofs.History.{empty-sane, history, from_empty}
use Rattle.steps.specs.Runs.{Made, calls_of, rows_of, Ran}
use Rattle.steps.proofs.Runs.{run-history}
use Rattle.apart.specs.Apart.{Rising}
use Rattle.apart.proofs.Apart.{words-by}
use Rattle.rings.specs.Window.{apart_ticks, BucketsApart}
use Rattle.rings.specs.Roomy.{Roomy}
use Rattle.rings.proofs.Roomy.{apart-closed, roomy-keeps, key_apart, roomy-untold}
use Rattle.rings.specs.Zeros.{zeros, Sender}
use Rattle.rings.proofs.Zeros.{zeros_within, zeros-full}
use Rattle.rings.specs.Rings.{rows_by, NeverFull, newest_number, Sufficient, Necessary, lone}

-- ---- it suffices

rows-by : (k : RoomKind) (s : Settings) (w : List ℕ) (cs : List (Call k)) → rows_by (verdict_of k s) w cs ≡ rows k s w cs
rows-by k s w [] = refl
rows-by k s w (c ∷ cs) =
    ap₂ (λ (v : List ℕ) (more : List (List ℕ)). answer_row k s v c.reading c.op ∷ more) (words-by k s w cs) (rows-by k s w cs)

module _ (k : RoomKind) (s : Settings) (slots ring n : ℕ) (e : fits slots ring n ≡ true) where
  -- the reason, whatever the ring: any key's buckets lie b + 1 milliseconds apart
  pub always-apart : (calls : List (Call k)) → AllKeyed calls → (key : Sent) → BucketsApart s (held_in (words k s (empty slots ring) calls) key).buckets
  always-apart calls keyed =
      key_apart s (words k s (empty slots ring) calls) (from_empty s (BucketsApart s) (apart-closed s) k slots ring n e calls keyed).1

  module _ (enough : sufficient_ring s ≤ ring) where
    empty-roomy : Roomy s (empty slots ring)
    unfolding empty
    empty-roomy = record { apart = (from_empty s (BucketsApart s) (apart-closed s) k slots ring n e [] tt).1; ring = enough }

    pub always-roomy : (calls : List (Call k)) → AllKeyed calls → Roomy s (words k s (empty slots ring) calls)
    always-roomy calls keyed =
        (history k s (Roomy s) (roomy-keeps k s) (empty slots ring) (empty-sane k s slots ring n e) empty-roomy calls keyed).1

    never : (calls : List (Call k)) → AllKeyed calls → NeverFull (rows k s (empty slots ring) calls)
    never [] keyed = tt
    never (c ∷ cs) keyed =
        (roomy-untold k s (words k s (empty slots ring) cs) c.reading (always-roomy cs keyed.1) c.op, never cs keyed.1)

pub sufficient : Sufficient sufficient_ring
sufficient k s slots ring n e enough calls keyed =
    subst NeverFull (sym (rows-by k s (empty slots ring) calls)) (never k s slots ring n e enough calls keyed)

-- so of runs of code
pub run-never-full : (k : RoomKind) (s : Settings) (slots ring n : ℕ) → fits slots ring n ≡ true → sufficient_ring s ≤ ring →
    (made : List (Made k)) → AllKeyed (calls_of made) → Ran k s (empty slots ring) made → NeverFull (rows_of made)
run-never-full k s slots ring n e enough made keyed ran =
    subst NeverFull (sym (run-history k s (empty slots ring) made ran).rows_are) (never k s slots ring n e enough (calls_of made) keyed)

-- ---- no fewer do

pub lone-sends : (slots : ℕ) → 1 ≤ slots → Sender slots (lone slots)
lone-sends slots h = record { bytes = λ i. omega arith; short = omega arith; party = refl; within = omega arith; some = h }

pub zeros-keyed : (k : RoomKind) (s : Settings) (slots n : ℕ) → AllKeyed (zeros k s (lone slots) n)
zeros-keyed k s slots zero = tt
zeros-keyed kind.Absolute s slots (suc n) = (λ i. omega arith, zeros-keyed kind.Absolute s slots n)
zeros-keyed kind.Suppressed s slots (suc n) = (λ i. omega arith, zeros-keyed kind.Suppressed s slots n)

zeros-rising : (k : RoomKind) (s : Settings) (slots n u : ℕ) → n * apart_ticks s ≤ u → Rising u (zeros k s (lone slots) (suc n))
zeros-rising k s slots zero u h = (h, tt)
zeros-rising k s slots (suc n) u h = (h, zeros-rising k s slots n (suc n * apart_ticks s) (omega arith))

-- one more increment of 0 than the ring has buckets, b + 1 milliseconds apart
pub necessary : Necessary sufficient_ring
necessary k s slots ring n e fine shorter =
    let is = lone-sends slots (fit-lengths slots ring n e).one in
    let p = proper s fine in record {
      calls = zeros k s (lone slots) (suc ring);
      keyed = zeros-keyed k s slots (suc ring);
      rising = zeros-rising k s slots ring (window_ticks s) (zeros_within s ring shorter);
      told =
          ap newest_number (rows-by k s (empty slots ring) (zeros k s (lone slots) (suc ring))) ∙
          zeros-full s p slots (lone slots) is k ring n e shorter;
    }
