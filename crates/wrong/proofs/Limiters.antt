-- What wrong limiters break, of either kind: the table of refusals (demand 1), and the rules (demand 2), whose answers and state are told apart. A limiter
-- is here any function with the inputs and results of an increment (`Inc`). Each theorem says what one of a wrong kind cannot keep, by a case that the
-- definitions decide (`Boundary.antt` of the promises). The limiters' own increments keep all of it.
-- Assumes nothing.
use Rattle.std.proofs.Math.Path.{◌≡◌, ap}
use Rattle.std.proofs.Common.{sym, subst, ◌∙◌, arith}
use Rattle.std.specs.Prelude.{false, List, [], ◌≢◌, ℕ, zero, suc, length}
use Rattle.answers.specs.Rows.{decision_row, number_of}
use Rattle.common.specs.Ranges.{one}
use Rattle.common.specs.Refusals.{first}
use Rattle.settings.specs.Settings.{defaults, with_window, faults}
use Rattle.answers.specs.declared.RateLimitDecision.{RateLimitDecision}
use Rattle.answers.specs.declared.RateLimitDecision.TheVariants as decision
use Rattle.answers.specs.declared.RateLimitDecision.TheVariants.{Allowed}
use Rattle.settings.specs.declared.Settings.{Settings}
use Rattle.common.specs.declared.units.RateLimit.{RateLimit}
use Rattle.keys.specs.declared.Key.{Key}
use Rattle.ring.specs.declared.Bucket.{Bucket}
use Rattle.ring.specs.Ring.{buckets, sum_of, counts}
use Rattle.room.specs.Room.{ring_of, body_of}
use Rattle.parties.specs.Parties.{Sent, turns}
use Rattle.rules.specs.declared.RoomKind.{RoomKind}
use Rattle.rules.specs.declared.RoomKind.TheVariants.{Absolute, Suppressed}
use Rattle.judge.specs.Judge.{misfits}
use Rattle.judge.specs.Verdict.{Verdict, verdict}
use Rattle.frame.specs.Keys.{Bytes}
use Rattle.finding.specs.Finding.{buckets_of}
use Rattle.leaves.specs.Calls.{Stands}
use Rattle.steps.specs.Order.{InOrder}
use Rattle.steps.proofs.Order.{taken, not-refused}
use Rattle.steps.specs.Ops.{inc, draws}
use Rattle.steps.proofs.Table.{in-order}
use Rattle.promises.proofs.Refusals.{demand1}
use Rattle.promises.specs.Rules.{Inc, inc_of, inc_table, IncRule, IncByRules}
use Rattle.promises.proofs.Rules.{demand2}
use Rattle.promises.specs.Cases.{per_second, key, room, settings_for, ask_at, inc_at, most, full, single, in_slot}
use Rattle.promises.specs.Boundary.{Fills}
use Rattle.promises.proofs.Boundary.{boundary, further}
use Rattle.wrong.specs.Limiters.{ByTable, mixed, ByAnswers, ByState, Always, case_of, wait_of, SameAnswers, Both, Idles, Once}

-- ---- the limiters' own keep it

pub own-table : (kind : RoomKind) → ByTable kind (inc_of kind)
own-table Absolute s w t k rate count draw = demand1.calls Absolute s w t (inc k rate count)
own-table Suppressed s w t k rate count draw = demand1.calls Suppressed s w t (draws k rate count draw)

pub own-rules : (kind : RoomKind) → IncByRules kind (inc_of kind)
own-rules Absolute = demand2.absolute-inc
own-rules Suppressed = demand2.suppressed-inc

-- ---- answers and state together are the rules

-- the rules leave one answer
rule-answer : (kind : RoomKind) (s : Settings) (w : List ℕ) (t : ℕ) (k : Sent) (rate : RateLimit) (count draw : ℕ) (v u : Verdict RateLimitDecision) →
    IncRule kind s w t k rate count draw v → IncRule kind s w t k rate count draw u → v.answer ≡ u.answer
rule-answer Absolute s w t k rate count draw v u p q = p.answer ∙ sym q.answer
rule-answer Suppressed s w t k rate count draw v u p q = p.answer ∙ sym q.answer

-- the words of v pass with the answer of u too
module _
    (kind : RoomKind) (s : Settings) (w : List ℕ) (t : ℕ) (k : Sent) (rate : RateLimit) (count draw : ℕ) (v u : Verdict RateLimitDecision) where
  answered : v.answer ≡ u.answer → IncRule kind s w t k rate count draw v → IncRule kind s w t k rate count draw (verdict u.answer v.words)
  answered e p = subst (λ (d : RateLimitDecision). IncRule kind s w t k rate count draw (verdict d v.words)) e p

  crossed : IncRule kind s w t k rate count draw v → IncRule kind s w t k rate count draw u →
      IncRule kind s w t k rate count draw (verdict u.answer v.words)
  crossed p q = answered (rule-answer kind s w t k rate count draw v u p q) p

module _ (kind : RoomKind) (f : Inc) where
  pub rules-apart : IncByRules kind f → ByAnswers kind f × ByState kind f
  rules-apart p = (
    λ s w t k rate count draw y e.
        crossed kind s w t k rate count draw (inc_of kind s w t k rate count draw) (f s w t k rate count draw) (own-rules kind s w t k rate count draw y e)
        (p s w t k rate count draw y e),
    λ s w t k rate count draw y e.
        crossed kind s w t k rate count draw (f s w t k rate count draw) (inc_of kind s w t k rate count draw) (p s w t k rate count draw y e)
        (own-rules kind s w t k rate count draw y e),
  )

  pub rules-together : ByAnswers kind f → ByState kind f → IncByRules kind f
  rules-together a b s w t k rate count draw y e =
      crossed kind s w t k rate count draw (mixed (inc_of kind) f s w t k rate count draw) (mixed f (inc_of kind) s w t k rate count draw)
      (b s w t k rate count draw y e) (a s w t k rate count draw y e)

-- ---- at one input

table-in-order : (kind : RoomKind) (s : Settings) (w : List ℕ) (t : ℕ) (k : Sent) (rate : RateLimit) (count draw : ℕ) →
    InOrder 0 (inc_table kind s w t k rate count draw)
unfolding faults misfits turns
table-in-order Absolute s w t k rate count draw = omega arith
table-in-order Suppressed s w t k rate count draw = in-order s w t k rate count draw

pub key-bytes : Bytes key.bytes
key-bytes zero = omega arith
key-bytes (suc i) = omega arith

filling : (kind : RoomKind) → Fills kind
filling Absolute = further.absolute
filling Suppressed = further.suppressed

-- the case of these words, this reading and this count: it is not turned away, and what f does there is by the rules
passes : (kind : RoomKind) (w : List ℕ) (t count : ℕ) → number_of (decision_row (inc_at kind w t count).answer) ≡ 0 →
    first (inc_table kind (settings_for kind) w t key (per_second one) count 0) ≡ 0
passes kind w t count z =
    let s = settings_for kind in
    taken (inc_table kind s w t key (per_second one) count 0) (table-in-order kind s w t key (per_second one) count 0) _ _ _
    (own-table kind s w t key (per_second one) count 0) z

ruled : (kind : RoomKind) (f : Inc) → IncByRules kind f → (w : List ℕ) (t count : ℕ) → number_of (decision_row (inc_at kind w t count).answer) ≡ 0 →
    IncRule kind (settings_for kind) w t key (per_second one) count 0 (ask_at kind f w t count)
ruled kind f p w t count z = p (settings_for kind) w t key (per_second one) count 0 key-bytes (passes kind w t count z)

answers : (kind : RoomKind) (f : Inc) → IncByRules kind f → (w : List ℕ) (t count : ℕ) → number_of (decision_row (inc_at kind w t count).answer) ≡ 0 →
    (ask_at kind f w t count).answer ≡ (inc_at kind w t count).answer
answers kind f p w t count z =
    rule-answer kind (settings_for kind) w t key (per_second one) count 0 (ask_at kind f w t count) (inc_at kind w t count) (ruled kind f p w t count z)
    (ruled kind (inc_of kind) (own-rules kind) w t count z)

allowed-0 : (d : RateLimitDecision) → d ≡ Allowed → number_of (decision_row d) ≡ 0
unfolding decision_row
allowed-0 d e = ap (λ (x : RateLimitDecision). number_of (decision_row x)) e

-- ---- what every answer is like

module _ (kind : RoomKind) (f : Inc) where
  -- never says Allowed: on an empty room the rules do
  pub denying-breaks-the-rules : Always (λ d. d ≢ Allowed) f → IncByRules kind f → ⊥
  denying-breaks-the-rules h p =
      h (settings_for kind) room 0 key (per_second one) (most kind) 0
      (answers kind f p room 0 (most kind) (allowed-0 _ (filling kind).fills) ∙ (filling kind).fills)

  -- refuses every call: so it never says Allowed; and the table has no condition that holds on an empty room
  pub refusing-breaks-the-table : Always (λ d. number_of (decision_row d) ≢ 0) f → ByTable kind f → ⊥
  refusing-breaks-the-table h p =
      let s = settings_for kind in
      h s room 0 key (per_second one) (most kind) 0
      (not-refused (inc_table kind s room 0 key (per_second one) (most kind) 0) (table-in-order kind s room 0 key (per_second one) (most kind) 0) _ _ _
      (p s room 0 key (per_second one) (most kind) 0)
      (passes kind room 0 (most kind) (allowed-0 _ (filling kind).fills)))

  pub refusing-breaks-the-rules : Always (λ d. number_of (decision_row d) ≢ 0) f → IncByRules kind f → ⊥
  refusing-breaks-the-rules h = denying-breaks-the-rules (λ s w t k rate count draw e. h s w t k rate count draw (allowed-0 _ e))

  -- always says Allowed: a window of 0 is number 1
  pub allowing-breaks-the-table : Always (λ d. d ≡ Allowed) f → ByTable kind f → ⊥
  allowing-breaks-the-table h p =
      let s = with_window defaults (record { 0 = 0 }) in
      let z = taken (inc_table kind s room 0 key (per_second one) 1 0) (table-in-order kind s room 0 key (per_second one) 1 0) _ _ _
      (p s room 0 key (per_second one) 1 0) (allowed-0 _ (h s room 0 key (per_second one) 1 0)) in
      omega (arith, z, (filling kind).faulty)

-- a full room
past-0 : (kind : RoomKind) → number_of (decision_row (inc_at kind (full kind) 50 1).answer) ≡ 0
unfolding decision_row
past-0 Absolute = ap (λ (d : RateLimitDecision). number_of (decision_row d)) boundary.rejected-50
past-0 Suppressed = ap (λ (d : RateLimitDecision). number_of (decision_row d)) further.twenty-full

past : (kind : RoomKind) → (inc_at kind (full kind) 50 1).answer ≢ Allowed
unfolding decision_row
past Absolute e = let n : ◌≡◌ {A = ℕ} 2 1 = ap case_of (sym boundary.rejected-50 ∙ e) in omega (arith, n)
past Suppressed e = let n : ◌≡◌ {A = ℕ} 3 1 = ap case_of (sym further.twenty-full ∙ e) in omega (arith, n)

-- 1 more than fill the room: Rejected, or not admitted
pub allowing-breaks-the-rules : (kind : RoomKind) (f : Inc) → Always (λ d. d ≡ Allowed) f → IncByRules kind f → ⊥
allowing-breaks-the-rules kind f h p =
    past kind (sym (answers kind f p (full kind) 50 1 (past-0 kind)) ∙ h (settings_for kind) (full kind) 50 key (per_second one) 1 0)

module _ (f : Inc) where
  -- always says Rejected
  pub rejecting-breaks-the-rules : Always (λ d. case_of d ≡ 2) f → IncByRules Absolute f → ⊥
  unfolding decision_row
  rejecting-breaks-the-rules h = denying-breaks-the-rules Absolute f
      (λ s w t k rate count draw e.
      let n : ◌≡◌ {A = ℕ} 1 2 = ap case_of (sym e) ∙ h s w t k rate count draw in
      omega (arith, n))

  -- answers another wait than the rule's: 50 after the 10 it is 9950
  pub misjudging-breaks-the-rules : wait_of (ask_at Absolute f (full Absolute) 50 1).answer ≢ 9950 → IncByRules Absolute f → ⊥
  unfolding decision_row
  misjudging-breaks-the-rules h p = h (ap wait_of (answers Absolute f p (full Absolute) 50 1 (past-0 Absolute) ∙ boundary.rejected-50))

  -- always says Suppressed, with factor 1 and no
  pub declining-breaks-the-rules : Always (λ d. d ≡ decision.Suppressed one false) f → IncByRules Suppressed f → ⊥
  unfolding decision_row
  declining-breaks-the-rules h = denying-breaks-the-rules Suppressed f
      (λ s w t k rate count draw e.
      let n : ◌≡◌ {A = ℕ} 3 1 = ap case_of (sym (h s w t k rate count draw) ∙ e) in
      omega (arith, n))

-- ---- the rules' answers with a wrong state

pub same-by-answers : (kind : RoomKind) (f : Inc) → SameAnswers kind f → ByAnswers kind f
same-by-answers kind f h s w t k rate count draw y e =
    answered kind s w t k rate count draw (inc_of kind s w t k rate count draw) (f s w t k rate count draw) (sym (h s w t k rate count draw))
    (own-rules kind s w t k rate count draw y e)

-- two rooms of which the same stands have the same buckets in the slot
same-slot : (kind : RoomKind) (s : Settings) (w v u : List ℕ) (at t : ℕ) (k : Key) (limit factor time used : ℕ) (ys : List Bucket) → at ≡ 0 →
    Stands kind s w v at t k limit factor time used ys → Stands kind s w u at t k limit factor time used ys → in_slot v ≡ in_slot u
same-slot kind s w v u at t k limit factor time used ys e p q =
    subst (λ (i : ℕ). buckets (ring_of v) (body_of v i) ≡ buckets (ring_of u) (body_of u i)) e (p.view ∙ sym q.view)

from_empty : (kind : RoomKind) (v u : List ℕ) → Both kind room (most kind) v u
from_empty Absolute v u p q = same-slot Absolute _ _ v u _ _ _ _ _ _ _ _ further.absolute-first (p.unknown further.absolute-unknown)
    (q.unknown further.absolute-unknown)
from_empty Suppressed v u p q = same-slot Suppressed _ _ v u _ _ _ _ _ _ _ _ further.suppressed-first p.stands q.stands

from-single : (kind : RoomKind) (v u : List ℕ) → Both kind (single kind) 9 v u
from-single Absolute v u p q =
    same-slot Absolute _ _ v u _ _ _ _ _ _ _ _ further.absolute-same (p.accepted further.absolute-known further.absolute-below)
    (q.accepted further.absolute-known further.absolute-below)
from-single Suppressed v u p q = same-slot Suppressed _ _ v u _ _ _ _ _ _ _ _ further.suppressed-same p.stands q.stands

-- so where f's state is by the rules, it has the limiter's buckets
stated : (kind : RoomKind) (f : Inc) → ByState kind f → (w : List ℕ) (count : ℕ) → number_of (decision_row (inc_at kind w 0 count).answer) ≡ 0 →
    ((v u : List ℕ) → Both kind w count v u) →
    in_slot (ask_at kind f w 0 count).words ≡ in_slot (inc_at kind w 0 count).words
stated kind f p w count z both =
    both (ask_at kind f w 0 count).words (inc_at kind w 0 count).words
    (ruled kind (mixed (inc_of kind) f) p w 0 count z) (ruled kind (inc_of kind) (own-rules kind) w 0 count z)

-- what fills an empty room stands in its slot
pub idling-breaks-the-state : (kind : RoomKind) (f : Inc) → Idles f → ByState kind f → ⊥
idling-breaks-the-state kind f h p =
    let e = stated kind f p room (most kind) (allowed-0 _ (filling kind).fills) (from_empty kind) in
    let n : ◌≡◌ {A = ℕ} 0 1 = ap length (sym further.empty-slot ∙
    ap in_slot (sym (h (settings_for kind) room 0 key (per_second one) (most kind) 0)) ∙ e ∙ (filling kind).filled) in
    omega (arith, n)

pub some-held : (kind : RoomKind) → buckets_of (single kind) key ≢ []
some-held kind e = let n : ◌≡◌ {A = ℕ} 1 0 = ap length (sym (filling kind).single-buckets ∙ e) in omega (arith, n)

-- 1 and then 9
pub once-breaks-the-state : (kind : RoomKind) (f : Inc) → Once kind f → ByState kind f → ⊥
unfolding sum_of
once-breaks-the-state kind f h p =
    let e = stated kind f p (single kind) 9 (allowed-0 _ (filling kind).more-allowed) (from-single kind) in
    let n : ◌≡◌ {A = ℕ} 1 10 = ap (λ (xs : List Bucket). counts xs) (sym (filling kind).single-slot ∙
    ap in_slot (sym (h.ends (settings_for kind) (single kind) 0 key (per_second one) 9 0 (some-held kind))) ∙ e ∙ (filling kind).more-slot) in
    omega (arith, n)
