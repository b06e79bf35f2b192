-- What wrong limiters break of demand 3: the ceiling and the floor, of increments of one key at H = 20, S = 10, counted from the answers given.
-- Assumes nothing.
use Rattle.std.proofs.Math.Path.{◌≡◌, refl, sym, ap, ap₂}
use Rattle.std.proofs.Common.{subst, ◌∙◌, arith}
use Rattle.std.proofs.Math.Bool.{false}
use Rattle.std.specs.Prelude.{◌&&◌, ℕ, ◌+◌, ◌≤◌, get_or, drop}
use mathlib.Core.List.{List, [], ◌∷◌}
use Rattle.std.proofs.Math.Decide.{dec_le}
use Rattle.answers.specs.Rows.{decision_row, number_of}
use Rattle.common.specs.Ranges.{one}
use Rattle.settings.specs.Clock.{window_ticks}
use Rattle.answers.specs.declared.RateLimitDecision.{RateLimitDecision}
use Rattle.answers.specs.declared.RateLimitDecision.TheVariants as decision
use Rattle.answers.specs.declared.RateLimitDecision.TheVariants.{Allowed}
use Rattle.settings.specs.declared.Settings.{Settings}
use Rattle.parties.specs.Parties.{Sent}
use Rattle.rules.specs.declared.RoomKind.TheVariants.{Suppressed}
use Rattle.suppressed_verdicts.specs.Calls as Own
use Rattle.admissions.specs.Log.{Entry, noted, pick, in_span, aged}
use Rattle.admissions.proofs.Log.{pick_all}
use Rattle.steps.specs.Ops as Ops
use Rattle.steps.specs.Ops.{Call, draws, words, rows}
use Rattle.demand3.specs.History.{row_admits, admits_count, same_key, logged, admitted, IsKey, AllLeaveAlone}
use Rattle.demand3.specs.Demand3.{less_bucket}
use Rattle.demand3.proofs.MissionPromises.{mission-ceiling, mission-floor}
use Rattle.promises.specs.Rules.{Inc}
use Rattle.promises.specs.Cases.{hard_by, per_second, key, room, single}
use Rattle.promises.proofs.Boundary.{further}
use Rattle.wrong.specs.Limiters.{Always, case_of, SameAnswers, Idles, Once}
use Rattle.wrong.proofs.Limiters.{key-bytes, some-held}
use Rattle.wrong.specs.Histories.{Shot, shot_by, words_by, log_by, hard, soft, Ceiling, Floor, calls, at0, spent}

-- ---- the limiter itself keeps both

calls_alone : (shots : List Shot) → AllLeaveAlone (hard_by 2) key (per_second one) room (calls shots)
calls_alone [] = tt
calls_alone (c ∷ cs) = ((key-bytes, λ e. refl), calls_alone cs)

same-words : (shots : List Shot) → words Suppressed (hard_by 2) room (calls shots) ≡ words_by Own.inc shots
same-words [] = refl
same-words (c ∷ cs) = ap (λ (w : List ℕ). (shot_by Own.inc w c).words) (same-words cs)

same_log : (shots : List Shot) → admitted (hard_by 2) key room (calls shots) ≡ log_by Own.inc shots
same_log [] = refl
same_log (c ∷ cs) = ap₂ (λ (w : List ℕ) (l : List Entry). noted (admits_count (shot_by Own.inc w c).answer) c.reading c.count l) (same-words cs)
    (same_log cs)

is_key : IsKey key
is_key = record { party = refl; bytes = key-bytes; short = omega arith }

pub own-ceiling : Ceiling Own.inc
own-ceiling shots from =
    let g = mission-ceiling (hard_by 2) 1 3 key (per_second one) (calls shots) is_key (omega arith) (calls_alone shots) from in
    subst (λ (l : List Entry). in_span from (from + less_bucket (hard_by 2)) l ≤ hard) (same_log shots) (omega (arith, g, further.hard-20))

pub own-floor : Floor Own.inc
own-floor shots c z h =
    let n = subst (λ (v : List ℕ). number_of (decision_row (shot_by Own.inc v c).answer) ≡ 0) (sym (same-words shots)) z in
    let a : c.count + aged (window_ticks (hard_by 2)) c.reading (admitted (hard_by 2) key room (calls shots)) ≤ soft =
    subst (λ (l : List Entry). c.count + aged (window_ticks (hard_by 2)) c.reading l ≤ soft) (sym (same_log shots)) h in
    subst (λ (v : List ℕ). (shot_by Own.inc v c).answer ≡ Allowed) (same-words shots)
    (mission-floor (hard_by 2) 1 3 key (per_second one) (calls shots) c.reading (per_second one) c.count c.draw is_key (omega arith)
    (calls_alone (c ∷ shots)) n (omega (arith, a, further.soft-10)))

-- ---- shots at reading 0 lie in the span from 0 on

-- one that is allowed adds its count
adds : (f : Inc) (n : ℕ) (cs : List Shot) → (shot_by f (words_by f cs) (at0 n)).answer ≡ Allowed → n + spent f cs ≤ spent f (at0 n ∷ cs)
unfolding decision_row
adds f n cs e =
    let z : ℕ = 0 + less_bucket (hard_by 2) in
    subst (λ (d : RateLimitDecision). n + spent f cs ≤ in_span 0 z (noted (admits_count d) 0 n (log_by f cs))) (sym e)
    (omega (arith, pick_all (dec_le 0 0) (pick (dec_le 0 z) n) (omega arith), pick_all (dec_le 0 z) n (omega arith)))

-- ---- the ceiling

-- always says Allowed: 20 and 20 again
pub allowing-breaks-the-ceiling : (f : Inc) → Always (λ d. d ≡ Allowed) f → Ceiling f → ⊥
allowing-breaks-the-ceiling f allows p =
    let one_more = adds f 20 (at0 20 ∷ []) (allows (hard_by 2) (words_by f (at0 20 ∷ [])) 0 key (per_second one) 20 0) in
    omega (arith, p (at0 20 ∷ at0 20 ∷ []) 0, adds f 20 [] (allows (hard_by 2) room 0 key (per_second one) 20 0), one_more)

-- changes nothing, with the rules' answers to the words that it has: 20 and 20 again
pub idling-breaks-the-ceiling : (f : Inc) → SameAnswers Suppressed f → Idles f → Ceiling f → ⊥
idling-breaks-the-ceiling f answers idles p =
    let a : (shot_by f room (at0 20)).answer ≡ Allowed = answers (hard_by 2) room 0 key (per_second one) 20 0 ∙ further.suppressed.fills in
    let b = ap (λ (w : List ℕ). (shot_by f w (at0 20)).answer) (idles (hard_by 2) room 0 key (per_second one) 20 0) ∙ a in
    omega (arith, p (at0 20 ∷ at0 20 ∷ []) 0, adds f 20 [] a, adds f 20 (at0 20 ∷ []) b)

-- counts the first increment only, with the rules' answers: 1, and 9 three times; each time the room is as it was after the 1
pub once-breaks-the-ceiling : (f : Inc) → SameAnswers Suppressed f → Once Suppressed f → Ceiling f → ⊥
once-breaks-the-ceiling f answers counts-once p =
    let begun = single Suppressed in
    let a : (shot_by f room (at0 1)).answer ≡ Allowed = answers (hard_by 2) room 0 key (per_second one) 1 0 ∙ further.suppressed.single-allowed in
    let b : (shot_by f begun (at0 9)).answer ≡ Allowed = answers (hard_by 2) begun 0 key (per_second one) 9 0 ∙ further.suppressed.more-allowed in
    let v : (shot_by f begun (at0 9)).words ≡ begun = counts-once.ends (hard_by 2) begun 0 key (per_second one) 9 0 (some-held Suppressed) in
    let again : (w : List ℕ) → w ≡ begun → (shot_by f w (at0 9)).words ≡ begun = λ w e. ap (λ (u : List ℕ). (shot_by f u (at0 9)).words) e ∙ v in
    let allowed : (w : List ℕ) → w ≡ begun → (shot_by f w (at0 9)).answer ≡ Allowed = λ w e. ap (λ (u : List ℕ). (shot_by f u (at0 9)).answer) e ∙ b in
    let e : words_by f (at0 1 ∷ []) ≡ begun = counts-once.begins (hard_by 2) room 0 key (per_second one) 1 0 further.empty-buckets in
    let g : words_by f (at0 9 ∷ at0 1 ∷ []) ≡ begun = again _ e in
    let h : words_by f (at0 9 ∷ at0 9 ∷ at0 1 ∷ []) ≡ begun = again _ g in
    omega (
      arith,
      p (at0 9 ∷ at0 9 ∷ at0 9 ∷ at0 1 ∷ []) 0,
      adds f 1 [] a,
      adds f 9 (at0 1 ∷ []) (allowed _ e),
      adds f 9 (at0 9 ∷ at0 1 ∷ []) (allowed _ g),
      adds f 9 (at0 9 ∷ at0 9 ∷ at0 1 ∷ []) (allowed _ h),
    )

-- ---- the floor: a limiter that always says Suppressed, with factor 1 and no

module _ (f : Inc) (declines : Always (λ d. d ≡ decision.Suppressed one false) f) where
  empty-log : (shots : List Shot) → log_by f shots ≡ []
  unfolding decision_row
  empty-log [] = refl
  empty-log (c ∷ cs) =
      ap₂ (λ (d : RateLimitDecision) (l : List Entry). noted (admits_count d) c.reading c.count l)
      (declines (hard_by 2) (words_by f cs) c.reading key (per_second one) c.count c.draw) (empty-log cs)

  -- it admits nothing
  pub declining-keeps-the-ceiling : Ceiling f
  declining-keeps-the-ceiling shots from =
      subst (λ (l : List Entry). in_span from (from + less_bucket (hard_by 2)) l ≤ hard) (sym (empty-log shots)) (omega arith)

  -- 1 on an empty room
  pub declining-breaks-the-floor : Floor f → ⊥
  unfolding decision_row
  declining-breaks-the-floor p =
      let d = declines (hard_by 2) room 0 key (per_second one) 1 0 in
      let e : decision.Suppressed one false ≡ Allowed = sym d ∙ p [] (at0 1) (ap (λ (x : RateLimitDecision). number_of (decision_row x)) d) (omega arith) in
      let n : ◌≡◌ {A = ℕ} 3 1 = ap case_of e in
      omega (arith, n)

-- ---- "demand 3 counts from the answers given": calls that were answered alike have one log, whatever the settings, and whatever words they found

pub counts-from-answers : (s z : Settings) (k : Sent) (w v : List ℕ) (made : List (Call Suppressed)) → rows Suppressed s w made ≡ rows Suppressed z v made →
    admitted s k w made ≡ admitted z k v made
counts-from-answers s z k w v [] e = refl
counts-from-answers s z k w v (c ∷ cs) e =
    go c.op (ap (λ (x : List (List ℕ)). get_or x 0 []) e) (counts-from-answers s z k w v cs (ap (λ (x : List (List ℕ)). drop 1 x) e))
  where
    go : (op : Ops.Op Suppressed) →
        Ops.answer_row Suppressed s (words Suppressed s w cs) c.reading op ≡ Ops.answer_row Suppressed z (words Suppressed z v cs) c.reading op →
        admitted s k w cs ≡ admitted z k v cs →
        logged s k (words Suppressed s w cs) c.reading op (admitted s k w cs) ≡ logged z k (words Suppressed z v cs) c.reading op (admitted z k v cs)
    go (Ops.draws k' rate count draw) h l =
        ap₂ (λ (row : List ℕ) (log : List Entry). noted (same_key k' k && row_admits row) c.reading count log) h l
    go (Ops.snapshot k') h l = l
    go (Ops.get_factor k') h l = l
    go (Ops.set_rate k' rate) h l = l
    go (Ops.set k' rate comparator count mode) h l = l
    go (Ops.delete k') h l = l
    go (Ops.cleanup who stale) h l = l
    go (Ops.cleanup_both who other whose stale) h l = l
    go (Ops.clear who) h l = l
