-- That what the code gives is the call's verdict: j is what judging gave, u the change that was carried out, v the words after.
-- Assumes nothing.
use Rattle.std.specs.Prelude.{◌≡◌, Bool, ℕ, ◌≤◌, Ok, Err}
use Rattle.std.proofs.Math.Path.{refl, ap, ap₂}
use Rattle.std.proofs.Common.{sym, subst, ◌∙◌}
use Rattle.std.proofs.Math.Bool.{true, false, not}
use mathlib.Core.List.{List, []}
use Rattle.common.specs.Limits.{absolute_word, cut_word}
use Rattle.common.specs.Ranges.{most_window, most_bucket, rate_ok}
use Rattle.common.specs.Refusals.{first, refuse}
use Rattle.common.specs.declared.refusal.Refusal.{Refusal}
use Rattle.settings.specs.Settings.{window_in, bucket_in}
use Rattle.settings.specs.Clock.{ticks_in, look_ticks, join_ticks}
use Rattle.settings.specs.declared.Settings.{Settings}
use Rattle.answers.specs.declared.RateLimitDecision.{RateLimitDecision}
use Rattle.answers.specs.declared.RateLimitDecision.TheVariants as decision
use Rattle.common.specs.declared.units.RateLimit.{RateLimit}
use Rattle.room.specs.Room.{Room, ring_of}
use Rattle.parties.specs.Parties.{Sent, none_left}
use Rattle.change.specs.declared.Change.{Change}
use Rattle.change.specs.Words.{Applies, applied}
use Rattle.rules.specs.Absolute.{below}
use Rattle.rules.specs.declared.RoomKind.TheVariants.{Absolute}
use Rattle.judge.specs.declared.Judged.{Judged}
use Rattle.opened.specs.declared.Slot.{Slot}
use Rattle.opened.specs.Slot.{pick_slot}
use Rattle.opened.specs.Look.{look_at, look-total, look-limit}
use Rattle.judge.specs.Judge.{early, judged, judged_first, Passed, slot_in, looked_in}
use Rattle.judge.proofs.Laws.{judged-ok, passed}
use Rattle.judge.specs.Verdict.{Told, verdict, call}
use Rattle.judge.proofs.Verdict.{told-as, call-refused, call-own, call-done}
use Rattle.plan.specs.Plan.{place_of, lacks_at}
use Rattle.absolute_test.specs.Test.{evicts, allowed_at, decided_at}
use Rattle.absolute_opened.specs.Opened.{get_change, ask_change, inc_change, inc_refusals}
use Rattle.absolute_verdicts.specs.Calls as Calls
use Rattle.absolute_verdicts.specs.Opened.{look_in, may_in, again_in, decided_in, out_in, inc_own, inc_makes, get, is_allowed, inc}
use Rattle.absolute_verdicts.specs.Seen.{get-opened, ask-opened, inc-opened}
use Rattle.absolute_verdicts.specs.Laws.{get-applies, ask-applies, inc-applies, may-unknown}

-- ---- refused by judging

pub get_refused : (s : Settings) (w : List ℕ) (t : ℕ) (key : Sent) (r : Refusal) → Err r ≡ judged Absolute s w t key → Told (Calls.get s w t key) (Err r) w
unfolding Calls.get
get_refused s w t key r e = call-refused refuse Absolute s w t key [] _ false r e

pub ask-refused : (s : Settings) (w : List ℕ) (t : ℕ) (key : Sent) (r : Refusal) → Err r ≡ judged_first Absolute s w t key →
    Told (Calls.is_allowed s w t key) (decision.Refused r.0) w
unfolding Calls.is_allowed
ask-refused s w t key r e = call-refused decision.Refused Absolute s w t key [] _ true r e

pub inc-refused : (s : Settings) (w : List ℕ) (t : ℕ) (key : Sent) (rate : RateLimit) (c : ℕ) (r : Refusal) → Err r ≡ judged Absolute s w t key →
    Told (Calls.inc s w t key rate c) (decision.Refused r.0) w
unfolding Calls.inc
inc-refused s w t key rate c r e = call-refused decision.Refused Absolute s w t key _ _ false r e

-- ---- not refused by judging; a first look is not yet taken

module _ (s : Settings) (w : List ℕ) (t : ℕ) (key : Sent) (j : Judged) (is : Ok j ≡ judged Absolute s w t key) where
  goes-early : early Absolute s w t key ≡ 0
  goes-early = (judged-ok Absolute s w t key false j is).0

  pub goes-passed : Passed Absolute s w t key
  goes-passed = passed Absolute s w t key goes-early

  goes-slot : j.slot ≡ slot_in s w t key
  goes-slot = (judged-ok Absolute s w t key false j is).1

  goes_left : j.none ≡ none_left w key.caller
  goes_left = (judged-ok Absolute s w t key false j is).2

  pub room_fits : Room w
  room_fits = goes-passed.room

  pub window-fits : window_in s ≤ most_window
  window-fits = goes-passed.settings.window-high

  pub bucket-fits : bucket_in s ≤ most_bucket
  bucket-fits = goes-passed.settings.bucket-high

  -- a change made by a rule, at a place given by a rule, of the slot in hand
  goes-applies : (at : Slot → ℕ) (rule : Slot → Change) (u : Change) → u ≡ rule j.slot →
      Applies w (at (slot_in s w t key)) (join_ticks s) t (rule (slot_in s w t key)) →
      Applies w (at j.slot) (join_ticks s) t u
  goes-applies at rule u e a = rw (e, goes-slot) a

  goes-done : {A : Type 0} (turned : ℕ → A) (own : Slot → List (ℕ × Bool)) (answer : Slot → A) (at : Slot → ℕ) (rule : Slot → Change) →
      first (own j.slot) ≡ 0 → (u : Change) → u ≡ rule j.slot → (v : List ℕ) → v ≡ applied w (at j.slot) key (join_ticks s) t u →
      Told (call turned Absolute s w t key (own (slot_in s w t key))
      (verdict (answer (slot_in s w t key)) (applied w (at (slot_in s w t key)) key (join_ticks s) t (rule (slot_in s w t key))))) (answer j.slot) v
  goes-done turned own answer at rule n u e v f =
      call-done turned Absolute s w t key (own (slot_in s w t key)) _ (answer j.slot) v goes-early (ap (λ (y : Slot). first (own y)) (sym goes-slot) ∙ n)
      (record {
        answer = ap answer goes-slot;
        words = f ∙ ap (applied w (at j.slot) key (join_ticks s) t) e ∙ ap (λ (y : Slot). applied w (at y) key (join_ticks s) t (rule y)) goes-slot;
      })

  pub get-fits : (u : Change) → u ≡ get_change j.slot → Applies w j.slot.at (join_ticks s) t u
  get-fits u e = goes-applies (λ (y : Slot). y.at) get_change u e (get-applies s w t key goes-passed)

  pub get-done : (u : Change) → u ≡ get_change j.slot → (v : List ℕ) → v ≡ applied w j.slot.at key (join_ticks s) t u →
      Told (Calls.get s w t key) (Ok j.slot.pass.live_total) v
  unfolding get first
  get-done u e v f =
      told-as (get-opened s w t key)
      (goes-done refuse (λ (y : Slot). []) (λ (y : Slot). Ok y.pass.live_total) (λ (y : Slot). y.at) get_change refl u e v f)

-- ---- judged as a first look leaves it; again says whether the test was made again

module _ (s : Settings) (w : List ℕ) (t : ℕ) (key : Sent) (j : Judged) (is : Ok j ≡ judged_first Absolute s w t key) where
  first-early : early Absolute s w t key ≡ 0
  first-early = (judged-ok Absolute s w t key true j is).0

  first-passed : Passed Absolute s w t key
  first-passed = passed Absolute s w t key first-early

  first_slot : j.slot ≡ looked_in s w t key
  first_slot = (judged-ok Absolute s w t key true j is).1

  pub ask-window : window_in s ≤ most_window
  ask-window = first-passed.settings.window-high

  pub ask-bucket : bucket_in s ≤ most_bucket
  ask-bucket = first-passed.settings.bucket-high

  -- it stands where the key's slot does, and its words are the same
  first-at : j.slot.at ≡ (slot_in s w t key).at
  first-at = ap (λ (y : Slot). y.at) first_slot ∙ look_at (look_ticks s) t (slot_in s w t key)

  first-again : again_in j.slot ≡ again_in (slot_in s w t key)
  unfolding evicts
  first-again =
      ap again_in first_slot ∙
      ap₂ (λ (limit n : ℕ). not (below (cut_word limit) n)) (look-limit (look_ticks s) t (slot_in s w t key)) (look-total (look_ticks s) t (slot_in s w t key))

  first-decided : decided_at (ticks_in s) s.window_size t (allowed_at (cut_word j.slot.limit) j.slot) j.slot ≡ decided_in s t (slot_in s w t key)
  first-decided =
      ap (λ (y : Slot). decided_at (ticks_in s) s.window_size t (allowed_at (cut_word y.limit) y) y) first_slot ∙
      ap (λ (limit : ℕ). decided_at (ticks_in s) s.window_size t (allowed_at (cut_word limit) (looked_in s w t key)) (looked_in s w t key))
      (look-limit (look_ticks s) t (slot_in s w t key))

  pub ask-fits : (again : Bool) (u : Change) → u ≡ ask_change again j.slot → Applies w j.slot.at (join_ticks s) t u
  ask-fits again u e =
      subst (λ (n : ℕ). Applies w n (join_ticks s) t u) (sym first-at)
      (subst (Applies w (slot_in s w t key).at (join_ticks s) t) (sym (e ∙ ap (ask_change again) first_slot)) (ask-applies s w t key first-passed again))

  pub ask-done : (again : Bool) → again ≡ again_in j.slot → (u : Change) → u ≡ ask_change again j.slot → (v : List ℕ) →
      v ≡ applied w j.slot.at key (join_ticks s) t u → (d : RateLimitDecision) →
      d ≡ decided_at (ticks_in s) s.window_size t (allowed_at (cut_word j.slot.limit) j.slot) j.slot → Told (Calls.is_allowed s w t key) d v
  unfolding is_allowed first
  ask-done again g u e v f d q =
      told-as (ask-opened s w t key)
      (call-done decision.Refused Absolute s w t key [] _ d v first-early refl
      (record {
        answer = q ∙ first-decided;
        words =
            f ∙ ap (λ (n : ℕ). applied w n key (join_ticks s) t u) first-at ∙
            ap (applied w (slot_in s w t key).at key (join_ticks s) t) (e ∙ ap₂ ask_change (g ∙ first-again) first_slot);
      }))

-- ---- an increment: at is its place, may whether it is allowed, out whether the expired buckets are taken out

module _ (s : Settings) (w : List ℕ) (t : ℕ) (key : Sent) (rate : RateLimit) (c : ℕ) (j : Judged) where
  -- what the code found, and the number of the refusal
  pub record Finds (at : ℕ) (may out : Bool) (n : ℕ) : Type 0 where
    pub goes : Ok j ≡ judged Absolute s w t key
    pub place_is : at ≡ place_of w j.slot
    pub may-is : may ≡ may_in s t j.slot
    pub out-is : out ≡ out_in s w t c j.slot
    pub number_is : n ≡ first (inc_refusals (ring_of w) (join_ticks s) t c (rate_ok rate.0) may (lacks_at j.none j.slot) out j.slot)

module _ {s : Settings} {w : List ℕ} {t : ℕ} {key : Sent} {rate : RateLimit} {c : ℕ} {j : Judged} {at : ℕ} {may out : Bool} {n : ℕ}
    (f : Finds s w t key rate c j at may out n) where
  numbered : Bool → Bool → Bool → ℕ
  numbered none m o = first (inc_refusals (ring_of w) (join_ticks s) t c (rate_ok rate.0) m (lacks_at none j.slot) o j.slot)

  abbrev own : Slot → List (ℕ × Bool)
  own = inc_own s w (none_left w key.caller) t rate c

  own_is : n ≡ first (own j.slot)
  unfolding numbered
  own_is =
      f.number_is ∙ ap (λ (y : Bool). numbered y may out) (goes_left s w t key j f.goes) ∙
      ap (λ (y : Bool). numbered (none_left w key.caller) y out) f.may-is ∙
      ap (numbered (none_left w key.caller) (may_in s t j.slot)) f.out-is

  own-slot : n ≡ first (own (slot_in s w t key))
  own-slot = own_is ∙ ap (λ (y : Slot). first (own y)) (goes-slot s w t key j f.goes)

  pub inc-late : (n ≡ 0 → ⊥) → Told (Calls.inc s w t key rate c) (decision.Refused n) w
  unfolding inc
  inc-late z =
      told-as (inc-opened s w t key rate c)
      (call-own decision.Refused Absolute s w t key (own (slot_in s w t key)) _ n (goes-early s w t key j f.goes) own-slot z)

  -- the slot as a first look leaves it, which only a rejection asks for
  abbrev looked : Slot
  looked = pick_slot may j.slot (look_in s t j.slot)

  abbrev Made : Change → Type 0
  Made u = u ≡ inc_change (absolute_word rate.0 (window_in s)) c may out j.slot looked

  unless-made : (z : Bool) → inc_change (absolute_word rate.0 (window_in s)) c z out j.slot (pick_slot z j.slot (look_in s t j.slot)) ≡
      inc_change (absolute_word rate.0 (window_in s)) c z out j.slot (look_in s t j.slot)
  unfolding inc_change
  unless-made true = refl
  unless-made false = refl

  unless-decided : (z : Bool) → decided_at (ticks_in s) s.window_size t z (pick_slot z j.slot (look_in s t j.slot)) ≡
      decided_at (ticks_in s) s.window_size t z (look_in s t j.slot)
  unfolding decided_at
  unless-decided true = refl
  unless-decided false = refl

  makes-is : (u : Change) → Made u → u ≡ inc_makes s w t rate c j.slot
  makes-is u e =
      e ∙ unless-made may ∙ ap (λ (y : Bool). inc_change (absolute_word rate.0 (window_in s)) c y out j.slot (look_in s t j.slot)) f.may-is ∙
      ap (λ (y : Bool). inc_change (absolute_word rate.0 (window_in s)) c (may_in s t j.slot) y j.slot (look_in s t j.slot)) f.out-is

  pub inc-fits : n ≡ 0 → (u : Change) → Made u → Applies w at (join_ticks s) t u
  inc-fits z u e =
      let p = goes-passed s w t key j f.goes in
      let x = slot_in s w t key in
      subst (λ (y : ℕ). Applies w y (join_ticks s) t u) (sym f.place_is)
      (goes-applies s w t key j f.goes (place_of w) (inc_makes s w t rate c) u (makes-is u e)
      (inc-applies s w t key p (absolute_word rate.0 (window_in s)) c (rate_ok rate.0) (may_in s t x) (out_in s w t c x) (may-unknown s w t key p)
      (sym own-slot ∙ z)))

  pub inc-done : n ≡ 0 → (u : Change) → Made u → (v : List ℕ) → v ≡ applied w at key (join_ticks s) t u →
      (d : RateLimitDecision) → d ≡ decided_at (ticks_in s) s.window_size t may looked → Told (Calls.inc s w t key rate c) d v
  unfolding inc
  inc-done z u e v i d q =
      told-as (inc-opened s w t key rate c)
      (rw (q ∙ unless-decided may ∙ ap (λ (y : Bool). decided_at (ticks_in s) s.window_size t y (look_in s t j.slot)) f.may-is)
      (goes-done s w t key j f.goes decision.Refused own (decided_in s t) (place_of w) (inc_makes s w t rate c) (sym own_is ∙ z) u
      (makes-is u e) v
      (i ∙ ap (λ (y : ℕ). applied w y key (join_ticks s) t u) f.place_is)))
