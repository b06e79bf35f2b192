-- What a step leaves, whatever the call was: the slots it does not address stand, keys stay distinct, and the buckets of each slot's series are what one of
-- the four rules makes of all of them, of the live ones, or of none.
-- Assumes nothing.
use Rattle.std.specs.Prelude.{◌≡◌, Bool, true, false, ◌||◌, ◌≢◌, ℕ, ◌≤◌, ◌<◌, eqb}
use Rattle.std.proofs.Math.Path.{refl, sym, ap, subst}
use Rattle.std.proofs.Common.{ap₂, ◌∙◌, arith}
use Rattle.std.proofs.Math.Bool.{cond}
use Rattle.std.proofs.lemmas.Bool.{false≢true}
use mathlib.Core.List.{List, []}
use Rattle.std.proofs.Math.Decide.{ℕ_discrete}
use Rattle.std.proofs.Math.ListN.{drop}
use Rattle.settings.specs.Clock.{window_ticks, join_ticks}
use Rattle.answers.specs.declared.HistoryPreservation.{HistoryPreservation}
use Rattle.settings.specs.declared.Settings.{Settings}
use Rattle.rules.specs.Buckets.{live, gone, joined, replaced, preserved}
use Rattle.ring.specs.declared.Bucket.{Bucket}
use Rattle.ring.specs.Ring.{buckets}
use Rattle.keys.specs.declared.Key.{Key}
use Rattle.keys.specs.Keys.{key_of}
use Rattle.room.specs.Room.{Room, slots_of, ring_of, last_of, holder_of, used_at, key_at, body_of, with_reading}
use Rattle.room.specs.Entries.{used-held, used-free, used-ext}
use Rattle.layout.specs.Layout.{nobody, first_mark, second_mark}
use Rattle.frame.specs.Distinct.{Distinct, holder-ext, changed-holder}
use Rattle.frame.specs.Frame.{Changed, key-holder, read-run}
use Rattle.parties.specs.Parties.{Sent, key_for, mark_of, is_party}
use Rattle.change.specs.declared.Change.{Change}
use Rattle.change.specs.declared.Change.TheVariants.{Keep, Free, Update, Take}
use Rattle.edit.specs.declared.Edit.{Edit}
use Rattle.edit.specs.declared.Then.{Then}
use Rattle.edit.specs.declared.Then.TheVariants as then
use Rattle.change.specs.Words.{applied, EditsAt}
use Rattle.edit.specs.Bodies.{edited, started_view, acted_view, edited_view}
use Rattle.edit.specs.BodyLaws.{edited-is}
use Rattle.rules.specs.declared.RoomKind.{RoomKind}
use Rattle.opened.specs.declared.Slot.{Slot}
use Rattle.judge.specs.Judge.{Passed, slot_in}
use Rattle.opened.specs.Sound.{has_series, addressed}
use Rattle.opened.specs.Slot.{has_slot}
use Rattle.opened.specs.Right.{slot-addressed}
use Rattle.plan.specs.Known.{series-is}
use Rattle.calls.specs.Calls.{slot-within, found_at, known_at}
use Rattle.calls.specs.Applies.{known-has}
use Rattle.leaves.specs.Calls.{keep-words, free-changed, update-changed, take-changed}
use Rattle.places.specs.Has.{Untouched, changed-untouched}
use Rattle.places.specs.SoundRoom.{addressed-held}
use Rattle.steps.specs.Moves.{Plain, From, opens, keeps, evicts, Does}

-- ---- what becomes of a series' buckets

-- those that a call starts from: all, the live ones, or none
pub data Starts (W t : ℕ) (xs zs : List Bucket) : Type 0 where
  all : zs ≡ xs → Starts W t xs zs
  lives : zs ≡ live W t xs → Starts W t xs zs
  none : zs ≡ [] → Starts W t xs zs

-- a set that preserves has A
abbrev pub Preserving : Then → Type 0 → Type 0
Preserving then.Nothing A = Unit {0}
Preserving (then.Increment c d) A = Unit {0}
Preserving (then.Replace n) A = Unit {0}
Preserving (then.Preserve p n) A = A

-- and then nothing, `joined`, `replaced`, or `preserved` of the live ones
pub record Becomes (W b t : ℕ) (xs ys : List Bucket) : Type 0 where
  pub from : List Bucket
  pub starts : Starts W t xs from
  pub then : Then
  pub acts : ys ≡ acted_view b t then from
  pub only : Preserving then (from ≡ live W t xs)

preserving-all : {A : Type 0} (then : Then) → A → Preserving then A
preserving-all then.Nothing a = tt
preserving-all (then.Increment c d) a = tt
preserving-all (then.Replace n) a = tt
preserving-all (then.Preserve p n) a = a

preserving-plain : (A : Type 0) (then : Then) → Plain then → Preserving then A
preserving-plain A then.Nothing a = tt
preserving-plain A (then.Increment c d) a = tt
preserving-plain A (then.Replace n) a = tt
preserving-plain A (then.Preserve p n) a = absurd a

-- the same by cases: unchanged, the expired ones gone, all gone, counted to, replaced, preserved
pub data Fate (W b t : ℕ) (xs ys : List Bucket) : Type 0 where
  unchanged : ys ≡ xs → Fate W b t xs ys
  evicted : ys ≡ live W t xs → Fate W b t xs ys
  emptied : ys ≡ [] → Fate W b t xs ys
  counted : (zs : List Bucket) (c d : ℕ) → Starts W t xs zs → ys ≡ joined b t c d zs → Fate W b t xs ys
  replaces : (n : ℕ) → ys ≡ replaced t n → Fate W b t xs ys
  preserves : (p : HistoryPreservation) (n : ℕ) → ys ≡ preserved p t n (live W t xs) → Fate W b t xs ys

pub stays : (W b t : ℕ) (xs ys : List Bucket) → ys ≡ xs → Becomes W b t xs ys
unfolding acted_view
stays W b t xs ys e = record { from = xs; starts = all refl; then = then.Nothing; acts = e; only = tt }

pub goes : (W b t : ℕ) (xs ys : List Bucket) → ys ≡ [] → Becomes W b t xs ys
unfolding acted_view
goes W b t xs ys e = record { from = []; starts = none refl; then = then.Nothing; acts = e; only = tt }

-- the buckets of slot i's series; none, where it has no series
abbrev pub series_at : List ℕ → ℕ → List Bucket
series_at w i = cond (has_series (used_at w i)) (buckets (ring_of w) (body_of w i)) []

-- ---- slots that a change does not address

pub untouched-series : (w v : List ℕ) (i : ℕ) → ring_of v ≡ ring_of w → Untouched w v i → series_at v i ≡ series_at w i
untouched-series w v i r o =
    ap₂ (λ (u : ℕ) (xs : List Bucket). cond (has_series u) xs []) (used-ext w v i o.holder o.used) (ap₂ buckets r o.body)

-- ---- a slot of the key is in use, and a party's mark is not nobody's

pub owned-held : (kind : RoomKind) (s : Settings) (w : List ℕ) (t : ℕ) (key : Sent) → Passed kind s w t key → has_slot (slot_in s w t key) ≡ true →
    holder_of w (slot_in s w t key).at ≢ 0
owned-held kind s w t key p e =
    let q : (slot_in s w t key).at ≡ addressed w key = slot-addressed (window_ticks s) t w key in
    subst (λ (i : ℕ). holder_of w i ≢ 0) (sym q) (addressed-held w key (subst (λ (i : ℕ). i < slots_of w) q (slot-within kind s w t key p e)))

-- who holds a key that is sent
pub sent-holder : (key : Sent) → (key_for key).holder ≡ mark_of key.caller.party
unfolding key_of
sent-holder key = refl

pub mark-some : (party : ℕ) → is_party party ≡ true → mark_of party ≢ 0
mark-some party e = go (eqb party 1) (eqb party 2) e
  where
    go : (a b : Bool) → a || b ≡ true → cond a first_mark (cond b second_mark nobody) ≢ 0
    go true b e = omega arith
    go false true e = omega arith
    go false false e = absurd (false≢true e)

-- ---- a change of a key's slot

module _ (kind : RoomKind) (s : Settings) (w : List ℕ) (t : ℕ) (key : Sent) (at : ℕ) where
  abbrev x : Slot
  x = slot_in s w t key

  abbrev W : ℕ
  W = window_ticks s

  abbrev b : ℕ
  b = join_ticks s

  abbrev after : Change → List ℕ
  after change = applied w at key (join_ticks s) t change

  -- only the reading
  pub keep-untouched : Room w → (i : ℕ) → i < slots_of w → Untouched w (after Keep) i
  keep-untouched o i h =
      let c = read-run w i t o h in
      subst (λ (v : List ℕ). Untouched w v i) (sym (keep-words w at key b t))
      (record { holder = holder-ext w (with_reading w t) i c.key; used = c.used; key = c.key; body = c.body })

  -- (a) every other slot's entry and body are as before
  pub others : (change : Change) → Does kind s w t key at change → (i : ℕ) → i < slots_of w → i ≢ at → Untouched w (after change) i
  others Keep d i h n = keep-untouched d.applies i h
  others Free d i h n = changed-untouched (free-changed w at key b t d.applies.room d.applies.inside) i h n
  others (Update e) d i h n = changed-untouched (update-changed w at key b t e d.applies) i h n
  others (Take e) d i h n = changed-untouched (take-changed w at key b t e d.applies) i h n

  -- the rest of the room
  pub record Around (v : List ℕ) : Type 0 where
    pub room : Room v
    pub slots : slots_of v ≡ slots_of w
    pub ring : ring_of v ≡ ring_of w
    pub last : last_of v ≡ t

  changed-around : {v : List ℕ} {i u : ℕ} {k : Key} {y : List ℕ} → Changed w v i u k y t → Around v
  changed-around c = record { room = c.room; slots = c.slots; ring = c.ring; last = c.last }

  pub around : (change : Change) → Does kind s w t key at change → Around (after change)
  around Keep d = subst (λ (v : List ℕ). Around v) (sym (keep-words w at key b t)) (changed-around (read-run w 0 t d.applies d.applies.one))
  around Free d = changed-around (free-changed w at key b t d.applies.room d.applies.inside)
  around (Update e) d = changed-around (update-changed w at key b t e d.applies)
  around (Take e) d = changed-around (take-changed w at key b t e d.applies)

  -- (c) the addressed slot's series

  abbrev view : List Bucket
  view = buckets (ring_of w) (body_of w at)

  module _ (p : Passed kind s w t key) where
    series-was : x.series ≡ true → x.at ≡ at → has_series (used_at w at) ≡ true
    series-was e q =
        subst (λ (i : ℕ). has_series (used_at w i) ≡ true) q
        (ap has_series (used-held w x.at (owned-held kind s w t key p (known-has x e))) ∙
        sym (series-is kind s w t x.at x (found_at kind s w t key p (known-has x e))) ∙ e)

    seen : x.series ≡ true → x.at ≡ at → series_at w at ≡ view
    seen e q = ap (λ (z : Bool). cond z (buckets (ring_of w) (body_of w at)) []) (series-was e q)

    starts : (e : Edit) → x.at ≡ at → From x e → Starts W t (series_at w at) (started_view e view)
    unfolding started_view
    starts e q (opens z n) = none (ap (λ (y : Bool). cond y [] (drop e.gone view)) z)
    starts e q (keeps h z g n) = all (ap (λ (y : Bool). cond y [] (drop e.gone view)) z ∙ ap (λ (n : ℕ). drop n view) g ∙ sym (seen h q))
    starts e q (evicts h z g) =
        let m : x.pass.expired ≡ gone W t view =
        subst (λ (i : ℕ). x.pass.expired ≡ gone W t (buckets (ring_of w) (body_of w i))) q (known_at kind s w t key p h).measured.expired-are in
        lives (ap (λ (y : Bool). cond y [] (drop e.gone view)) z ∙ ap (λ (n : ℕ). drop n view) (g ∙ m) ∙ ap (live W t) (sym (seen h q)))

    -- a set that preserves starts from the live ones
    starts-only : (e : Edit) → x.at ≡ at → From x e → Preserving e.then (started_view e view ≡ live W t (series_at w at))
    unfolding started_view
    starts-only e q (opens z n) = preserving-plain _ e.then n
    starts-only e q (keeps h z g n) = preserving-plain _ e.then n
    starts-only e q (evicts h z g) =
        let m : x.pass.expired ≡ gone W t view =
        subst (λ (i : ℕ). x.pass.expired ≡ gone W t (buckets (ring_of w) (body_of w i))) q (known_at kind s w t key p h).measured.expired-are in
        preserving-all e.then (ap (λ (y : Bool). cond y [] (drop e.gone view)) z ∙ ap (λ (n : ℕ). drop n view) (g ∙ m) ∙ ap (live W t) (sym (seen h q)))

  edit-becomes : (v : List ℕ) (e : Edit) (k : Key) → k.holder ≢ 0 → EditsAt w at b t e → Changed w v at e.used k (edited (ring_of w) b t (body_of w at) e) t →
      Starts W t (series_at w at) (started_view e view) →
      Preserving e.then (started_view e view ≡ live W t (series_at w at)) → Becomes W b t (series_at w at) (series_at v at)
  unfolding edited_view
  edit-becomes v e k m o c f g = go (has_series e.used) refl
    where
      here-used : used_at v at ≡ e.used
      here-used = used-held v at (λ z. m (sym (changed-holder c) ∙ z)) ∙ c.used

      go : (z : Bool) → has_series e.used ≡ z → Becomes W b t (series_at w at) (series_at v at)
      go true h = record {
        from = started_view e view;
        starts = f;
        then = e.then;
        acts = ap (λ (z : Bool). cond z (buckets (ring_of v) (body_of v at)) []) (ap (λ (u : ℕ). has_series u) here-used ∙ h) ∙
            ap₂ buckets c.ring c.body ∙
            (edited-is (ring_of w) b t (body_of w at) e o.edits).view;
        only = g;
      }
      go false h = goes W b t _ _ (ap (λ (z : Bool). cond z (buckets (ring_of v) (body_of v at)) []) (ap (λ (u : ℕ). has_series u) here-used ∙ h))

  here-becomes : (change : Change) → Does kind s w t key at change → at < slots_of w → Becomes W b t (series_at w at) (series_at (after change) at)
  unfolding started_view
  here-becomes Keep d h = stays W b t _ _ (untouched-series w (after Keep) at (around Keep d).ring (keep-untouched d.applies at h))
  here-becomes Free d h =
      let c = free-changed w at key b t d.applies.room d.applies.inside in
      goes W b t _ _ (ap (λ (u : ℕ). cond (has_series u) (buckets (ring_of (after Free)) (body_of (after Free) at)) [])
      (used-free (after Free) at (changed-holder c)))
  here-becomes (Update e) d h =
      edit-becomes (after (Update e)) e (key_at w at) (λ z. d.moves.owns.held (sym (key-holder w at) ∙ z)) d.applies
      (update-changed w at key b t e d.applies)
      (starts d.passed e d.moves.place d.moves.from) (starts-only d.passed e d.moves.place d.moves.from)
  here-becomes (Take e) d h =
      edit-becomes (after (Take e)) e (key_for key) (λ z. mark-some key.caller.party d.passed.party (sym (sent-holder key) ∙ z)) d.applies
      (take-changed w at key b t e d.applies)
      (none (ap (λ (y : Bool). cond y [] (drop e.gone view)) d.moves.begins))
      (preserving-plain _ e.then d.moves.plain)

  pub change-becomes : (change : Change) → Does kind s w t key at change → (i : ℕ) → i < slots_of w → Becomes W b t (series_at w i) (series_at (after change) i)
  change-becomes change d i h = go (ℕ_discrete i at)
    where
      go : Dec (i ≡ at) → Becomes W b t (series_at w i) (series_at (after change) i)
      go (yes q) = subst (λ (j : ℕ). Becomes W b t (series_at w j) (series_at (after change) j)) (sym q) (here-becomes change d (omega arith))
      go (no n) = stays W b t _ _ (untouched-series w (after change) i (around change d).ring (others change d i h n))

-- ---- any step

-- lengths, reading and keys
pub record Leaves (w v : List ℕ) : Type 0 where
  pub room : Room v
  pub slots : slots_of v ≡ slots_of w
  pub ring : ring_of v ≡ ring_of w
  pub later : last_of w ≤ last_of v
  pub distinct : Distinct w → Distinct v
