-- Increments of 0 of one key at 0, b + 1, 2 (b + 1) milliseconds and so on, the readings within one window: each adds a bucket until the ring is full, and the
-- next one is told 12. In either limiter, in either clock mode.
-- n is how many there were, h what the key holds then, r the ring.
-- Assumes nothing.
use Rattle.std.specs.Prelude.{◌≡◌, Bool, ◌&&◌, ◌||◌, cond, ℕ, zero, suc, ◌+◌, ◌*◌, ◌≤◌, ◌<◌, leb, eqb, drop}
use Rattle.std.proofs.Math.Path.{refl, sym, ap, ap₂}
use Rattle.std.proofs.Common.{subst, ◌∙◌, mul_left_comm, mul-le-mul_left, arith}
use Rattle.std.proofs.Math.Bool.{true, false, not}
use Rattle.std.proofs.lemmas.Bool.{false≢true}
use mathlib.Core.List.{List, [], ◌∷◌}
use Rattle.std.proofs.Math.Decide.{dec_lt}
use Rattle.std.proofs.Math.Dec.{ltb}
use borrow.Author.Tests.{lt-ltb, le-ltb, lt-leb, le-leb, ltb-true}
use Rattle.answers.specs.Rows.{refused_row, number_of}
use Rattle.base.specs.Decides.{and-true}
use Rattle.common.specs.Limits.{cut_word}
use Rattle.common.specs.Ranges as Ranges
use Rattle.common.specs.Ranges.{rate_ok, and_no}
use Rattle.common.specs.Refusals.{first}
use Rattle.common_laws.specs.LimitLaws.{one-rate, one-limit}
use Rattle.settings.specs.Clock.{window_ticks, join_ticks, ticks_in}
use Rattle.settings.specs.Settings.{window_in, bucket_in, Proper}
use Rattle.settings.specs.declared.Settings.{Settings}
use Rattle.ring_length.specs.RingLength.{sufficient_ring, fits-window}
use Rattle.layout.specs.Layout.{first_mark, second_mark, most_total}
use Rattle.ring.specs.declared.Bucket.{Bucket}
use Rattle.ring.specs.Ring.{bucket, counts}
use Rattle.rules.specs.Buckets.{out_if, joined}
use Rattle.rules.specs.Held.{Held, nothing, lacks_slot}
use Rattle.rules.specs.Both.{limit_in, overdue, overdue_in, looked_of, passes, ring_full}
use Rattle.rules.specs.Absolute as absolute
use Rattle.rules.specs.Absolute.{allowed, whole_limit, found_for}
use Rattle.rules.specs.Suppressed as suppressed
use Rattle.rules.specs.Suppressed.{admits, declined_by}
use Rattle.rules.specs.declared.RoomKind.{RoomKind}
use Rattle.rules.specs.declared.RoomKind.TheVariants as kind
use Rattle.room.specs.Room.{slots_of, ring_of, sized, fits, empty}
use Rattle.frame.specs.Keys.{Bytes}
use Rattle.frame.specs.Whole.{empty-free}
use Rattle.parties.specs.Parties.{Sent, ours, slots_held, promised, holding, none_left}
use Rattle.opened.specs.Sound.{addressed}
use Rattle.judge.specs.Held.{held_in}
use Rattle.judge.proofs.Held.{held_none}
use Rattle.judge.specs.Judge.{Passed}
use Rattle.judge.proofs.Laws.{early-none, refused-own}
use Rattle.places.specs.SoundRoom.{addressed-held, five-unmet}
use Rattle.steps.specs.Ops.{after, words, answer_number}
use Rattle.steps.specs.Table.{table_of}
use Rattle.apart.proofs.Holds.{held-short}
use Rattle.apart.specs.One.{plainly, left_by, key_in}
use Rattle.apart.proofs.Step.{own_held, slots-after, ring-after}
use Rattle.apart.specs.Told.{row_for}
use Rattle.apart.proofs.Told.{told-row}
use Rattle.apart.specs.Promised.{Gives, Kept}
use Rattle.apart.specs.Like.{Fine}
use Rattle.apart.proofs.Like.{over-is}
use Rattle.apart.proofs.Apart.{empty-fine, fine-after}
use Rattle.rings.specs.Window.{apart_ticks}
use Rattle.rings.proofs.Window.{apart-joins}
use Rattle.rings.specs.Row.{row, row-none, row-begun, row_counts, young, row-joined, row-full}
use Rattle.rings.specs.Zeros.{one, zero_op, zeros, Sender}

-- the nth comes within one window, where n are fewer than suffice
pub zeros_within : (s : Settings) (n : ℕ) → n < sufficient_ring s → n * apart_ticks s ≤ window_ticks s
zeros_within s n h = omega (arith, mul_left_comm n (ticks_in s) (bucket_in s + 1), mul-le-mul_left (ticks_in s) (fits-window s n h))

-- ---- tables

first_past : (n : ℕ) (z : Bool) (more : List (ℕ × Bool)) → z ≡ false → first ((n, z) ∷ more) ≡ first more
unfolding first
first_past n z more e = rw e

first-last : (n : ℕ) (z y : Bool) → z ≡ y → first ((n, z) ∷ []) ≡ cond y n 0
unfolding first
first-last n z y e = rw e

unrated-not : not (rate_ok Ranges.one) ≡ false
unrated-not = ap not one-rate

declined-none : (is : Bool) → declined_by is 0 ≡ 0
declined-none true = refl
declined-none false = refl

-- ---- the rules on a row that is within one window

module _ (s : Settings) (n : ℕ) (within : n * apart_ticks s ≤ window_ticks s) (h : Held) (view : h.buckets ≡ row (apart_ticks s) n) where
  abbrev t : ℕ
  t = n * apart_ticks s

  abbrev xs : List Bucket
  xs = row (apart_ticks s) n

  -- nothing is expired
  out-is : (out : Bool) → out_if out (window_ticks s) (n * apart_ticks s) h.buckets ≡ row (apart_ticks s) n
  out-is true = ap (λ (g : ℕ). drop g h.buckets) (young (window_ticks s) (n * apart_ticks s) h.buckets within) ∙ view
  out-is false = view

  looked-is : looked_of s t h ≡ xs
  looked-is = out-is (overdue_in s t h)

  found-is : (r : ℕ) → found_for s r t 0 h ≡ xs
  found-is r = out-is (absolute.out_for s r t 0 h)

  none_passes : passes 0 (counts (row (apart_ticks s) n)) ≡ false
  unfolding passes
  none_passes = le-ltb most_total (counts (row (apart_ticks s) n) + 0) (omega (arith, row_counts (apart_ticks s) n))

  full_is : (r : ℕ) → ring_full r (join_ticks s) t xs ≡ leb r n
  full_is r = row-full (apart_ticks s) (join_ticks s) (apart-joins s) r n

  more-is : (c : ℕ) → c ≡ 0 → joined (join_ticks s) t 0 c xs ≡ row (apart_ticks s) (suc n)
  more-is c e = row-joined (apart_ticks s) (join_ticks s) (apart-joins s) n c e

  allowed-is : (h.known ≡ true → 1 ≤ whole_limit h) → allowed s (n * apart_ticks s) h ≡ true
  unfolding allowed absolute.tested absolute.below
  allowed-is f = go h.known refl
    where
      go : (z : Bool) → h.known ≡ z → not z || absolute.allowed_by s (n * apart_ticks s) (whole_limit h) h.buckets ≡ true
      go false e = refl
      go true e =
          ap (λ (ys : List Bucket). ltb (counts ys) (whole_limit h))
          (out-is (absolute.tests_again (whole_limit h) h.buckets && overdue s (n * apart_ticks s) h.buckets)) ∙
          lt-ltb (counts (row (apart_ticks s) n)) (whole_limit h) (omega (arith, row_counts (apart_ticks s) n, f e))

  module _ (r : ℕ) (full : Bool) (slot : lacks_slot full h ≡ false) where
    absolute-number : (h.known ≡ true → 1 ≤ whole_limit h) → first (absolute.inc_turns s r full t one 0 h) ≡ cond (leb r n) 12 0
    absolute-number f =
        let ten : allowed s t h && passes 0 (counts (found_for s r t 0 h)) ≡ false =
        ap (λ (ys : List Bucket). allowed s t h && passes 0 (counts ys)) (found-is r) ∙ ap (λ (z : Bool). allowed s t h && z) none_passes ∙
        and_no (allowed s t h) in
        let twelve : allowed s t h && ring_full r (join_ticks s) t (found_for s r t 0 h) ≡ leb r n =
        ap₂ (λ (z : Bool) (ys : List Bucket). z && ring_full r (join_ticks s) t ys) (allowed-is f) (found-is r) ∙ full_is r in
        first_past 8 _ _ unrated-not ∙ first_past 10 _ _ ten ∙ first_past 11 _ _ slot ∙ first-last 12 _ _ twelve

    suppressed-number : first (suppressed.inc_turns s r full t one 0 0 h) ≡ cond (leb r n) 12 0
    suppressed-number =
        let ten : passes 0 (counts (looked_of s t h)) ≡ false = ap (λ (ys : List Bucket). passes 0 (counts ys)) looked-is ∙ none_passes in
        let twelve : ring_full r (join_ticks s) t (looked_of s t h) ≡ leb r n = ap (ring_full r (join_ticks s) t) looked-is ∙ full_is r in
        first_past 8 _ _ unrated-not ∙ first_past 9 _ _ refl ∙ first_past 10 _ _ ten ∙ first_past 11 _ _ slot ∙ first-last 12 _ _ twelve

-- ---- the key after n of them

pub record Lined (k : RoomKind) (s : Settings) (key : Sent) (n : ℕ) (w : List ℕ) : Type 0 where
  pub known : (held_in w key).known ≡ ltb 0 n
  pub view : (held_in w key).buckets ≡ row (apart_ticks s) n
  pub limit : 0 < n → (held_in w key).limit ≡ limit_in k s one
  pub slot : lacks_slot (none_left w key.caller) (held_in w key) ≡ false

-- a known key needs no slot
known_slot : (full : Bool) (h : Held) → h.known ≡ true → lacks_slot full h ≡ false
known_slot full h e = ap (λ (z : Bool). not (z || h.cached) && full) e

-- its limit is at least 1, if it is known
whole-some : (s : Settings) → Proper s → (key : Sent) (n : ℕ) (w : List ℕ) → Lined kind.Absolute s key n w → (held_in w key).known ≡ true →
    1 ≤ whole_limit (held_in w key)
whole-some s p key zero w l e = absurd (false≢true (sym l.known ∙ e))
whole-some s p key (suc n) w l e =
    subst (λ (m : ℕ). 1 ≤ cut_word m) (sym (l.limit (omega arith))) (one-limit (window_in s) p.window-low p.window-high)

module _ (s : Settings) (p : Proper s) (slots : ℕ) (key : Sent) (is : Sender slots key) where
  abbrev a : ℕ
  a = key.caller.first

  abbrev b : ℕ
  b = key.caller.second

  zero-bytes : (k : RoomKind) → Bytes (key_in (zero_op k key)).bytes
  zero-bytes kind.Absolute = is.bytes
  zero-bytes kind.Suppressed = is.bytes

  zero-gives : (k : RoomKind) → Gives key.caller.first key.caller.second (zero_op k key)
  zero-gives kind.Absolute = (refl, refl)
  zero-gives kind.Suppressed = (refl, refl)

  -- 1 to 7, 15 and 16 are not met
  passes-all : (k : RoomKind) (w : List ℕ) (t : ℕ) → slots_of w ≡ slots → Fine k s t a b w → Passed k s w t key
  passes-all k w t n f =
      let five = (and-true (sized w) _ (five-unmet k s w key f.sane.sound)).1 in
      record {
        settings = p;
        room = f.sane.sound.room;
        sound = (and-true (ours w) _ five).1;
        later = f.last;
        short = is.short;
        theirs = f.sane.sound.theirs;
        party = is.party;
        within = over-is w key.caller f.kept ∙ le-ltb (slots_of w) (a + b) (omega (arith, n, is.within));
      }

  module _ (n : ℕ) (within : n * apart_ticks s ≤ window_ticks s) (w : List ℕ) (count : slots_of w ≡ slots) where
    abbrev u : ℕ
    u = n * apart_ticks s

    -- it is told 12 exactly where the ring has no more than n buckets, and no other number
    zero_number : (k : RoomKind) → Fine k s u a b w → Lined k s key n w → first (table_of k s w u (zero_op k key)) ≡ cond (leb (ring_of w) n) 12 0
    zero_number kind.Absolute f l =
        refused-own kind.Absolute s w u key _ (early-none kind.Absolute s w u key (passes-all kind.Absolute w u count f)) ∙
        absolute-number s n within (held_in w key) l.view (ring_of w) (none_left w key.caller) l.slot (whole-some s p key n w l)
    zero_number kind.Suppressed f l =
        refused-own kind.Suppressed s w u key _ (early-none kind.Suppressed s w u key (passes-all kind.Suppressed w u count f)) ∙
        suppressed-number s n within (held_in w key) l.view (ring_of w) (none_left w key.caller) l.slot

    -- what it leaves of the key
    record Longer (k : RoomKind) (h : Held) : Type 0 where
      pub known : h.known ≡ true
      pub view : h.buckets ≡ row (apart_ticks s) (suc n)
      pub limit : h.limit ≡ limit_in k s one

    zero-longer : (k : RoomKind) → Lined k s key n w → Longer k (left_by k s (ring_of w) u (zero_op k key) (held_in w key))
    zero-longer kind.Absolute l = go (held_in w key).known refl
      where
        grown : Held
        grown = plainly (held_in w key).limit (joined (join_ticks s) (n * apart_ticks s) 0 0 (found_for s (ring_of w) (n * apart_ticks s) 0 (held_in w key)))

        left : Held
        left = plainly (held_in w key).limit (looked_of s (n * apart_ticks s) (held_in w key))

        go : (z : Bool) → (held_in w key).known ≡ z → Longer kind.Absolute (cond z
            (cond (allowed s (n * apart_ticks s) (held_in w key)) grown left)
            (plainly (limit_in kind.Absolute s one) (bucket 0 0 (n * apart_ticks s) ∷ [])))
        go true e =
            subst (λ (z : Bool). Longer kind.Absolute (cond z grown left))
            (sym (allowed-is s n within (held_in w key) l.view (whole-some s p key n w l)))
            (record {
              known = refl;
              view = ap (joined (join_ticks s) (n * apart_ticks s) 0 0) (found-is s n within (held_in w key) l.view (ring_of w)) ∙
                  more-is s n within (held_in w key) l.view 0 refl;
              limit = l.limit (ltb-true 0 n (sym l.known ∙ e));
            })
        go false e = record { known = refl; view = row-begun (apart_ticks s) n (sym l.known ∙ e); limit = refl }
    zero-longer kind.Suppressed l = record {
      known = refl;
      view =
          ap (joined (join_ticks s) u 0 (declined_by is-admitted 0)) (looked-is s n within (held_in w key) l.view) ∙
          more-is s n within (held_in w key) l.view (declined_by is-admitted 0) (declined-none is-admitted);
      limit = go (held_in w key).known refl;
    }
      where
        is-admitted : Bool
        is-admitted =
            admits (suppressed.outcome s (n * apart_ticks s) (suppressed.limit_for s one (held_in w key)) 0 0 (held_in w key)).decision

        go : (z : Bool) → (held_in w key).known ≡ z → cond z (held_in w key).limit (limit_in kind.Suppressed s one) ≡ limit_in kind.Suppressed s one
        go true e = l.limit (ltb-true 0 n (sym l.known ∙ e))
        go false e = refl

    longer-lined : (k : RoomKind) (v : List ℕ) (h : Held) → held_in v key ≡ h → Longer k h → Lined k s key (suc n) v
    longer-lined k v h e l = record {
      known = ap (λ (x : Held). x.known) e ∙ l.known ∙ sym (lt-ltb 0 (suc n) (omega arith));
      view = ap (λ (x : Held). x.buckets) e ∙ l.view;
      limit = λ z. ap (λ (x : Held). x.limit) e ∙ l.limit;
      slot = known_slot (none_left v key.caller) (held_in v key) (ap (λ (x : Held). x.known) e ∙ l.known);
    }

    -- one more, while the ring is not full
    zero_more : (k : RoomKind) → Fine k s u a b w → Lined k s key n w → n < ring_of w → Lined k s key (suc n) (after k s w u (zero_op k key))
    zero_more k f l h = longer-lined k (after k s w u (zero_op k key)) _ (held k f (zero_number k f l ∙ none)) (zero-longer k l)
      where
        none : ◌≡◌ {A = ℕ} (cond (leb (ring_of w) n) 12 0) 0
        none = ap (λ (z : Bool). cond z 12 0) (lt-leb (ring_of w) n h)

        held : (j : RoomKind) → Fine j s (n * apart_ticks s) a b w → first (table_of j s w (n * apart_ticks s) (zero_op j key)) ≡ 0 →
            held_in (after j s w (n * apart_ticks s) (zero_op j key)) key ≡ left_by j s (ring_of w) (n * apart_ticks s) (zero_op j key) (held_in w key)
        held kind.Absolute f e =
            held-short _ key is.short ∙ own_held kind.Absolute s w (n * apart_ticks s) f.sane (zero_op kind.Absolute key) is.bytes refl e
        held kind.Suppressed f e =
            held-short _ key is.short ∙ own_held kind.Suppressed s w (n * apart_ticks s) f.sane (zero_op kind.Suppressed key) is.bytes refl e

    -- and once it is
    zero-full : (k : RoomKind) → Fine k s u a b w → Lined k s key n w → ring_of w ≤ n → answer_number k s w u (zero_op k key) ≡ 12
    zero-full k f l h =
        let op = zero_op k key in
        let e : first (table_of k s w u op) ≡ 12 = zero_number k f l ∙ ap (λ (z : Bool). cond z 12 0) (le-leb (ring_of w) n h) in
        ap number_of (told-row k s w u op) ∙ ap (λ (m : ℕ). number_of (cond (eqb m 0) (row_for k s u op (held_in w (key_in op))) (refused_row m))) e

  -- ---- from an empty room

  module _ (k : RoomKind) (ring l : ℕ) (e : fits slots ring l ≡ true) where
    abbrev room : ℕ → List ℕ
    room n = words k s (empty slots ring) (zeros k s key n)

    -- after n of them
    pub record State (n : ℕ) : Type 0 where
      pub fine : Fine k s (n * apart_ticks s) a b (words k s (empty slots ring) (zeros k s key n))
      pub slots-are : slots_of (words k s (empty slots ring) (zeros k s key n)) ≡ slots
      pub ring-is : ring_of (words k s (empty slots ring) (zeros k s key n)) ≡ ring
      pub lined : Lined k s key n (words k s (empty slots ring) (zeros k s key n))

    empty-holding : holding (empty slots ring) key.caller ≡ 0
    empty-holding = go (eqb key.caller.party 1)
      where
        none : Kept (empty slots ring) 0 0
        none = (empty-fine k s slots ring l 0 0 e).kept

        go : (z : Bool) → ◌≡◌ {A = ℕ} (cond z (slots_held (empty slots ring) first_mark) (slots_held (empty slots ring) second_mark)) 0
        go true = omega (arith, none.first)
        go false = omega (arith, none.second)

    empty_left : none_left (empty slots ring) key.caller ≡ false
    unfolding none_left
    empty_left = lt-leb (promised key.caller) (holding (empty slots ring) key.caller) (omega (arith, empty-holding, is.some))

    empty-nothing : held_in (empty slots ring) key ≡ nothing
    empty-nothing = go (dec_lt (addressed (empty slots ring) key) (slots_of (empty slots ring)))
      where
        go : Dec (addressed (empty slots ring) key < slots_of (empty slots ring)) → held_in (empty slots ring) key ≡ nothing
        go (yes h) = absurd (addressed-held (empty slots ring) key h (empty-free slots ring (addressed (empty slots ring) key)))
        go (no n) = held_none (empty slots ring) key (omega arith)

    state-none : State 0
    unfolding empty
    state-none = let f = empty-fine k s slots ring l a b e in record {
      fine = record { sane = f.sane; last = omega (arith, f.last); kept = f.kept };
      slots-are = refl;
      ring-is = refl;
      lined = record {
        known = ap (λ (h : Held). h.known) empty-nothing ∙ sym (le-ltb 0 0 (omega arith));
        view = ap (λ (h : Held). h.buckets) empty-nothing ∙ sym (row-none (apart_ticks s));
        limit = λ z. absurd (omega arith);
        slot = ap₂ lacks_slot empty_left empty-nothing;
      };
    }

    state-more : (n : ℕ) → n < ring → n < sufficient_ring s → State n → State (suc n)
    state-more n h g x =
        let op = zero_op k key in
        let t = n * apart_ticks s in record {
          fine = fine-after k s t (suc n * apart_ticks s) a b (room n) op (zero-bytes k) (zero-gives k) (omega arith) x.fine;
          slots-are = slots-after k s (room n) t x.fine.sane op (zero-bytes k) ∙ x.slots-are;
          ring-is = ring-after k s (room n) t x.fine.sane op (zero-bytes k) ∙ x.ring-is;
          lined = zero_more n (zeros_within s n g) (room n) x.slots-are k x.fine x.lined (omega (arith, h, x.ring-is));
        }

    pub state : (n : ℕ) → n ≤ ring → n ≤ sufficient_ring s → State n
    state zero h g = state-none
    state (suc n) h g = state-more n (omega arith) (omega arith) (state n (omega arith) (omega arith))

    -- the increment that finds the ring full
    pub zeros-full : ring < sufficient_ring s → answer_number k s (words k s (empty slots ring) (zeros k s key ring)) (ring * apart_ticks s) (zero_op k key) ≡ 12
    zeros-full h =
        let x = state ring (omega arith) (omega arith) in
        zero-full ring (zeros_within s ring h) (room ring) x.slots-are k x.fine x.lined (omega (arith, x.ring-is))
