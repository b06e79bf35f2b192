-- What a cleanup leaves: every word but uses, who holds a slot and the last reading; of each slot what the rule keeps; slots in use sound, keys in one slot
-- each.
-- Assumes nothing.
use Rattle.std.specs.Prelude.{◌≡◌, Bool, true, false, not, ◌&&◌, ◌||◌, List, ◌≢◌, ℕ, ◌≤◌, ◌<◌, length, get_or, set, eqb, Ok}
use Rattle.std.proofs.Math.Path.{refl, ap}
use Rattle.std.proofs.Common.{sym, subst, ◌∙◌, arith, length-set, get_or-set_same, get_or-set_other, eq-eqb, ne_eqb, eqb-true, le-leb, leb-true, lt-ltb, le-ltb}
use Rattle.std.proofs.lemmas.Bool.{false≢true}
use Rattle.std.proofs.Math.Decide.{ℕ_discrete}
use Rattle.settings.specs.Clock.{age_in_milliseconds, ticks_in}
use Rattle.base.specs.Decides.{and-true, true-and}
use Rattle.suppression.specs.Factor.{factor_word_ok}
use Rattle.settings.specs.declared.Settings.{Settings}
use Rattle.rules.specs.Buckets.{newest}
use Rattle.ring.specs.declared.Bucket.{Bucket}
use Rattle.layout.specs.Layout.{slots_word, ring_word, last_word, firsts_word, seconds_word}
use Rattle.ring.specs.Ring.{buckets}
use Rattle.ring.specs.Sound.{sound_buckets, sound-true, true-sound, sound-later}
use Rattle.room.specs.Room.{slots_of, ring_of, last_of, entry_of, Room, holder_of, use_of, used_at, key_at, body_of, with_reading}
use Rattle.room.specs.Entries.{holder-same, used-held, used-free}
use Rattle.parties.specs.declared.Caller.{Caller}
use Rattle.keys.specs.Keys.{key_fits}
use Rattle.room.specs.Laws.{room-same}
use Rattle.frame.specs.Frame.{key-ext, body_ext}
use Rattle.frame.specs.Distinct.{Distinct}
use Rattle.rules.specs.declared.RoomKind.{RoomKind}
use Rattle.rules.specs.declared.RoomKind.TheVariants.{Absolute, Suppressed}
use Rattle.opened.specs.Sound.{factor_of, factor_time_of, has_series, has_cached, right_use, sound_series, sound_cached, sound_slot}
use Rattle.judge.specs.Verdict.{unless_refused}
use Rattle.cleanup.specs.Cleanup.{refusal, cleanup}
use Rattle.stale.specs.Uses.{uses, use_after, use_next, swept, cleaned}
use Rattle.rules.specs.Stale.{series_stays, factor_stays}
use Rattle.cleanup.specs.Laws.{Passed, passed-sound, sound-parts, parts-sound}
use Rattle.stale.specs.Swept.{swept-length, swept-other, swept-settled}
use Rattle.leaves.specs.Cleanup.{Cleaned, series_kept, cached_kept}

-- ---- every word

pub clean_run : (w : List ℕ) (t ticks stale : ℕ) → Room w → Cleaned w (cleaned w t ticks stale) t ticks stale
unfolding cleaned with_reading
clean_run w t ticks stale o =
    let y = swept w t ticks stale (slots_of w) in
    let v = set y last_word t in
    let l = swept-length w t ticks stale (slots_of w) in
    let long : length v ≡ length w = length-set y last_word t ∙ l in
    let f : (j : ℕ) → j ≢ last_word → get_or v j 0 ≡ get_or y j 0 = λ j n. get_or-set_other y last_word j t 0 n in
    let g : (j : ℕ) → j ≢ last_word → j ≢ firsts_word → j ≢ seconds_word → ((i : ℕ) → i < slots_of w → j ≢ entry_of i) → get_or v j 0 ≡ get_or w j 0 =
    λ j n p q e. f j n ∙ swept-other w t ticks stale (slots_of w) j p q e in
    let n : slots_of v ≡ slots_of w = g slots_word (omega arith) (omega arith) (omega arith) (λ i h. omega arith) in
    let r : ring_of v ≡ ring_of w = g ring_word (omega arith) (omega arith) (omega arith) (λ i h. omega arith) in
    record {
      room = room-same w v n r long o;
      long = long;
      slots = n;
      ring = r;
      last = get_or-set_same y last_word t 0 (omega (arith, o.long, l));
      settled = λ i h.
          let q = swept-settled w t ticks stale (slots_of w) i h (omega (arith, o.long)) in
          let a = holder-same y v (f firsts_word (omega arith)) (f seconds_word (omega arith)) i in
          let b = f (entry_of i) (omega arith) in
          record { goes = λ e. a ∙ q.goes e; stays = λ e. a ∙ q.stays e; used = λ e. b ∙ q.used e };
      words = g;
      bodies = body_ext w v long n r (λ j p. g j (omega arith) (omega arith) (omega arith) (λ h a. omega arith));
    }

-- ---- a use by its two parts

pub uses-series : (x y : Bool) → has_series (uses x y) ≡ x
uses-series true true = refl
uses-series true false = refl
uses-series false true = refl
uses-series false false = refl

pub uses-cached : (x y : Bool) → has_cached (uses x y) ≡ y
uses-cached true true = refl
uses-cached true false = refl
uses-cached false true = refl
uses-cached false false = refl

-- a use that is right stays right, unless nothing stays
right-after : (kind : RoomKind) (u : ℕ) (x y : Bool) → right_use kind u ≡ true → uses (has_series u && x) (has_cached u && y) ≢ 0 →
    right_use kind (uses (has_series u && x) (has_cached u && y)) ≡ true
unfolding right_use
right-after Absolute u x y e n =
    let p : u ≡ 1 = eqb-true u 1 e in
    subst (λ (k : ℕ). eqb (uses (has_series k && x) (has_cached k && y)) 1 ≡ true) (sym p)
    (go x (subst (λ (k : ℕ). uses (has_series k && x) (has_cached k && y) ≢ 0) p n))
  where
    go : (x : Bool) → uses x false ≢ 0 → eqb (uses x false) 1 ≡ true
    go true n = refl
    go false n = absurd (n refl)
right-after Suppressed u x y e n = go (has_series u && x) (has_cached u && y) n
  where
    go : (a b : Bool) → uses a b ≢ 0 → has_series (uses a b) || has_cached (uses a b) ≡ true
    go true true n = refl
    go true false n = refl
    go false true n = refl
    go false false n = absurd (n refl)

-- ---- each slot: "Cleanup drops a series with no bucket or whose newest age is over the stale time; a cached factor stays only at an age below it"

module _ {w v : List ℕ} {t ticks stale : ℕ} (c : Cleaned w v t ticks stale) (i : ℕ) (h : i < slots_of w) where
  next-is : use_next w t ticks stale i ≡ uses (series_kept w t ticks stale i) (cached_kept w t ticks stale i)
  unfolding use_after
  next-is = refl

  -- nothing stays of a free slot
  pub next-free : holder_of w i ≡ 0 → use_next w t ticks stale i ≡ 0
  unfolding use_after
  next-free e = ap
      (λ (u : ℕ). uses (has_series u && series_stays (buckets (ring_of w) (body_of w i)) t ticks stale)
      (has_cached u && factor_stays (factor_time_of (body_of w i)) t ticks stale)) (used-free w i e)

  use-is : used_at v i ≡ uses (series_kept w t ticks stale i) (cached_kept w t ticks stale i)
  use-is = go (ℕ_discrete (use_next w t ticks stale i) 0) ∙ next-is
    where
      go : Dec (use_next w t ticks stale i ≡ 0) → used_at v i ≡ use_next w t ticks stale i
      go (yes e) = used-free v i ((c.settled i h).goes e) ∙ sym e
      go (no e) = used-held v i (λ z. e (next-free (sym ((c.settled i h).stays e) ∙ z))) ∙ (c.settled i h).used e

  pub series-kept : has_series (used_at v i) ≡ series_kept w t ticks stale i
  series-kept = ap has_series use-is ∙ uses-series (series_kept w t ticks stale i) (cached_kept w t ticks stale i)

  pub cached-kept : has_cached (used_at v i) ≡ cached_kept w t ticks stale i
  cached-kept = ap has_cached use-is ∙ uses-cached (series_kept w t ticks stale i) (cached_kept w t ticks stale i)

  -- a free slot stays free
  pub free-still : holder_of w i ≡ 0 → holder_of v i ≡ 0
  free-still e = (c.settled i h).goes (next-free e)

  pub was-held : holder_of v i ≢ 0 → holder_of w i ≢ 0
  was-held n e = n (free-still e)

  -- a slot that is in use yet has what stays of it, its holder and its key
  pub some-stays : holder_of v i ≢ 0 → use_next w t ticks stale i ≢ 0
  some-stays n e = n ((c.settled i h).goes e)

  pub same-holder : holder_of v i ≢ 0 → holder_of v i ≡ holder_of w i
  same-holder n = (c.settled i h).stays (some-stays n)

  pub same-key : holder_of v i ≢ 0 → key_at v i ≡ key_at w i
  same-key n =
      key-ext w v i (same-holder n)
      (λ j p q. c.words j (omega arith) (omega arith) (omega arith) (λ k a. omega arith))

-- ---- keys

pub clean-distinct : {w v : List ℕ} {t ticks stale : ℕ} → Cleaned w v t ticks stale → Distinct w → Distinct v
clean-distinct {w} {v} c d = record {
  once = λ i j p q a b e.
      let p' : i < slots_of w = omega (arith, c.slots) in
      let q' : j < slots_of w = omega (arith, c.slots) in
      d.once i j p' q' (was-held c i p' a) (was-held c j q' b) (sym (same-key c i p' a) ∙ e ∙ same-key c j q' b);
}

-- ---- sound again

-- a later last reading
pub series-later : (kind : RoomKind) (s : Settings) (r last t : ℕ) (b : List ℕ) → last ≤ t → sound_series kind s r last b ≡ true →
    sound_series kind s r t b ≡ true
unfolding sound_series
series-later kind s r last t b h e =
    let p = and-true (sound_buckets r b last) _ e in
    true-and (sound_buckets r b t) _ (true-sound r b t (sound-later t h (sound-true r b last p.0))) p.1

pub cached-later : (last t : ℕ) (b : List ℕ) → last ≤ t → sound_cached last b ≡ true → sound_cached t b ≡ true
unfolding sound_cached
cached-later last t b h e =
    let p = and-true (factor_word_ok (factor_of b)) _ e in
    true-and (factor_word_ok (factor_of b)) _ p.0 (le-leb (factor_time_of b) t (omega (arith, leb-true (factor_time_of b) last p.1)))

-- judged only where it is there: what stays was there
part-still : (a b x p q : Bool) → b ≡ a && x → (p ≡ true → q ≡ true) → not a || p ≡ true → not b || q ≡ true
part-still a false x p q e f g = refl
part-still true true x p q e f g = f g
part-still false true x p q e f g = absurd (false≢true (sym e))

module _ (kind : RoomKind) (s : Settings) (w v : List ℕ) (t ticks stale : ℕ) (who : Caller) (c : Cleaned w v t ticks stale) (p : Passed kind s w t who) where
  pub clean-sound : (i : ℕ) → i < slots_of w → holder_of v i ≢ 0 → sound_slot kind s v i ≡ true
  clean-sound i h n =
      let m = was-held c i h n in
      let q = sound-parts kind s w i (passed-sound kind s w t who p i h m) in
      let uv = used-held v i n in
      let uw = used-held w i m in
      let e = use-is c i h in
      let kept : has_series (use_of v i) ≡ has_series (use_of w i) && series_stays (buckets (ring_of w) (body_of w i)) t ticks stale =
      ap has_series (sym uv) ∙ series-kept c i h ∙
      ap (λ (u : ℕ). has_series u && series_stays (buckets (ring_of w) (body_of w i)) t ticks stale) uw in
      let cache_kept : has_cached (use_of v i) ≡ has_cached (use_of w i) && factor_stays (factor_time_of (body_of w i)) t ticks stale =
      ap has_cached (sym uv) ∙ cached-kept c i h ∙ ap (λ (u : ℕ). has_cached u && factor_stays (factor_time_of (body_of w i)) t ticks stale) uw in
      let series : not (has_series (use_of v i)) || sound_series kind s (ring_of w) t (body_of w i) ≡ true =
      part-still (has_series (use_of w i)) (has_series (use_of v i)) (series_stays (buckets (ring_of w) (body_of w i)) t ticks stale)
      (sound_series kind s (ring_of w) (last_of w) (body_of w i)) (sound_series kind s (ring_of w) t (body_of w i)) kept
      (series-later kind s (ring_of w) (last_of w) t (body_of w i) p.later) q.series in
      let cached : not (has_cached (use_of v i)) || sound_cached t (body_of w i) ≡ true =
      part-still (has_cached (use_of w i)) (has_cached (use_of v i)) (factor_stays (factor_time_of (body_of w i)) t ticks stale) (sound_cached (last_of w) (body_of w i))
      (sound_cached t (body_of w i)) cache_kept (cached-later (last_of w) t (body_of w i) p.later) q.cached in
      let f : use_of v i ≡
      uses (has_series (use_of w i) && series_stays (buckets (ring_of w) (body_of w i)) t ticks stale)
      (has_cached (use_of w i) && factor_stays (factor_time_of (body_of w i)) t ticks stale) =
      sym uv ∙ e ∙ ap (λ (u : ℕ). uses (has_series u && series_stays (buckets (ring_of w) (body_of w i)) t ticks stale)
      (has_cached u && factor_stays (factor_time_of (body_of w i)) t ticks stale)) uw in
      parts-sound kind s v i
      (record {
        key = ap key_fits (same-key c i h n) ∙ q.key;
        uses = ap (right_use kind) f ∙ right-after kind (use_of w i) (series_stays (buckets (ring_of w) (body_of w i)) t ticks stale)
            (factor_stays (factor_time_of (body_of w i)) t ticks stale) q.uses
            (λ z. some-stays c i h n (sym ((c.settled i h).used (some-stays c i h n)) ∙ f ∙ z));
        series = subst (λ (r : ℕ). not (has_series (use_of v i)) || sound_series kind s r (last_of v) (body_of v i) ≡ true) (sym c.ring)
            (subst (λ (l : ℕ). not (has_series (use_of v i)) || sound_series kind s (ring_of w) l (body_of v i) ≡ true) (sym c.last)
            (subst (λ (b : List ℕ). not (has_series (use_of v i)) || sound_series kind s (ring_of w) t b ≡ true) (sym (c.bodies i)) series));
        cached = subst (λ (l : ℕ). not (has_cached (use_of v i)) || sound_cached l (body_of v i) ≡ true) (sym c.last)
            (subst (λ (b : List ℕ). not (has_cached (use_of v i)) || sound_cached t b ≡ true) (sym (c.bodies i)) cached);
      })

-- ---- the call

module _ (kind : RoomKind) (s : Settings) (w : List ℕ) (t : ℕ) (who : Caller) (stale : ℕ) where
  -- not refused
  pub done-answer : refusal kind s w t who ≡ 0 → (cleanup kind s w t who stale).answer ≡ Ok tt
  unfolding cleanup unless_refused
  done-answer e = rw (eq-eqb _ 0 e)

  pub done-words : refusal kind s w t who ≡ 0 → (cleanup kind s w t who stale).words ≡ cleaned w t (ticks_in s) stale
  unfolding cleanup unless_refused
  done-words e = rw (eq-eqb _ 0 e)

  -- refused: every word as it was
  pub refused-words : refusal kind s w t who ≢ 0 → (cleanup kind s w t who stale).words ≡ w
  unfolding cleanup unless_refused
  refused-words z = rw (ne_eqb _ 0 z)

-- ---- at an age equal to the stale time a series stays and a cached factor goes

pub series-at-stale : (xs : List Bucket) (t ticks stale : ℕ) → 0 < length xs → age_in_milliseconds ticks t (newest xs).time ≡ stale →
    series_stays xs t ticks stale ≡ true
unfolding series_stays
series-at-stale xs t ticks stale h e = rw (lt-ltb 0 (length xs) h, le-leb (age_in_milliseconds ticks t (newest xs).time) stale (omega arith))

pub factor-at-stale : (time t ticks stale : ℕ) → age_in_milliseconds ticks t time ≡ stale → factor_stays time t ticks stale ≡ false
unfolding factor_stays
factor-at-stale time t ticks stale e = rw (le-ltb (age_in_milliseconds ticks t time) stale (omega arith))
