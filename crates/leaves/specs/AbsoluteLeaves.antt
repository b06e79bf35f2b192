-- What the absolute limiter's calls leave, by document 01's rules on what the key holds: `Stands` says of a slot its buckets, limit and use, that it is
-- sound again, and that every other slot is word for word as it was.
-- Assumes nothing.
use Rattle.std.specs.Prelude.{◌≡◌, true, false, List, [], ◌∷◌, ℕ, Result, Ok}
use Rattle.settings.specs.Clock.{join_ticks}
use Rattle.settings.specs.declared.Settings.{Settings}
use Rattle.answers.specs.declared.RateLimitDecision.{RateLimitDecision}
use Rattle.common.specs.declared.units.RateLimit.{RateLimit}
use Rattle.rules.specs.Buckets.{joined}
use Rattle.ring.specs.declared.Bucket.{Bucket}
use Rattle.ring.specs.Ring.{bucket, counts}
use Rattle.rules.specs.declared.RoomKind.TheVariants.{Absolute}
use Rattle.rules.specs.Both.{limit_in, live_of, looked_of}
use Rattle.rules.specs.Absolute.{tested, whole_limit, allowed, decided, found_for}
use Rattle.room.specs.Room.{ring_of, body_of, vacant, with_reading}
use Rattle.parties.specs.Parties.{Sent, key_for}
use Rattle.judge.specs.Held.{held_in}
use Rattle.opened.specs.Sound.{factor_of, factor_time_of, addressed}
use Rattle.judge.specs.Verdict.{Verdict}
use Rattle.leaves.specs.Calls.{Stands}
use Rattle.common.specs.declared.refusal.Refusal.{Refusal}

-- a known key's series has buckets ys now, in its slot and with its limit; use, key and the two factor words are as they were
abbrev pub Left : Settings → List ℕ → List ℕ → ℕ → Sent → List Bucket → Type 0
Left s w v t key ys =
    Stands Absolute s w v (addressed w key) t (key_for key) (held_in w key).limit (factor_of (body_of w (addressed w key)))
    (factor_time_of (body_of w (addressed w key))) 1 ys

-- `get`: the live total; "eviction takes every expired bucket out"; an unknown key takes no slot
pub record GetLaw (s : Settings) (w : List ℕ) (t : ℕ) (key : Sent) (v : Verdict (Result ℕ Refusal)) : Type 0 where
  pub answer : v.answer ≡ Ok (counts (live_of s t (held_in w key)))
  pub unknown : (held_in w key).known ≡ false → v.words ≡ with_reading w t
  pub known : (held_in w key).known ≡ true → Left s w v.words t key (live_of s t (held_in w key))

-- `is_allowed`: expired buckets are out where it tests again and its first look finds one
pub record AskLaw (s : Settings) (w : List ℕ) (t : ℕ) (key : Sent) (v : Verdict RateLimitDecision) : Type 0 where
  pub answer : v.answer ≡ decided s t (held_in w key)
  pub unknown : (held_in w key).known ≡ false → v.words ≡ with_reading w t
  pub known : (held_in w key).known ≡ true → Left s w v.words t key (tested s t (whole_limit (held_in w key)) (held_in w key).buckets)

-- `inc`: "Limit = rate * W, stored at the key's first increment", in the lowest free slot; an allowed count is joined or added; a rejection leaves what
-- its first look does
pub record IncLaw (s : Settings) (w : List ℕ) (t : ℕ) (key : Sent) (rate : RateLimit) (c : ℕ) (v : Verdict RateLimitDecision) : Type 0 where
  pub answer : v.answer ≡ decided s t (held_in w key)
  pub unknown : (held_in w key).known ≡ false → Stands Absolute s w v.words (vacant w) t (key_for key) (limit_in Absolute s rate) 0 0 1 (bucket c 0 t ∷ [])
  pub accepted : (held_in w key).known ≡ true → allowed s t (held_in w key) ≡ true →
      Left s w v.words t key (joined (join_ticks s) t c 0 (found_for s (ring_of w) t c (held_in w key)))
  pub rejected : (held_in w key).known ≡ true → allowed s t (held_in w key) ≡ false → Left s w v.words t key (looked_of s t (held_in w key))
