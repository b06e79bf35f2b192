-- The sweep over a key's buckets, bucket by bucket, and what a pass finds. Every sum is what a total has left, so nothing wraps
-- whatever the words.
-- Assumes nothing.
use Rattle.std.specs.Prelude.{Bool, true, false, not, ◌&&◌, ◌||◌, cond, List, [], ◌∷◌, ℕ, ◌+◌, ◌-◌, get_or, drop, leb, ltb, eqb}
use Rattle.ring.specs.declared.Bucket.{Bucket}
use Rattle.ring.specs.Ring.{no_bucket, counts, declineds, total_of, declined_of, len_of, buckets}
use Rattle.ring.specs.Sound.{sound_buckets}
use Rattle.sweep.specs.declared.tally.Tally.{Tally}
use Rattle.sweep.specs.declared.tally.Gone.{Gone}
use Rattle.sweep.specs.declared.tally.Mark.{Mark}
use Rattle.sweep.specs.declared.tally.Pass.{Pass}
use Rattle.settings.specs.Clock.{age}
use Rattle.rules.specs.Buckets.{older, ahead}

-- whether the next bucket keeps the pass sound
unfoldable pub good_of : Tally → Bucket → Bool
good_of a x = leb a.lo x.time && (leb x.declined x.count && (leb x.count a.left && leb x.declined a.spare))

unfoldable pub step_of : Tally → Bucket → Tally
step_of a x = record { lo = x.time; left = a.left - x.count; spare = a.spare - x.declined }

-- behind the last: times do not fall, so the last one tells for all
unfoldable pub ended_of : ℕ → Tally → Bool
ended_of last a = leb a.lo last && (eqb a.left 0 && eqb a.spare 0)

unfoldable pub swept : ℕ → Tally → List Bucket → Bool
swept last a [] = ended_of last a
swept last a (x ∷ xs) = good_of a x && swept last (step_of a x) xs

-- before the first, with these totals
abbrev pub begun : ℕ → ℕ → Tally
begun total declined = record { lo = 0; left = total; spare = declined }

abbrev pub sweep_of : ℕ → List ℕ → ℕ → Bool
sweep_of r b last = swept last (begun (total_of b) (declined_of b)) (buckets r b)

-- the oldest that are over w, and the totals without them
abbrev pub fewer : Gone → Bucket → Gone
fewer g x = record { buckets = g.buckets + 1; total = g.total - x.count; declined = g.declined - x.declined }

unfoldable pub gone_from : ℕ → ℕ → Gone → List Bucket → Gone
gone_from w t g [] = g
gone_from w t g (x ∷ xs) = cond (older w t x) (gone_from w t (fewer g x) xs) g

abbrev pub gone_none : ℕ → ℕ → Gone
gone_none total declined = record { buckets = 0; total = total; declined = declined }

abbrev pub gone_of : ℕ → List ℕ → ℕ → ℕ → Gone
gone_of r b t w = gone_from w t (gone_none (total_of b) (declined_of b)) (buckets r b)

-- of a look: nothing, unless the oldest bucket's age is over look
abbrev pub gone_at : ℕ → ℕ → List ℕ → ℕ → ℕ → Gone
gone_at look r b t w = cond (ltb look (t - (get_or (buckets r b) 0 no_bucket).time)) (gone_of r b t w) (gone_none (total_of b) (declined_of b))

abbrev pub mark : Bucket → Mark
mark x = record { count = x.count; time = x.time }

-- what the code tells: of n buckets g go, o is the oldest that is left, m the newest, f the oldest of all
abbrev pub telling : ℕ → Gone → Bucket → Bucket → Bucket → Pass
telling n g o m f = record {
  sound = true;
  buckets = n;
  expired = g.buckets;
  live_total = g.total;
  live_declined = g.declined;
  newest_time = m.time;
  oldest = mark o;
  eldest = mark f;
}

-- what is found where the buckets are sound, and where not
abbrev pub found : ℕ → List Bucket → ℕ → ℕ → Pass
found n xs t w = record {
  sound = true;
  buckets = n;
  expired = ahead w t xs;
  live_total = counts (drop (ahead w t xs) xs);
  live_declined = declineds (drop (ahead w t xs) xs);
  newest_time = (get_or xs (n - 1) no_bucket).time;
  oldest = mark (get_or xs (ahead w t xs) no_bucket);
  eldest = mark (get_or xs 0 no_bucket);
}

abbrev pub unsound : Pass
unsound = record {
  sound = false;
  buckets = 0;
  expired = 0;
  live_total = 0;
  live_declined = 0;
  newest_time = 0;
  oldest = mark no_bucket;
  eldest = mark no_bucket;
}

abbrev pub pick : Bool → Pass → Pass → Pass
pick true x y = x
pick false x y = y

unfoldable pub pass_of : ℕ → List ℕ → ℕ → ℕ → ℕ → Pass
pass_of r b last t w = pick (sound_buckets r b last) (found (len_of b) (buckets r b) t w) unsound

-- ---- a look

-- it leaves what is expired unless the oldest bucket's age is over look
abbrev pub leaves : ℕ → ℕ → Pass → Bool
leaves look t p = not (eqb p.expired 0 || ltb look (age t p.eldest.time))

-- with all buckets, whose totals are given
abbrev pub all_in : ℕ → ℕ → Pass → Pass
all_in total declined p = record {
  sound = p.sound;
  buckets = p.buckets;
  expired = 0;
  live_total = total;
  live_declined = declined;
  newest_time = p.newest_time;
  oldest = p.eldest;
  eldest = p.eldest;
}

abbrev pub looked : ℕ → ℕ → ℕ → ℕ → Pass → Pass
looked look t total declined p = cond (leaves look t p) (all_in total declined p) p

-- of a body's words
unfoldable pub looked_pass : ℕ → ℕ → List ℕ → Pass → Pass
looked_pass look t b p = looked look t (total_of b) (declined_of b) p
