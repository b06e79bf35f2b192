-- What the loops that read and write leave: the whole desk, and how many bytes went in and out. No contract can say which bytes those are, so a run has read
-- some bytes, as many as were counted, and the rest is what `desk_feed` makes of them.
-- Assumes nothing.
use Rattle.std.specs.Prelude.{◌≡◌, Bool, true, false, cond, ◌||◌, List, [], ℕ, ◌+◌, ◌≤◌, min, length, take, eqb, Ok, Err}
use Rattle.std.specs.declared.result.Result.{Result}
use Rattle.std.specs.Result.{is_ok}
use Rattle.desk_feed.specs.Feed.{Whole, whole, After, feed, finished, running, has_ended}
use Rattle.desk_run.specs.declared.Pumped.{Pumped}
use Rattle.desk_run.specs.declared.Served.{Served}
use Rattle.desk_run.specs.declared.Heard.{Heard}
use Rattle.desk_run.specs.declared.Heard.TheVariants.{Failed, Nothing, Bytes}
use Rattle.desk_run.specs.declared.Ending.{Ending}
use Rattle.desk_run.specs.declared.Ending.TheVariants.{Done, Unread, Unwritten, Endless}

-- a count stops at the largest number
abbrev pub most : ℕ
most = 18446744073709551615

abbrev pub capped : ℕ → ℕ
capped n = min n most

-- ---- what a read into n bytes gave

abbrev pub heard_in : ℕ → Heard
heard_in n = cond (eqb n 0) Nothing (Bytes n)

unfoldable pub heard_of : {E : Type 0} → Result ℕ E → ℕ → Heard
heard_of (Ok k) n = heard_in (min k n)
heard_of (Err e) n = Failed

abbrev pub is_failed : Heard → Bool
is_failed Failed = true
is_failed Nothing = false
is_failed (Bytes n) = false

abbrev pub is_bytes : Heard → Bool
is_bytes Failed = false
is_bytes Nothing = false
is_bytes (Bytes n) = true

abbrev pub is_nothing : Heard → Bool
is_nothing Failed = false
is_nothing Nothing = true
is_nothing (Bytes n) = false

-- ---- a block

-- v is w after the bytes xs, and what they print is handed on once, after `before` bytes
pub record Reached (w : Whole) (xs : List ℕ) (before : ℕ) (v : Whole) (put : ℕ) : Type 0 where
  pub after : v ≡ (feed w xs).whole
  pub counted : put ≡ capped (before + length (feed w xs).prints)

-- some of a block is taken, and all of it where every write was fine
pub record Pumping (w : Whole) (block : List ℕ) (before : ℕ) (r : Pumped) (a b h : List ℕ) : Type 0 where
  pub inside : r.taken ≤ length block
  pub reached : Reached w (take r.taken block) before (whole r.desk a b h) r.put
  pub all : is_ok r.outcome ≡ true → r.taken ≡ length block

-- ---- the end of the input

-- the memories are f's, and what f prints is handed on once, after `before` bytes
pub record Leaves (f : After) (before put : ℕ) (a b : List ℕ) : Type 0 where
  pub first : a ≡ f.whole.first
  pub second : b ≡ f.whole.second
  pub counted : put ≡ capped (before + length f.prints)

-- nothing happens
abbrev pub still : Whole → After
still w = record { whole = w; prints = [] }

-- after a read that gave no bytes: where it failed, the input has not ended
abbrev pub Closes : Ending → ℕ → Whole → Heard → ℕ → ℕ → List ℕ → List ℕ → Type 0
Closes Done l w last before put a b = (is_failed last ≡ false) × Leaves (finished l w) before put a b
Closes Unread l w last before put a b = (is_failed last ≡ true) × Leaves (still w) before put a b
Closes Unwritten l w last before put a b = Unit {0}
Closes Endless l w last before put a b = ⊥

pub record Closing (l : ℕ) (w : Whole) (last : Heard) (read before : ℕ) (r : Served) (a b : List ℕ) : Type 0 where
  pub answer : r.last ≡ last
  pub counted : r.read ≡ read
  pub ends : Closes r.ending l w last before r.put a b

-- ---- a run

-- the loop has read xs and answered it
pub record Standing (w : Whole) (xs : List ℕ) (v : Whole) (read put : ℕ) : Type 0 where
  pub heard : read ≡ capped (length xs)
  pub reached : Reached w xs 0 v put

-- xs was read: memories and hold are f's, and what f prints was handed on once
pub record Ran (f : After) (xs : List ℕ) (r : Served) (a b h : List ℕ) : Type 0 where
  pub heard : r.read ≡ capped (length xs)
  pub left : Leaves f 0 r.put a b
  pub hold : h ≡ f.whole.hold

-- All is done only where the last read was at the end of the input, or where the desk reads no more. Where a read failed, what was read before is answered.
abbrev pub EndsAs : Ending → ℕ → Whole → Served → List ℕ → List ℕ → List ℕ → Type 0
EndsAs Done l w r a b h = (xs : List ℕ) × (is_nothing r.last || has_ended (feed w xs).whole.desk ≡ true) × Ran (running l w xs) xs r a b h
EndsAs Unread l w r a b h = (xs : List ℕ) × (is_failed r.last ≡ true) × Ran (feed w xs) xs r a b h
EndsAs Unwritten l w r a b h = Unit {0}
EndsAs Endless l w r a b h = (xs : List ℕ) × (r.read ≡ most) × Ran (feed w xs) xs r a b h

abbrev pub Serves : ℕ → Whole → Served → List ℕ → List ℕ → List ℕ → Type 0
Serves l w r a b h = EndsAs r.ending l w r a b h
