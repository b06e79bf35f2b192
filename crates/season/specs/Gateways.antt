-- Wrong gateways: each is the gateway itself but for one thing.
-- Assumes nothing.
use Rattle.std.specs.Prelude.{Bool, true, false, cond, not, ◌&&◌, List, ℕ, leb, ltb, eqb, Ok}
use Rattle.common.specs.Refusals.{first, refuse}
use Rattle.rules.specs.Suppressed.{admits}
use Rattle.table.specs.Table.{empty_table, numbered, is_known, sound_for, last_number, remembered}
use Rattle.gateway.specs.Gateway.{Verdict, is_held, gate_turns, as_shot}
use Rattle.steps.specs.Ops.{Touch, slot_of, stale_by, whole, touches}
use Rattle.season.specs.Season.{Shot, Gateway, limiter}
use Rattle.season.specs.Own.{own}
use Rattle.answers.specs.declared.ShotOutcome.TheVariants.{Held}

-- ---- "one that remembers before it asks"

-- the limiter is asked
abbrev pub asks : List ℕ → Shot → Bool
asks w c = eqb (first (gate_turns w c.controller c.number)) 0 && not (is_held w c.controller c.number)

abbrev pub eager : Gateway
eager = record {
  shot = λ w c.
      let v = own.shot w c in
      record { answer = v.answer; table = cond (asks w c) (remembered w c.controller c.number) w; room = v.room };
  between = own.between;
}

-- ---- "one that forgets at cleanup"

abbrev pub cleans : Touch → Bool
cleans (slot_of key) = false
cleans (stale_by stale) = true
cleans (whole m) = false

abbrev pub forgetful : Gateway
forgetful = record { shot = own.shot; between = λ w o. cond (cleans (touches o.op)) empty_table w }

-- ---- "one that compares with at most in place of equal"

abbrev pub holds : List ℕ → Shot → Bool
holds w c = numbered c.number && (sound_for w c.controller && (is_known w c.controller && leb c.number (last_number w c.controller)))

-- a shot that is held by test h, else v
abbrev pub held_or : Bool → List ℕ → Shot → Verdict → Verdict
held_or true w c v = record { answer = Ok Held; table = w; room = c.room }
held_or false w c v = v

abbrev pub at_most : Gateway
at_most = record { shot = λ w c. held_or (holds w c) w c (own.shot w c); between = own.between }

-- ---- one without 20, one without a table, and one that turns every shot away

-- the limiter's, and remembered if admitted
abbrev pub asked : List ℕ → Shot → Verdict
asked w c =
    let v = limiter c in
    record { answer = as_shot v.answer; table = cond (admits v.answer) (remembered w c.controller c.number) w; room = v.words }

abbrev pub asked_or : Bool → List ℕ → Shot → Verdict → Verdict
asked_or true w c v = asked w c
asked_or false w c v = v

-- a lower number is asked as a higher one is
abbrev pub lax : Gateway
lax = record { shot = λ w c. asked_or (numbered c.number && ltb c.number (last_number w c.controller)) w c (own.shot w c); between = own.between }

-- the limiter alone
abbrev pub alone : Gateway
alone = record { shot = λ w c. let v = asked w c in record { answer = v.answer; table = w; room = v.room }; between = own.between }

abbrev pub closed : Gateway
closed = record { shot = λ w c. record { answer = refuse 21; table = w; room = c.room }; between = own.between }
