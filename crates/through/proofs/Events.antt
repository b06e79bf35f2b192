-- What happens at a gateway with one table and one room: shots, any calls of the limiter on the room, new seasons. The limiter's own history in it: the
-- calls, and the shots that it is asked about.
-- Assumes nothing.
use Rattle.std.specs.Prelude.{◌≡◌, refl, Bool, true, false, ◌&&◌, cond, List, [], ◌∷◌, ℕ}
use Rattle.std.proofs.Common.{sym, ap, ap₂, ◌∙◌}
use Rattle.settings.specs.declared.Settings.{Settings}
use Rattle.parties.specs.Parties.{Sent}
use Rattle.rules.specs.declared.RoomKind.TheVariants.{Suppressed}
use Rattle.suppressed_verdicts.specs.Calls.{inc}
use Rattle.gateway.specs.Gateway as Gateway
use Rattle.gateway.specs.Gateway.{admits_shot}
use Rattle.gateway.proofs.Laws.{as-shot-admits}
use Rattle.admissions.specs.Log.{Entry, noted}
use Rattle.steps.specs.Ops.{Call, words}
use Rattle.steps.specs.Ops as Ops
use Rattle.demand3.specs.History.{same_key, admits_count, logged, admitted}
use Rattle.demand3.proofs.Decided.{admits-is}
use Rattle.demand3.specs.Demand3.{increment}
use Rattle.through.specs.Shot.{asks}
use Rattle.through.proofs.Shot.{shot-quiet, limiter-answers, limiter-leaves}
use Rattle.through.specs.Events.{Event, shot, call, season, Lent, after, left, asking, asked, counted, admitted_in}

-- ---- the room is the limiter's, and so is the log

one-room : (s : Settings) (x : Lent) (h : List ℕ) (calls : List (Call Suppressed)) (r : List ℕ) (e : Event) → h ≡ x.room → words Suppressed s r calls ≡ h →
    (after s x e).room ≡ words Suppressed s r (asking x e calls)
one-room s x h calls r (shot t key number rate draw) p q = go (asks x.table key.bytes number) refl
  where
    go : (z : Bool) → asks x.table key.bytes number ≡ z →
        (Gateway.shot s x.table x.room t key number rate draw).room ≡ words Suppressed s r (cond z (increment t key rate 1 draw ∷ calls) calls)
    go true e =
        limiter-leaves s x.table x.room t key number rate draw e ∙ ap (λ (y : List ℕ). (inc s y t key rate 1 draw).words) (sym (q ∙ p))
    go false e = (shot-quiet s x.table x.room t key number rate draw e).room ∙ sym (q ∙ p)
one-room s x h calls r (call c) p q = ap (λ (y : List ℕ). Ops.after Suppressed s y c.reading c.op) (sym (q ∙ p))
one-room s x h calls r season p q = sym (q ∙ p)

pub same-room : (s : Settings) (x : Lent) (es : List Event) → (left s x es).room ≡ words Suppressed s x.room (asked s x es)
same-room s x [] = refl
same-room s x (e ∷ es) = one-room s (left s x es) (left s x es).room (asked s x es) x.room e refl (sym (same-room s x es))

one-log : (s : Settings) (key : Sent) (x : Lent) (calls : List (Call Suppressed)) (r : List ℕ) (log : List Entry) (e : Event) →
    words Suppressed s r calls ≡ x.room → log ≡ admitted s key r calls → counted s key x e log ≡ admitted s key r (asking x e calls)
one-log s key x calls r log (shot t k number rate draw) p q = go (asks x.table k.bytes number) refl
  where
    is : Bool
    is = admits_shot (Gateway.shot s x.table x.room t k number rate draw).answer

    go : (z : Bool) → asks x.table k.bytes number ≡ z →
        noted (same_key k key && is) t 1 log ≡ admitted s key r (cond z (increment t k rate 1 draw ∷ calls) calls)
    go true e =
        let d : is ≡ admits_count (inc s (words Suppressed s r calls) t k rate 1 draw).answer =
        ap admits_shot (limiter-answers s x.table x.room t k number rate draw e) ∙ as-shot-admits (inc s x.room t k rate 1 draw).answer ∙
        sym (admits-is (inc s x.room t k rate 1 draw).answer) ∙
        ap (λ (y : List ℕ). admits_count (inc s y t k rate 1 draw).answer) (sym p) in
        ap₂ (λ (b : Bool) (l : List Entry). noted (same_key k key && b) t 1 l) d q
    go false e =
        let n : is ≡ false = (shot-quiet s x.table x.room t k number rate draw e).none in
        ap (λ (b : Bool). noted (same_key k key && b) t 1 log) n ∙ nothing (same_key k key) ∙ q
      where
        nothing : (b : Bool) → noted (b && false) t 1 log ≡ log
        nothing true = refl
        nothing false = refl
one-log s key x calls r log (call c) p q = ap₂ (λ (y : List ℕ) (l : List Entry). logged s key y c.reading c.op l) (sym p) q
one-log s key x calls r log season p q = q

pub same_log : (s : Settings) (key : Sent) (x : Lent) (es : List Event) → admitted_in s key x es ≡ admitted s key x.room (asked s x es)
same_log s key x [] = refl
same_log s key x (e ∷ es) =
    one-log s key (left s x es) (asked s x es) x.room (admitted_in s key x es) e (sym (same-room s x es)) (same_log s key x es)
