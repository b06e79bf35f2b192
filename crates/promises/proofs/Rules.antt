-- Demand 2, on the side of the proofs: what each call that is not turned away answers and leaves is what document 01's rules make of what it finds. A
-- field for each call; what the rules are stands in the records that the fields name. Of increments and of `get` it is said of any function with their
-- inputs and results, and the limiters' own are such functions. (On the other side the original Rust is run beside the calls: docs/DIFFERENCES.md.)
-- Assumes nothing.
use Rattle.std.specs.Prelude.{◌≡◌, Bool, true, cond, List, ℕ, eqb}
use Rattle.std.proofs.Common.{sym, subst, ◌∙◌, eq-eqb}
use Rattle.settings.specs.Clock.{ticks_in}
use Rattle.common.specs.Refusals.{first}
use Rattle.settings.specs.declared.Settings.{Settings}
use Rattle.parties.specs.declared.Caller.{Caller}
use Rattle.rules.specs.declared.RoomKind.{RoomKind}
use Rattle.rules.specs.declared.RoomKind.TheVariants as kind
use Rattle.cleanup.specs.Cleanup as Cleanup
use Rattle.stale.specs.Uses as Uses
use Rattle.leaves.proofs.Cleanup.{done-answer, done-words}
use Rattle.leaves.proofs.Absolute as Absolutely
use Rattle.leaves.proofs.SuppressedFollows as Own_laws
use Rattle.provider.specs.Provider as Provider
use Rattle.provider.specs.Laws.{lowest-none, both-by-table}
use Rattle.readout.proofs.Rule.{reads-out}
use Rattle.steps.specs.Table.{cleans_both}
use Rattle.promises.proofs.Answers.{answered}
use Rattle.promises.proofs.Refusals.{reads-number}
use Rattle.leaves.specs.Shared.{CleanRule, rate-follows, delete-follows, set-follows}
use Rattle.leaves.proofs.Shared.{clear-follows}
use Rattle.leaves.proofs.Shared.{clean-follows}
use Rattle.promises.specs.Rules.{CleansRoom, CleansBoth, Demand2}

-- ---- the promise

cleans-room : (kind : RoomKind) (s : Settings) (w : List ℕ) (t : ℕ) (who : Caller) (stale : ℕ) → Cleanup.refusal kind s w t who ≡ 0 →
    CleansRoom kind s w t who stale
cleans-room kind s w t who stale e =
    record {
      answer = done-answer kind s w t who stale e;
      room = subst (λ (v : List ℕ). CleanRule kind s w v t stale) (sym (done-words kind s w t who stale e))
          (clean-follows kind s w t who stale e);
    }

cleans-both : (s : Settings) (a b : List ℕ) (t : ℕ) (c d : Caller) (stale : ℕ) → first (cleans_both s a b t c d) ≡ 0 → CleansBoth s a b t c d stale
unfolding Provider.decided
cleans-both s a b t c d stale e =
    let n : Provider.refusal_of_both s a b t c d ≡ 0 = both-by-table s a b t c d ∙ e in
    let z = lowest-none (Cleanup.refusal kind.Absolute s a t c) (Cleanup.refusal kind.Suppressed s b t d) n in
    let y : true ≡ eqb (Provider.refusal_of_both s a b t c d) 0 = sym (eq-eqb _ 0 n) in
    record {
      answer = rw n;
      absolute = subst (λ (x : Bool). CleanRule kind.Absolute s a (cond x (Uses.cleaned a t (ticks_in s) stale) a) t stale) y
          (clean-follows kind.Absolute s a t c stale z.0);
      suppressed = subst (λ (x : Bool). CleanRule kind.Suppressed s b (cond x (Uses.cleaned b t (ticks_in s) stale) b) t stale) y
          (clean-follows kind.Suppressed s b t d stale z.1);
    }

pub demand2 : Demand2
demand2 = record {
  answers = answered;
  absolute-inc = λ s w t key rate count draw y e. (Absolutely.inc-follows s w t key rate count y).done e;
  absolute-is-allowed = λ s w t key e. (Absolutely.ask-follows s w t key).done e;
  absolute-get = λ s w t key e. (Absolutely.get-follows s w t key).done e;
  suppressed-inc = λ s w t key rate count draw y e. (Own_laws.inc-follows s w t key rate count draw y).done e;
  suppressed-get = λ s w t key y e. (Own_laws.get-follows s w t key y).done e;
  suppressed-factor = λ s w t key y e. (Own_laws.factor-follows s w t key y).done e;
  set-rate-limit = rate-follows;
  delete = delete-follows;
  set_if = set-follows;
  clear = clear-follows;
  cleanup = cleans-room;
  provider-cleanup = cleans-both;
  read_out = λ kind s w key cells e. reads-out kind s w key cells (reads-number kind s w key ∙ e);
}
