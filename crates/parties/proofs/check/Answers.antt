-- 15, then 16.
-- Assumes nothing.
use mathlib.Core.Path.{sym}
use Rattle.common.specs.Refusals.{first}
use Rattle.parties.specs.Parties.{turns}
use Rattle.parties.proofs.Laws.{overdrawn-is}
use Rattle.parties.proofs.check.Goals as goal

pub returns-then-not-is_party : goal.returns-then-not-is_party
unfolding turns first
returns-then-not-is_party c =
    simp (sym c.is_party.ensures, c.if-not-is_party.true)

pub returns-then-is_overdrawn : goal.returns-then-is_overdrawn
unfolding turns first
returns-then-is_overdrawn c =
    simp (
      sym c.is_party.ensures,
      c.if-not-is_party.false,
      sym (overdrawn-is c.args.w.now c.args.caller c.args.held c.requires.1),
      sym c.is_overdrawn.ensures,
      c.if-is_overdrawn.true,
    )

pub returns : goal.returns
unfolding turns first
returns c =
    simp (
      sym c.is_party.ensures,
      c.if-not-is_party.false,
      sym (overdrawn-is c.args.w.now c.args.caller c.args.held c.requires.1),
      sym c.is_overdrawn.ensures,
      c.if-is_overdrawn.false,
    )
