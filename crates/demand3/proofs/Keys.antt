-- A key as a room knows it, by its party's mark and its bytes: the same key is the same there, with whatever promises a call comes, and another key is
-- another.
-- Assumes nothing.
use Rattle.std.specs.Prelude.{◌≡◌, refl, Bool, true, false, ◌||◌, ◌≢◌, ℕ, ◌≤◌, ltb, eqb, length}
use Rattle.std.proofs.Common.{sym, subst, ◌∙◌, arith, eqb-true}
use Rattle.std.proofs.Math.Path.{ap, ap₂}
use Rattle.std.proofs.Math.Bool.{cond}
use Rattle.std.proofs.lemmas.Bool.{false≢true}
use mathlib.Core.List.{List}
use Rattle.keys.specs.Keys.{key_of}
use Rattle.room.specs.Room.{slots_of, ring_of, use_of, find, body_of}
use Rattle.frame.specs.Keys as Frame
use Rattle.parties.specs.Parties.{Sent, key_for, is_party, mark_of}
use Rattle.opened.specs.Sound.{addressed}
use Rattle.judge.specs.Held.{held_in, held_of}
use Rattle.steps.specs.Leaves.{sent-holder, mark-some}
use Rattle.demand3.specs.History.{Same, Other, IsKey}

-- a party's mark, 1 or 2, is that of no other; 0 is the mark of what is no party
pub mark-same : (p q : ℕ) → is_party p ≡ true → mark_of p ≡ mark_of q → p ≡ q
mark-same p q is e = go (eqb p 1) refl (eqb p 2) refl (eqb q 1) refl (eqb q 2) refl is e
  where
    go : (a : Bool) → eqb p 1 ≡ a → (b : Bool) → eqb p 2 ≡ b → (c : Bool) → eqb q 1 ≡ c → (d : Bool) → eqb q 2 ≡ d → a || b ≡ true →
        ◌≡◌ {A = ℕ} (cond a 1 (cond b 2 0)) (cond c 1 (cond d 2 0)) → p ≡ q
    go true a b h true c d i z e = eqb-true p 1 a ∙ sym (eqb-true q 1 c)
    go true a b h false c true i z e = absurd (omega (arith, e))
    go true a b h false c false i z e = absurd (omega (arith, e))
    go false a true h true c d i z e = absurd (omega (arith, e))
    go false a true h false c true i z e = eqb-true p 2 h ∙ sym (eqb-true q 2 i)
    go false a true h false c false i z e = absurd (omega (arith, e))
    go false a false h c i d j z e = absurd (false≢true z)

-- so a slot that it holds is in use
pub key-held : (key : Sent) → IsKey key → (key_for key).holder ≢ 0
key-held key is z = mark-some key.caller.party is.party (sym (sent-holder key) ∙ z)

module _ (k key : Sent) (p : Same k key) where
  pub same-for : key_for k ≡ key_for key
  same-for = ap₂ (λ (party : ℕ) (bytes : List ℕ). key_of (mark_of party) bytes) p.0 p.1

  pub same-is : IsKey key → IsKey k
  same-is is = record {
    party = ap is_party p.0 ∙ is.party;
    bytes = subst (λ (bytes : List ℕ). Frame.Bytes bytes) (sym p.1) is.bytes;
    short = subst (λ (bytes : List ℕ). length bytes ≤ 32) (sym p.1) is.short;
  }

  same-addressed : (w : List ℕ) → addressed w k ≡ addressed w key
  unfolding addressed
  same-addressed w = ap₂ (λ (party : ℕ) (bytes : List ℕ). cond (ltb 32 (length bytes)) (slots_of w) (find w (key_of (mark_of party) bytes))) p.0 p.1

  pub same-held : (w : List ℕ) → held_in w k ≡ held_in w key
  unfolding held_in
  same-held w = ap (λ (at : ℕ). held_of (ring_of w) (cond (ltb at (slots_of w)) (use_of w at) 0) (body_of w at)) (same-addressed w)

pub other-for : (j key : Sent) → IsKey key → Frame.Bytes j.bytes → length j.bytes ≤ 32 → Other j key → key_for key ≢ key_for j
other-for j key is by l n q =
    let m = mark_of key.caller.party in
    let o = mark_of j.caller.party in
    n (
      sym (mark-same key.caller.party j.caller.party is.party (Frame.key-held m o key.bytes j.bytes q)),
      sym (Frame.key-injective m o key.bytes j.bytes is.bytes by is.short l q),
    )
