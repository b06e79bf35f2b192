-- A share is the plain quotient, with nothing saturated: where the quotient fits a word, and so wherever the share is a fraction's.
-- Assumes nothing.
use Rattle.std.specs.Prelude.{◌≡◌, ℕ, ◌*◌, ◌/◌, ◌^◌, ◌-◌, ◌≤◌, ◌<◌, min}
use Rattle.std.proofs.Common.{ap, mul-le-mul_left, mul_comm, arith}
use Rattle.std.proofs.Math.Nat.{div-le_of_le-mul}
use Rattle.share.specs.Share.{mul_div}

pub mul_div-exact : (a b c : ℕ) → a * b / c < 2 ^ 64 → mul_div a b c ≡ a * b / c
unfolding mul_div
mul_div-exact a b c h = omega arith

part-le : (a b c : ℕ) → b ≤ c → a * b / c ≤ a
part-le a b c h =
    let m = mul-le-mul_left a h in
    let e = mul_comm a c in
    let k : a * b ≤ c * a = omega arith in
    div-le_of_le-mul c k

-- a share of a by a fraction b / c is no more than a
pub mul_div-le : (a b c : ℕ) → b ≤ c → mul_div a b c ≤ a
unfolding mul_div
mul_div-le a b c h = let q = part-le a b c h in omega arith

mul_div-comm : (a b c : ℕ) → mul_div a b c ≡ mul_div b a c
unfolding mul_div
mul_div-comm a b c = ap (λ (z : ℕ). min (z / c) (2 ^ 64 - 1)) (mul_comm a b)

pub mul_div-le-right : (a b c : ℕ) → a ≤ c → mul_div a b c ≤ b
mul_div-le-right a b c h = rw (mul_div-comm a b c) (mul_div-le b a c h)

pub mul_div-fraction : (a b c : ℕ) → a < 2 ^ 64 → b ≤ c → mul_div a b c ≡ a * b / c
mul_div-fraction a b c f h = let q = part-le a b c h in mul_div-exact a b c (omega arith)
