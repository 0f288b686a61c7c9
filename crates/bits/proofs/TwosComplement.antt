-- Numbers below zero in 13 bits.
use Rattle.std.proofs.Common.{◌≡◌, ℕ, ◌-◌, ◌<◌, Bool, true, false, cond, ltb, ℤ, pos, negsuc, ◌≤ℤ◌, refl, arith}
use Rattle.std.proofs.lemmas.Int.{ints}
use Rattle.std.proofs.lemmas.Bool.Decides.{nat_tests}
use Rattle.bits.specs.Signed.{narrowed, widened}
use Rattle.bits.specs.Signed.{narrowed_any, Fits13}

pub narrowed_any_lem : (z : ℤ) → Fits13 z → narrowed_any z ≡ narrowed z
narrowed_any_lem (pos n) h = omega (arith, ints)
narrowed_any_lem (negsuc n) h = omega (arith, ints)

-- 13 bits hold every floor
pub narrowed_lt : (z : ℤ) → negsuc 4094 ≤ℤ z → z ≤ℤ pos 4095 → narrowed z < 8192
narrowed_lt (pos n) l u = omega (arith, ints)
narrowed_lt (negsuc n) l u = omega (arith, ints)

pub widened_narrowed : (z : ℤ) → negsuc 4094 ≤ℤ z → z ≤ℤ pos 4095 → widened (narrowed z) ≡ z
widened_narrowed (pos n) l u = grind (arith, ints, nat_tests)
widened_narrowed (negsuc n) l u = grind (arith, ints, nat_tests)

pub narrowed_widened : (n : ℕ) → n < 8192 → narrowed (widened n) ≡ n
narrowed_widened n h = go (ltb n 4096)
  where
    go : (b : Bool) → narrowed (cond b (pos n) (negsuc (8191 - n))) ≡ n
    go true = refl
    go false = omega arith
