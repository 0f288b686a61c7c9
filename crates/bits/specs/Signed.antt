-- Numbers below zero in a field of 13 bits.
--   narrowed             the 13 bits of a number in two's complement, as a number
--   widened              the number that 13 bits state
--   narrowed_any         the lowest 13 bits of any number, as a number
--   widened_any          the number that the lowest 13 bits of any number state
--   Fits13               the numbers that 13 bits can state
--   SignedLosesNothing   narrowing undoes widening, and widening undoes narrowing
use Rattle.std.specs.Prelude.{◌≡◌, ℕ, ◌-◌, ◌%◌, ◌<◌, cond, ℤ, pos, negsuc, ◌≤ℤ◌, nat_lt}

-- A floor from -4,096 to 4,095 in two's complement of 13 bits, as a number: below zero, 8,192 more.
abbrev pub narrowed : ℤ → ℕ
narrowed (pos n) = n
narrowed (negsuc n) = 8191 - n

-- The number from -4,096 to 4,095 that 13 bits state in two's complement.
abbrev pub widened : ℕ → ℤ
widened n = cond (nat_lt n 4096) (pos n) (negsuc (8191 - n))

-- The lowest 13 bits of a number in two's complement, as a number: the remainder by 8,192, which is not below 0.
abbrev pub narrowed_any : ℤ → ℕ
narrowed_any (pos n) = n % 8192
narrowed_any (negsuc n) = 8191 - n % 8192

-- The number that the lowest 13 bits of a number state in two's complement.
abbrev pub widened_any : ℕ → ℤ
widened_any n = widened (n % 8192)

-- The number fits 13 bits: it is from -4,096 to 4,095.
abbrev pub Fits13 : ℤ → Type 0
Fits13 z = (negsuc 4095 ≤ℤ z) × (z ≤ℤ pos 4095)

-- What 13 bits state is a number that fits, and its 13 bits are these; the 13 bits of a number that fits state it.
-- The same of any bits and numbers: only the lowest 13 bits count, and on what fits there is no difference.
abbrev pub SignedLosesNothing : Type 0
SignedLosesNothing =
    ((n : ℕ) → n < 8192 → Fits13 (widened n))
    × ((n : ℕ) → n < 8192 → narrowed (widened n) ≡ n)
    × ((z : ℤ) → Fits13 z → widened (narrowed z) ≡ z)
    × ((n : ℕ) → narrowed_any (widened_any n) ≡ n % 8192)
    × ((z : ℤ) → Fits13 z → widened_any (narrowed_any z) ≡ z)
    × ((n : ℕ) → n < 8192 → widened_any n ≡ widened n)
    × ((z : ℤ) → Fits13 z → narrowed_any z ≡ narrowed z)
