-- What a delivery pays.
--   up_to     the sum of the whole numbers from 0 to a number
--   pay_for   the pay for a delivery
use Rattle.std.specs.Prelude.{ℕ, zero, suc, ◌+◌, cond, ℤ, pos, negsuc, nat_le}

-- The sum of the whole numbers from 0 to d (a triangular number).
abbrev pub up_to : ℕ → ℕ
up_to zero = 0
up_to (suc d) = suc d + up_to d

-- A delivery of 0 to 40 pays the sum of the whole numbers from 0 to it; a negative one pays 0, one above 40 pays 820.
abbrev pub pay_for : ℤ → ℕ
pay_for (pos d) = cond (nat_le d 40) (up_to d) 820
pay_for (negsuc n) = 0
