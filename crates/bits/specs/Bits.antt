-- The bits of bytes, and the numbers that they state. A bit is the digit 0 or 1, and bit 0 is the first of a list.
--   digits     the lowest bits of a number, the most significant first
--   bits_of    the bits of bytes, one byte after the other
--   value      the number that bits state
--   cut        so many bits of a list from one bit on
--   field_at   the number that these bits state
--   held       whether the list has all of them
--   within     the same of so many bits, for a reader or a writer whose position is a number of 64 bits
--   zeros      so many bits 0
--   fill       how many bits are missing to a whole byte
--   written    a list with some bits written over, and the rest of the last byte cleared
use Rattle.std.specs.Prelude.{ℕ, zero, suc, ◌+◌, ◌-◌, ◌*◌, ◌/◌, ◌%◌, ◌^◌, Bool, ◌&&◌, List, [], ◌∷◌, ◌++◌, length, take, drop, replicate, nat_le, nat_lt, slice_index}

-- The w lowest bits of n, the most significant first.
unfoldable pub digits : ℕ → ℕ → List ℕ
digits zero n = []
digits (suc w) n = n / 2 ^ w % 2 ∷ digits w n

-- The bits of bytes: eight of each, in their order.
unfoldable pub bits_of : List ℕ → List ℕ
bits_of [] = []
bits_of (b ∷ bs) = digits 8 b ++ bits_of bs

-- The number that bits state, the most significant first.
unfoldable pub value : List ℕ → ℕ
value [] = 0
value (b ∷ bs) = b * 2 ^ length bs + value bs

-- The w bits of a list from bit p on. A bit past the end counts as 0.
unfoldable pub cut : List ℕ → ℕ → ℕ → List ℕ
cut bits p zero = []
cut bits p (suc w) = slice_index bits p ∷ cut bits (suc p) w

-- The number that the w bits from bit p on state.
unfoldable pub field_at : List ℕ → ℕ → ℕ → ℕ
field_at bits p w = value (cut bits p w)

-- Whether a list has all of the w bits from bit p on.
abbrev pub held : List ℕ → ℕ → ℕ → Bool
held bits p w = nat_le (p + w) (length bits)

-- Whether n bits hold the w bits from bit p on, and the bit after these has a number of 64 bits.
abbrev pub within : ℕ → ℕ → ℕ → Bool
within n p w = nat_le (p + w) n && nat_lt (p + w) (2 ^ 64)

-- So many bits 0.
abbrev pub zeros : ℕ → List ℕ
zeros n = replicate n 0

-- How many bits are missing to a whole byte, after n bits.
abbrev pub fill : ℕ → ℕ
fill n = (8 - n % 8) % 8

-- A list with new bits written from bit p on; the rest of the last byte written is 0, and what follows stays.
unfoldable pub written : List ℕ → ℕ → List ℕ → List ℕ
written bits p new =
    take p bits ++ new ++ zeros (fill (p + length new)) ++ drop (p + length new + fill (p + length new)) bits
