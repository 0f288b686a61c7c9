-- Rows of places.
--   ring               so many places of an array of 128 from an index on, going on at index 0 after index 127
--   head_of, tail_of   the first of a list, if it has one, and the others
use Rattle.std.specs.Prelude.{ℕ, zero, suc, ◌%◌, List, [], ◌∷◌, Some, None, Option, slice_index}

-- The n places of an array of 128 from index i on; index 0 follows index 127.
unfoldable pub ring : List ℕ → ℕ → ℕ → List ℕ
ring xs i zero = []
ring xs i (suc n) = slice_index xs (i % 128) ∷ ring xs (suc i) n

-- The first of a list, if it has one.
abbrev pub head_of : List ℕ → Option ℕ
head_of [] = None
head_of (x ∷ xs) = Some x

-- The list without its first.
abbrev pub tail_of : List ℕ → List ℕ
tail_of [] = []
tail_of (x ∷ xs) = xs
