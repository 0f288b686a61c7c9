-- What a heap holds.
--   held   the entries that are held
--   room   how many it can hold
use Rattle.std.specs.Prelude.{ℕ, List, length, take}
use Rattle.heap.specs.declared.heap.Heap.{Heap}

-- The entries that a heap holds, as they lie in the lent slice.
abbrev pub held : {E : Type 0} → Heap E → List E
held h = take h.len h.entries.now

-- How many entries a heap can hold: as many as are lent to it.
abbrev pub room : {E : Type 0} → Heap E → ℕ
room h = length h.entries.now
