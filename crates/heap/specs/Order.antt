-- The order in which a heap gives its entries back. The test `before` says whether one entry comes no later than another.
--   parent    the index above an index
--   Ordered   no entry comes earlier than its parent
--   First     an entry that comes no later than any of a list
--   Pushed    what inserting an entry does
--   Popped    what removing the first does
use Rattle.std.specs.Prelude.{◌≡◌, ℕ, ◌-◌, ◌/◌, ◌<◌, Bool, true, List, [], ◌∷◌, length, Some, None, Ok, Err, Option, Result, slice_index_or}
use Rattle.std.specs.List.Sorted.{IsPermutation}
use Rattle.std.specs.List.{AllByRecursion}

-- The index above an index, in a binary tree that lies in a list row by row.
abbrev pub parent : ℕ → ℕ
parent k = (k - 1) / 2

module _ {E : Type 0} (before : E → E → Bool) where
  -- Each entry's parent comes no later than it.
  abbrev pub Ordered : List E → Type 0
  Ordered xs = (k : ℕ) (d : E) → 0 < k → k < length xs → before (slice_index_or xs (parent k) d) (slice_index_or xs k d) ≡ true

  -- An entry that comes no later than any of a list.
  abbrev pub First : E → List E → Type 0
  First x xs = AllByRecursion (λ y. before x y ≡ true) xs

  -- Inserting x: accepted, just x joins what is held, and order stays; refused, x comes back and what is held stays.
  abbrev pub Pushed : List E → E → Result (Unit {0}) E → List E → Type 0
  Pushed xs x (Ok done) ys = IsPermutation (x ∷ xs) ys × (Ordered xs → Ordered ys)
  Pushed xs x (Err y) ys = (y ≡ x) × (ys ≡ xs)

  -- Removing the first: there is none exactly where nothing is held; otherwise just that entry leaves, each other one
  -- stays as often as it was; and where what is held is in order, the entry is the first, and order stays.
  abbrev pub Popped : List E → Option E → List E → Type 0
  Popped xs None ys = (xs ≡ []) × (ys ≡ [])
  Popped xs (Some x) ys = IsPermutation xs (x ∷ ys) × (Ordered xs → First x xs × Ordered ys)
