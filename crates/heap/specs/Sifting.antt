-- What sifting keeps: the entries are in order but for the one at an index. The test `before` says whether one entry
-- comes no later than another.
--   Loose          in order but for the entry at an index
--   Leads          the entry at an index comes no later than its children
--   Trails         the parent of the entry at an index comes no later than it
--   MayRise        what an entry on its way up leaves in order
--   MaySink        what an entry on its way down leaves in order
--   EarlierChild   what the search for the earlier child answers
use Rattle.std.specs.Prelude.{◌≡◌, ℕ, ◌<◌, Bool, true, List, length, Some, None, Option, ◌≢◌, slice_index_or}
use Rattle.heap.specs.Order.{parent}

module _ {E : Type 0} (before : E → E → Bool) where
  -- Each entry's parent comes no later than it, where neither of them is at j (apart); and the parent of j comes no
  -- later than each child of j (across).
  pub record Loose (xs : List E) (j : ℕ) : Type 0 where
    pub apart : (k : ℕ) (d : E) → 0 < k → k < length xs → (k ≢ j) → (parent k ≢ j)
        → before (slice_index_or xs (parent k) d) (slice_index_or xs k d) ≡ true
    pub across : (k : ℕ) (d : E) → 0 < k → k < length xs → 0 < j → parent k ≡ j
        → before (slice_index_or xs (parent j) d) (slice_index_or xs k d) ≡ true

  -- The entry at j comes no later than each of its children.
  abbrev pub Leads : List E → ℕ → Type 0
  Leads xs j = (k : ℕ) (d : E) → 0 < k → k < length xs → parent k ≡ j → before (slice_index_or xs j d) (slice_index_or xs k d) ≡ true

  -- The parent of j comes no later than the entry at j.
  abbrev pub Trails : List E → ℕ → Type 0
  Trails xs j = (d : E) → 0 < j → before (slice_index_or xs (parent j) d) (slice_index_or xs j d) ≡ true

  -- All is in order, but that the entry at j may come earlier than its parent.
  abbrev pub MayRise : List E → ℕ → Type 0
  MayRise xs j = Loose xs j × Leads xs j

  -- All is in order, but that a child of j may come earlier than the entry at j.
  abbrev pub MaySink : List E → ℕ → Type 0
  MaySink xs j = Loose xs j × Trails xs j

  -- The answer is a child of j that comes no later than any child of j, or none where j has no child.
  abbrev pub EarlierChild : List E → ℕ → Option ℕ → Type 0
  EarlierChild xs j None = (k : ℕ) → 0 < k → k < length xs → parent k ≢ j
  EarlierChild xs j (Some c) =
      (0 < c) × (c < length xs) × (parent c ≡ j)
      × ((k : ℕ) (d : E) → 0 < k → k < length xs → parent k ≡ j → before (slice_index_or xs c d) (slice_index_or xs k d) ≡ true)
