-- The places that wait in a picker that ranks them, and which of them it takes.
--   lower                            whether a place comes no later than another by their turn markers
--   LowestTaken                      taking by the least marker
--   LargestTaken                     taking by the greatest amount
--   marker_places, amounts           what waits in either picker
--   marker_meaning, amount_meaning   what these pickers mean
use Rattle.std.specs.Prelude.{◌≡◌, ℕ, Bool, true, cond, List, [], ◌∷◌, map, Some, None, Option, ◌==◌, nat_le, nat_lt}
use Rattle.std.specs.List.Sorted.{IsPermutation}
use Rattle.std.specs.List.{AllByRecursion}
use Rattle.picker.specs.Meaning.{Meaning}
use Rattle.ranked.specs.Orders.{AmountEntry, with_amount, marker_of, amount_before}
use Rattle.ranked.specs.Waiting.{entries, waiting_meaning}
use Rattle.ranked.specs.declared.largest_amount.LargestAmount.{LargestAmount}
use Rattle.ranked.specs.declared.lowest_marker.LowestMarker.{LowestMarker}

-- Whether place p comes no later than place q: its marker is less, or they are equal and p is no higher.
abbrev pub lower : List ℕ → ℕ → ℕ → Bool
lower markers p q =
    cond (marker_of markers p == marker_of markers q) (nat_le p q) (nat_lt (marker_of markers p) (marker_of markers q))

-- Taking by the least marker, ties to the lowest place: none where nothing waits; otherwise a place that waits leaves
-- once, the others stay, and it comes no later than any that waited.
abbrev pub LowestTaken : List ℕ → List ℕ → Option ℕ → List ℕ → Type 0
LowestTaken markers xs None ys = (xs ≡ []) × (ys ≡ [])
LowestTaken markers xs (Some p) ys = IsPermutation xs (p ∷ ys) × AllByRecursion (λ q. lower markers p q ≡ true) xs

-- Taking by the greatest amount, ties to the lowest place: none where nothing waits; otherwise a place leaves with the
-- amount that it was put with, the others stay, and it comes no later than any that waited.
abbrev pub LargestTaken : List AmountEntry → Option ℕ → List AmountEntry → Type 0
LargestTaken xs None ys = (xs ≡ []) × (ys ≡ [])
LargestTaken xs (Some p) ys =
    (a : ℕ) × IsPermutation xs (with_amount a p ∷ ys) × AllByRecursion (λ y. amount_before (with_amount a p) y ≡ true) xs

-- The places that wait in a picker by markers, in no order.
abbrev pub marker_places : LowestMarker → List ℕ
marker_places p = map (λ e. e.place) (entries p.waiting)

-- What it means: these places wait, and there is room for as many as entries are lent.
abbrev pub marker_meaning : LowestMarker → Meaning
marker_meaning p = waiting_meaning p.waiting

-- The places that wait in a picker by amounts, each with the amount that it was put with, in no order.
abbrev pub amounts : LargestAmount → List AmountEntry
amounts p = entries p.waiting

-- What it means: these places wait, and there is room for as many as entries are lent.
abbrev pub amount_meaning : LargestAmount → Meaning
amount_meaning p = waiting_meaning p.waiting
