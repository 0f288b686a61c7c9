-- The orders of the entries in a heap of places that wait.
--   MarkerEntry     a place with its turn marker
--   AmountEntry     a place with the amount that it was put with
--   with_amount     the entry of a place with an amount
--   marker_of       the turn marker of a place
--   Marked          an entry that has the marker of its place
--   rank_before     the least rank first, and of those the lowest place
--   marker_before   the least marker first, and of those the lowest place
--   amount_before   the greatest amount first, and of those the lowest place
use Rattle.std.specs.Prelude.{◌≡◌, ℕ, Bool, cond, List, ◌==◌, nat_le, nat_lt, slice_index_or}
use Rattle.std.specs.Ordering.{is_le, nat_cmp, ordering_then}
use Rattle.std.specs.declared.cmp.Ordering.{Ordering}
use Rattle.std.specs.declared.cmp.Reverse.{Reverse}
use Rattle.ranked.specs.declared.entry.Ranked.{Ranked}

-- A place with its turn marker.
abbrev pub MarkerEntry : Type 0
MarkerEntry = Ranked ℕ

-- A place with the amount that it was put with.
abbrev pub AmountEntry : Type 0
AmountEntry = Ranked (Reverse ℕ)

-- The entry of place p with amount a.
abbrev pub with_amount : ℕ → ℕ → AmountEntry
with_amount a p = record { rank = record { 0 = a }; place = p }

-- The turn marker of a place: its byte of the list, and 255 beyond it.
abbrev pub marker_of : List ℕ → ℕ → ℕ
marker_of markers v = slice_index_or markers v 255

-- An entry that has the turn marker of its place.
abbrev pub Marked : List ℕ → MarkerEntry → Type 0
Marked markers e = e.rank ≡ marker_of markers e.place

-- Whether one entry comes no later than another: by the least rank, as `cmp` compares ranks, then by the lowest place.
abbrev pub rank_before : {R : Type 0} → (R → R → Ordering) → Ranked R → Ranked R → Bool
rank_before cmp x y = is_le (ordering_then (cmp x.rank y.rank) (nat_cmp x.place y.place))

-- Whether one entry comes no later than another: by the least marker, then by the lowest place.
abbrev pub marker_before : MarkerEntry → MarkerEntry → Bool
marker_before x y = cond (x.rank == y.rank) (nat_le x.place y.place) (nat_lt x.rank y.rank)

-- Whether one entry comes no later than another: by the greatest amount, then by the lowest place.
abbrev pub amount_before : AmountEntry → AmountEntry → Bool
amount_before x y = cond (x.rank.0 == y.rank.0) (nat_le x.place y.place) (nat_lt y.rank.0 x.rank.0)
