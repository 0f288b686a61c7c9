-- What leaves a heap of ranked places: the derived orders are those that the specifications say, and markers stay.
use Rattle.std.proofs.Common.{◌≡◌, ℕ, ◌<◌, Bool, true, List, [], ◌∷◌, map, length, get_or, Some, None, Ok, Err, Option, Result, option_map, ap, ◌∙◌, sym, subst, arith}
use Rattle.std.specs.List.{AllByRecursion}
use Rattle.std.specs.List.Sorted.{IsPermutation}
use Rattle.std.specs.Ordering.{nat_cmp}
use Rattle.std.proofs.ByRecursion.{All-get_or, All-from_get_or, All-map, All-weaker, all_shuffled}
use Rattle.std.proofs.lemmas.List.Sorted.{IsPermutation-map}
use Rattle.heap.specs.Order.{Ordered, First, Popped}
use Rattle.ranked.specs.Orders.{MarkerEntry, AmountEntry, Marked, rank_before, marker_before, amount_before}
use Rattle.ranked.specs.Ranked.{lower, LowestTaken, LargestTaken}
use Rattle.ranked.specs.Waiting.{Joined}

-- What is read of an index past the end.
abbrev pub blank : MarkerEntry
blank = record { rank = 0; place = 0 }

-- The derived orders, by marker and by amount.
abbrev pub derived_by_marker : MarkerEntry → MarkerEntry → Bool
derived_by_marker = rank_before nat_cmp

abbrev pub derived_by_amount : AmountEntry → AmountEntry → Bool
derived_by_amount = rank_before (λ a b. nat_cmp b.0 a.0)

by_marker : (x y : MarkerEntry) → derived_by_marker x y ≡ marker_before x y
by_marker x y = grind arith

by_amount : (x y : AmountEntry) → derived_by_amount x y ≡ amount_before x y
by_amount x y = grind arith

-- The entry that leaves has the greatest amount.
pub largest_taken : (xs ys : List AmountEntry) (r : Option AmountEntry)
    → Popped derived_by_amount xs r ys
    → Ordered derived_by_amount xs
    → LargestTaken xs (option_map (λ e. e.place) r) ys
largest_taken xs ys None t o = t
largest_taken xs ys (Some x) t o =
    (x.rank.0, t.0, All-weaker _ _ (λ y h. sym (by_amount x y) ∙ h) xs (t.1 o).0)

-- A fact of each entry of a list; d is what is read of an index past the end.
module _ {E : Type 0} (P : E → Type 0) (d : E) where
  -- It holds of each entry.
  abbrev pub Each : List E → Type 0
  Each xs = (k : ℕ) → k < length xs → P (get_or xs k d)

  all_of : (xs : List E) → Each xs → AllByRecursion P xs
  all_of xs each = All-from_get_or P xs d each

  each_of : (xs : List E) → AllByRecursion P xs → Each xs
  each_of xs all k l = All-get_or P xs k d l all

  pub each_none : (xs : List E) → xs ≡ [] → Each xs
  each_none xs e = each_of xs (subst (AllByRecursion P) (sym e) tt)

  -- So it stays where one joins of which it holds, and where one leaves, of which it holds too.
  pub joined_each : {F : Type 0} (xs ys : List E) (x : E) (r : Result (Unit {0}) F) → Joined xs x r ys → P x → Each xs → Each ys
  joined_each xs ys x (Ok done) t mine each = each_of ys (all_shuffled P (x ∷ xs) ys t (mine, all_of xs each))
  joined_each xs ys x (Err fault) t mine each = subst Each (sym t) each

  pub left_each : (xs ys : List E) (x : E) → IsPermutation xs (x ∷ ys) → Each xs → P x × Each ys
  left_each xs ys x left each = let all = all_shuffled P xs (x ∷ ys) left (all_of xs each) in (all.0, each_of ys all.1)

  module _ (before : E → E → Bool) where
    pub popped_each : (xs ys : List E) (r : Option E) → Popped before xs r ys → Each xs → Each ys
    popped_each xs ys None t each = each_none ys t.1
    popped_each xs ys (Some x) t each = (left_each xs ys x t.0 each).1

module _ (markers : List ℕ) where
  lower_from_before : (x y : MarkerEntry) → Marked markers x → Marked markers y → marker_before x y ≡ true
      → lower markers x.place y.place ≡ true
  lower_from_before x y mine yours h = cc

  -- The place of an entry that comes first by its marker has the least marker.
  pub lowest_from_first : (x : MarkerEntry) (xs : List MarkerEntry) → Each (Marked markers) blank xs → Marked markers x
      → First marker_before x xs
      → AllByRecursion (λ q. lower markers x.place q ≡ true) (map (λ e. e.place) xs)
  lowest_from_first x xs each mine first =
      All-map (λ q. lower markers x.place q ≡ true) (λ e. e.place) xs
      (All-from_get_or (λ y. lower markers x.place y.place ≡ true) xs blank
      (λ k l. lower_from_before x (get_or xs k blank) mine (each k l) (All-get_or (λ y. marker_before x y ≡ true) xs k blank l first)))

  -- So has that of the entry that leaves.
  pub lowest_taken : (xs ys : List MarkerEntry) (r : Option MarkerEntry)
      → Popped derived_by_marker xs r ys
      → Ordered derived_by_marker xs
      → Each (Marked markers) blank xs
      → LowestTaken markers (map (λ e. e.place) xs) (option_map (λ e. e.place) r) (map (λ e. e.place) ys)
  lowest_taken xs ys None t o each = (ap (map (λ e. e.place)) t.0, ap (map (λ e. e.place)) t.1)
  lowest_taken xs ys (Some x) t o each =
      let mine : Marked markers x = (left_each (Marked markers) blank xs ys x t.0 each).0 in
      let first : First marker_before x xs = All-weaker _ _ (λ y h. sym (by_marker x y) ∙ h) xs (t.1 o).0 in
      (IsPermutation-map (λ e. e.place) xs (x ∷ ys) t.0, lowest_from_first x xs each mine first)

-- The place of the entry joins the places that wait.
pub joined_places : {X F : Type 0} (place : X → ℕ) (xs ys : List X) (x : X) (r : Result (Unit {0}) F) → Joined xs x r ys
    → Joined (map place xs) (place x) r (map place ys)
joined_places place xs ys x (Ok done) t = IsPermutation-map place (x ∷ xs) ys t
joined_places place xs ys x (Err fault) t = ap (map place) t
