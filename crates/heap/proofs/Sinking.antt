-- What an entry on its way down keeps.
use Rattle.std.proofs.Common.{◌≡◌, ℕ, ◌-◌, ◌<◌, Bool, true, false, ◌||◌, List, length, get_or, take, set, Some, ap, ◌∙◌, arith}
use Rattle.std.specs.List.{swap}
use Rattle.std.proofs.lemmas.List.Edits.{Swapped, swapped_from_swap, length-swap}
use Rattle.std.proofs.lemmas.List.{get_or-take, get_or-set_other, length-take}
use Rattle.heap.specs.Order.{parent, Ordered}
use Rattle.heap.specs.Sifting.{Loose, Trails, MaySink, EarlierChild}
use Rattle.heap.proofs.Orders.{other_way}

module _ {E : Type 0} (before : E → E → Bool) where
  -- A list in order, one shorter, with any entry in the place of the first.
  pub first_may_sink : (xs ys : List E) (m : ℕ) (x : E) → m ≡ length xs → ys ≡ take (m - 1) (set xs 0 x)
      → Ordered before xs
      → MaySink before ys 0
  first_may_sink xs ys m x e is o =
      let n = ap length is ∙ length-take (m - 1) (set xs 0 x) in
      let same : (k : ℕ) (d : E) → 0 < k → k < m - 1 → get_or (take (m - 1) (set xs 0 x)) k d ≡ get_or xs k d =
      λ k d a l. get_or-take (m - 1) (set xs 0 x) k d l ∙ get_or-set_other xs 0 k x d (omega arith)
      in (
        record {
          apart = λ k d a l u v. grind (arith, is, n, same (parent k) d, same k d, o k d);
          across = λ k d a l u p. absurd (omega arith);
        },
        λ d a. absurd (omega arith),
      )

  module _
      (total : (x y : E) → (before x y || before y x) ≡ true)
      (xs zs : List E)
      (j c : ℕ)
      (child : EarlierChild before xs j (Some c))
      (is : zs ≡ swap xs j c)
      (later : (d : E) → before (get_or xs j d) (get_or xs c d) ≡ false)
      (was : MaySink before xs j) where
    under : 0 < c
    under = child.0

    inside : c < length xs
    inside = child.1

    below : parent c ≡ j
    below = child.2

    long : length zs ≡ length xs
    long = ap length is ∙ length-swap xs j c

    places : (d : E) → Swapped (λ i. get_or xs i d) (λ i. get_or zs i d) j c
    places d =
        swapped_from_swap xs zs j c d (omega (arith, under, inside, below)) inside is

    -- The child that rises was below the parent of j before, and comes no later than its sibling.
    loose : Loose before zs c
    loose =
        record {
          apart =
              λ k d a l u v.
              grind (arith, long, under, inside, below, places d, was.0.apart k d, was.0.across c d, child.3 k d);
          across =
              λ k d a l p e.
              grind (arith, long, under, inside, below, places d, was.0.apart k d);
        }

    -- That child comes earlier than the entry that sinks.
    trails : Trails before zs c
    trails d a =
        let t = other_way before total _ _ (later d) in
        grind (arith, long, under, inside, below, places d, t)

    -- An entry that comes later than the earlier of its children takes that one's place.
    pub child_may_sink : MaySink before zs c
    child_may_sink = (loose, trails)
