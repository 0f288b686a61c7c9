-- What an entry on its way up keeps.
use Rattle.std.proofs.Common.{◌≡◌, ℕ, ◌<◌, Bool, true, false, ◌||◌, List, [], ◌∷◌, ◌++◌, length, get_or, ap, ◌∙◌, arith}
use Rattle.std.specs.List.{swap}
use Rattle.std.proofs.lemmas.List.Edits.{Swapped, swapped_from_swap, length-swap}
use Rattle.std.proofs.lemmas.List.{get_or_append_left, length_push}
use Rattle.heap.specs.Order.{parent, Ordered}
use Rattle.heap.specs.Sifting.{Loose, Leads, MayRise}
use Rattle.heap.proofs.Orders.{other_way}

module _ {E : Type 0} (before : E → E → Bool) where
  -- An entry behind a list in order.
  pub last_may_rise : (xs ys : List E) (x : E) (j : ℕ) → j ≡ length xs → ys ≡ xs ++ x ∷ []
      → Ordered before xs
      → MayRise before ys j
  last_may_rise xs ys x j e is o =
      let n = ap length is ∙ length_push xs x in (
        record {
          apart =
              λ k d a l u v. let t = o k d a (omega arith) in grind (arith, is, get_or_append_left {A = E});
          across = λ k d a l u p. absurd (omega arith);
        },
        λ k d a l p. absurd (omega arith),
      )

  module _
      (total : (x y : E) → (before x y || before y x) ≡ true)
      (transitive : (x y z : E) → before x y ≡ true → before y z ≡ true → before x z ≡ true)
      (xs zs : List E)
      (j : ℕ)
      (under : 0 < j)
      (inside : j < length xs)
      (is : zs ≡ swap xs (parent j) j)
      (earlier : (d : E) → before (get_or xs (parent j) d) (get_or xs j d) ≡ false)
      (was : MayRise before xs j) where
    long : length zs ≡ length xs
    long = ap length is ∙ length-swap xs (parent j) j

    places : (d : E) → Swapped (λ i. get_or xs i d) (λ i. get_or zs i d) (parent j) j
    places d = swapped_from_swap xs zs (parent j) j d (omega arith) inside is

    -- Its parent comes no later than its sibling.
    sibling : (k : ℕ) (d : E) → 0 < k → k < length xs → parent k ≡ parent j → (k ≡ j → ⊥)
        → before (get_or xs (parent j) d) (get_or xs k d) ≡ true
    sibling k d a l e n = let t = was.0.apart k d a l n (omega arith) in cc

    -- The children of its old place were below its parent too; and that was below its own parent.
    loose : Loose before zs (parent j)
    loose =
        record {
          apart =
              λ k d a l u v.
              grind (arith, long, places d, was.0.apart k d, was.0.across k d);
          across =
              λ k d a l b e.
              grind (arith, long, places d, was.0.apart (parent j) d, sibling k d, transitive);
        }

    -- It comes earlier than its parent, and that comes no later than its sibling.
    leads : Leads before zs (parent j)
    leads k d a l e =
        let t = other_way before total _ _ (earlier d) in
        grind (arith, long, places d, t, sibling k d, transitive)

    -- An entry that comes earlier than its parent takes its place.
    pub parent_may_rise : MayRise before zs (parent j)
    parent_may_rise = (loose, leads)
