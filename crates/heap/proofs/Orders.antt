-- What a total order gives, and that the first entry of a list in order comes no later than any of it.
use Rattle.std.proofs.Common.{◌≡◌, ℕ, zero, suc, ◌<◌, ◌≤◌, Bool, true, false, ◌||◌, List, length, get_or, arith}
use Rattle.std.proofs.ByRecursion.{All-from_get_or, all-has}
use Rattle.heap.specs.Laws.{OneFirst}
use Rattle.heap.specs.Order.{parent, Ordered, First}

module _ {E : Type 0} (before : E → E → Bool) where
  -- Two that are first come no later than each other.
  pub one_first : ((x y : E) → before x y ≡ true → before y x ≡ true → x ≡ y) → OneFirst before
  one_first same xs x y hx hy fx fy =
      same x y (all-has (λ z. before x z ≡ true) xs y fx hy) (all-has (λ z. before y z ≡ true) xs x fy hx)

  module _ (total : (x y : E) → (before x y || before y x) ≡ true) where
    -- Where an entry does not come no later than another, the other does.
    pub other_way : (x y : E) → before x y ≡ false → before y x ≡ true
    other_way x y h = grind (arith, total x y)

    -- Totality holds of an entry and itself too.
    pub no_later_than_itself : (x : E) → before x x ≡ true
    no_later_than_itself x = grind (arith, total x x)

    module _ (transitive : (x y z : E) → before x y ≡ true → before y z ≡ true → before x z ≡ true) where
      -- By the way from an index up to 0, which is no longer than the index.
      from_top : (xs : List E) (d : E) → Ordered before xs → (n k : ℕ) → k ≤ n → k < length xs
          → before (get_or xs 0 d) (get_or xs k d) ≡ true
      from_top xs d o zero k b l = grind (arith, no_later_than_itself (get_or xs 0 d))
      from_top xs d o (suc n) k b l = grind (arith, no_later_than_itself (get_or xs 0 d), from_top xs d o n (parent k), o k d, transitive)

      -- The first of a list in order is what leaves next.
      pub ordered_first : (xs : List E) (x : E) → x ≡ get_or xs 0 x → Ordered before xs → First before x xs
      ordered_first xs x e o =
          All-from_get_or (λ y. before x y ≡ true) xs x (λ i l. let t = from_top xs x o i i (omega arith) l in cc)
