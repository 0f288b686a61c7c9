-- A theorem about every order. The test `before` says whether one entry comes no later than another.
--   OneFirst   no two entries of a list are first
use Rattle.std.specs.Prelude.{◌≡◌, Bool, List}
use Rattle.std.specs.List.{ContainsAt as Has}
use Rattle.heap.specs.Order.{First}

-- Entries of a list that each come no later than any of it are equal. So what leaves a heap next is fixed by what is
-- held, and does not depend on how that lies.
abbrev pub OneFirst : {E : Type 0} → (E → E → Bool) → Type 0
OneFirst {E} before =
    (xs : List E) (x y : E) → Has xs x → Has xs y → First before x xs → First before y xs → x ≡ y
