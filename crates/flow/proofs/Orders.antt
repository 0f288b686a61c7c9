-- Sums over the routes do not depend on their order.
use Rattle.std.proofs.Common.{◌≡◌, Bool, cond, List, [], ◌∷◌, ℤ, pos, ◌-ℤ◌, sum_by, sym, refl, ◌∙◌, ap₂, arith}
use borrow.Author.Differences.{up, down}
use Rattle.std.proofs.lemmas.Int.{ints}
use Rattle.std.proofs.lemmas.List.Sorted.{sum_by-IsPermutation}
use Rattle.std.proofs.lemmas.List.Sums.{sum_by-cons}
use Rattle.std.specs.List.Sorted.{IsPermutation}
use Rattle.board.specs.declared.route.Route.{Route}
use Rattle.flow.specs.Laws.{OrderIsFree}
use Rattle.flow.specs.Regions.{leaves, enters, marks}

-- A sum of integers as a difference of two sums of naturals.
apart : (m : Route → ℤ) (p : Route → Bool) (rs : List Route)
    → marks m p rs ≡ pos (sum_by (λ r. up (cond (p r) (m r) (pos 0))) rs) -ℤ pos (sum_by (λ r. down (cond (p r) (m r) (pos 0))) rs)
apart m p [] = refl
apart m p (r ∷ rs) =
    let e = apart m p rs in
    let a = sum_by-cons (λ r. up (cond (p r) (m r) (pos 0))) r rs in
    let c = sum_by-cons (λ r. down (cond (p r) (m r) (pos 0))) r rs in
    omega (arith, ints)

marks_shuffled : (m : Route → ℤ) (p : Route → Bool) (rs ss : List Route) → IsPermutation rs ss → marks m p ss ≡ marks m p rs
marks_shuffled m p rs ss h =
    apart m p ss
    ∙ ap₂ (λ x y. pos x -ℤ pos y)
    (sum_by-IsPermutation (λ r. up (cond (p r) (m r) (pos 0))) rs ss h)
    (sum_by-IsPermutation (λ r. down (cond (p r) (m r) (pos 0))) rs ss h)
    ∙ sym (apart m p rs)

pub order_is_free : OrderIsFree
order_is_free rs ss R h =
    let c = marks_shuffled (λ r. r.ceiling) (leaves R) rs ss h in
    let f = marks_shuffled (λ r. r.floor) (enters R) rs ss h in
    (ap₂ ◌-ℤ◌ c f, ap₂ ◌-ℤ◌ f c)
