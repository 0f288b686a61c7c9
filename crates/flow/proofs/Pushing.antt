-- What raising one share does to the nets.
use Rattle.std.proofs.Common.{◌≡◌, ℕ, zero, suc, ◌<◌, Bool, cond, List, [], ◌∷◌, length, get_or, ℤ, pos, ◌+ℤ◌, arith}
use Rattle.std.proofs.lemmas.Int.{ints}
use Rattle.board.specs.declared.route.Route.{Route}
use Rattle.flow.proofs.Sums.{counted_plus}
use Rattle.flow.specs.Flow.{carried, starts_at, ends_at, raised}
use Rattle.flow.specs.Laws.{Pushes}

carried_raised : (p : Route → Bool) (rs : List Route) (xs : List ℤ) (k : ℕ) (a : ℤ) (d : Route) → k < length rs → length rs ≡ length xs
    → carried p rs (raised xs k a) ≡ carried p rs xs +ℤ cond (p (get_or rs k d)) a (pos 0)
carried_raised p [] xs k a d l e = absurd (omega arith)
carried_raised p (r ∷ rs) [] k a d l e = absurd (omega arith)
carried_raised p (r ∷ rs) (x ∷ xs) zero a d l e = let here = counted_plus (p r) x a in omega (arith, ints)
carried_raised p (r ∷ rs) (x ∷ xs) (suc k) a d l e =
    let f = carried_raised p rs xs k a d (omega arith) (omega arith) in omega (arith, ints)

pub pushes : Pushes
pushes rs xs k a v d l e =
    let s = carried_raised (starts_at v) rs xs k a d l e in
    let t = carried_raised (ends_at v) rs xs k a d l e in
    omega (arith, ints)
