-- The routes that records state, one by one.
use Rattle.std.proofs.Common.{◌≡◌, ℕ, zero, suc, ◌+◌, ◌<◌, List, length, Some, refl, ap, ◌∙◌, add-zero, arith}
use Rattle.std.specs.List.{slice_get}
use Rattle.bits.specs.Fields.{record_start}
use Rattle.layout.specs.Stated.{route_at, routes_from}

pub length_routes_from : (bits : List ℕ) (k n : ℕ) → length (routes_from bits k n) ≡ n
unfolding routes_from
length_routes_from bits k zero = refl
length_routes_from bits k (suc n) = ap suc (length_routes_from bits (suc k) n)

pub slice_get-routes_from : (bits : List ℕ) (k n j : ℕ) → j < n → slice_get (routes_from bits k n) j ≡ Some (route_at bits (record_start (k + j)))
unfolding routes_from
slice_get-routes_from bits k zero j h = absurd (omega arith)
slice_get-routes_from bits k (suc n) zero h = rw add-zero
slice_get-routes_from bits k (suc n) (suc j) h =
    slice_get-routes_from bits (suc k) n j (omega arith) ∙ ap (λ (x : ℕ). Some (route_at bits (record_start x))) (omega arith)
