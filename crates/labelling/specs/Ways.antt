-- The way on from a place by one route.
--   Holds    a route that holds a share within its marks
--   opened   a residual step by so much, if that is more than 0
--   way_on   the residual step from a place by one route
use Rattle.std.specs.Prelude.{ℕ, cond, Some, None, Option, ℤ, pos, ◌-ℤ◌, ◌≤ℤ◌, ◌==◌, int_lt, nat_abs}
use Rattle.board.specs.declared.route.Route.{Route}
use Rattle.labelling.specs.declared.label.Via.{Via}
use Rattle.labelling.specs.declared.label.Via.TheVariants.{Along, Against}
use Rattle.labelling.specs.declared.way.Way.{Way}

-- The share is from the route's floor to its ceiling.
pub record Holds (r : Route) (x : ℤ) : Type 0 where
  pub low : r.floor ≤ℤ x
  pub high : x ≤ℤ r.ceiling

-- A residual step to place v, if what is left to change, d, is more than 0.
abbrev pub opened : ℕ → Via → ℤ → Option Way
opened v via d = cond (int_lt (pos 0) d) (Some (record { place = v; via = via; step = nat_abs d })) None

-- The residual step from place p by route r, which has number k and share x: along it up to the ceiling, where it
-- starts there; against it down to the floor, where it ends there.
abbrev pub way_on : ℕ → ℕ → Route → ℤ → Option Way
way_on p k r x =
    cond (r.start == p) (opened r.end (Along k) (r.ceiling -ℤ x)) (cond (r.end == p) (opened r.start (Against k) (x -ℤ r.floor)) None)
