-- Residual steps: where a share leaves room for a change.
--   StepBy   a residual step by one route with its share
--   Step     a residual step by one of the routes
--   Closed   a region that no residual step leaves
use Rattle.std.specs.Prelude.{◌≡◌, ℕ, true, ◌⊎◌, List, [], ◌∷◌, ℤ, ◌<ℤ◌}
use Rattle.board.specs.declared.route.Route.{Route}
use Rattle.flow.specs.Regions.{Region}

-- A residual step (an arc of the residual graph) from u to v by one route: along a route from u to v whose share is
-- below its ceiling, or against a route from v to u whose share is above its floor.
pub data StepBy (r : Route) (x : ℤ) (u v : ℕ) : Type 0 where
  Along : r.start ≡ u → r.end ≡ v → x <ℤ r.ceiling → StepBy r x u v
  Against : r.start ≡ v → r.end ≡ u → r.floor <ℤ x → StepBy r x u v

-- A residual step from u to v by one of the routes, each with its share.
abbrev pub Step : List Route → List ℤ → ℕ → ℕ → Type 0
Step [] xs u v = ⊥
Step (r ∷ rs) [] u v = ⊥
Step (r ∷ rs) (x ∷ xs) u v = StepBy r x u v ⊎ Step rs xs u v

-- A closed region: no residual step leaves it.
abbrev pub Closed : List Route → List ℤ → Region → Type 0
Closed rs xs R = (u v : ℕ) → Step rs xs u v → R u ≡ true → R v ≡ true
