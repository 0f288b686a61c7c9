-- What a board is.
--   shape_of     the numbers of a frame
--   Board        a shape and a list of routes: a flow network with lower bounds
--   ValidRoute   what holds of every route of a frame
--   Valid        a valid board: a frame and at most 512 routes of it
use Rattle.std.specs.Prelude.{◌≡◌, ◌<◌, ◌≤◌, List, length, pos, negsuc, ◌≤ℤ◌}
use Rattle.std.specs.List.{AllByRecursion}
pub use Rattle.board.specs.Shape.{Shape, ValidShape}
use Rattle.board.specs.declared.frame.Frame.{Frame}
use Rattle.board.specs.declared.route.Route.{Route}

-- The numbers that a frame has.
abbrev pub shape_of : Frame → Shape
shape_of f = record { places = f.places; home = f.home; port = f.port }

-- A board: the numbers of its frame, and its routes in the order of their numbers, from 0 on.
pub record Board : Type 0 where
  pub shape : Shape
  pub routes : List Route

-- Both ends are places, and they differ; the ceiling is 0 to 4,095, and the floor is from -4,095 to the ceiling.
pub record ValidRoute (s : Shape) (r : Route) : Type 0 where
  pub start_inside : r.start < s.places
  pub end_inside : r.end < s.places
  pub apart : r.start ≡ r.end → ⊥
  pub ceiling_low : pos 0 ≤ℤ r.ceiling
  pub ceiling_high : r.ceiling ≤ℤ pos 4095
  pub floor_low : negsuc 4094 ≤ℤ r.floor
  pub floor_high : r.floor ≤ℤ r.ceiling

-- A valid board: its shape is that of a frame, and it has at most 512 routes, each a route of that frame.
pub record Valid (b : Board) : Type 0 where
  pub frame : ValidShape b.shape
  pub few : length b.routes ≤ 512
  pub each : AllByRecursion (ValidRoute b.shape) b.routes
