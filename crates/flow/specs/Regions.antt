-- Regions of a board: what their routes allow.
--   Region                        a set of places
--   leaves                        whether a route leaves a region          enters   whether it enters one
--   through                       what goes through a region: the shares leaving it minus the shares entering it
--   marks                         the sum of a mark over the routes that a test picks: ceilings, floors
--   width                         ceilings leaving minus floors entering
--   overpromise                   floors entering minus ceilings leaving
--   Separates                     a region with home and without port
--   Together                      a region with both home and port, or with neither
--   Inside                        a region that lies inside another        SameRegion   regions with the same places
--   Narrowest, MostOverpromised   the least of the regions that are as narrow, or as much overpromised, as any
use Rattle.std.specs.Prelude.{◌≡◌, ℕ, ◌<◌, Bool, true, false, cond, not, ◌&&◌, List, [], ◌∷◌, ℤ, pos, ◌+ℤ◌, ◌-ℤ◌, ◌≤ℤ◌}
use Rattle.board.specs.Board.{Board}
use Rattle.board.specs.declared.route.Route.{Route}
use Rattle.flow.specs.Flow.{carried}

-- A region (one side of a cut): a set of places.
abbrev pub Region : Type 0
Region = ℕ → Bool

-- Whether a route leaves a region: it starts inside and ends outside.
abbrev pub leaves : Region → Route → Bool
leaves R r = R r.start && not (R r.end)

-- Whether a route enters a region: it starts outside and ends inside.
abbrev pub enters : Region → Route → Bool
enters R r = not (R r.start) && R r.end

-- What goes through a region: the shares of the routes leaving it minus the shares of those entering it.
abbrev pub through : List Route → List ℤ → Region → ℤ
through rs xs R = carried (leaves R) rs xs -ℤ carried (enters R) rs xs

-- The sum of a mark (floor or ceiling) over the routes that a test picks.
abbrev pub marks : (Route → ℤ) → (Route → Bool) → List Route → ℤ
marks m p [] = pos 0
marks m p (r ∷ rs) = cond (p r) (m r) (pos 0) +ℤ marks m p rs

-- The ceilings of the routes that a test picks.
abbrev pub ceilings : (Route → Bool) → List Route → ℤ
ceilings = marks (λ r. r.ceiling)

-- The floors of the routes that a test picks.
abbrev pub floors : (Route → Bool) → List Route → ℤ
floors = marks (λ r. r.floor)

-- The width of a region with home and without port (the capacity of a cut, with lower bounds): the ceilings of the
-- routes leaving it minus the floors of those entering it.
abbrev pub width : List Route → Region → ℤ
width rs R = ceilings (leaves R) rs -ℤ floors (enters R) rs

-- By how much a region with both home and port, or with neither, is overpromised: the floors of the routes entering it
-- minus the ceilings of those leaving it.
abbrev pub overpromise : List Route → Region → ℤ
overpromise rs R = floors (enters R) rs -ℤ ceilings (leaves R) rs

-- The region has home and not port: it separates them, as a cut does.
pub record Separates (b : Board) (R : Region) : Type 0 where
  pub home : R b.shape.home ≡ true
  pub port : R b.shape.port ≡ false

-- The region has both home and port, or neither.
abbrev pub Together : Board → Region → Type 0
Together b R = R b.shape.home ≡ R b.shape.port

-- Each place of the board that is in R is in S.
abbrev pub Inside : Board → Region → Region → Type 0
Inside b R S = (v : ℕ) → v < b.shape.places → R v ≡ true → S v ≡ true

-- R and S have the same places of the board.
abbrev pub SameRegion : Board → Region → Region → Type 0
SameRegion b R S = (v : ℕ) → v < b.shape.places → R v ≡ S v

-- R is the narrowest region, d wide: it has home and not port, every such region is at least as wide, and each that
-- is as narrow contains it. (The least minimum cut.)
pub record Narrowest (b : Board) (R : Region) (d : ℤ) : Type 0 where
  pub separates : Separates b R
  pub wide : width b.routes R ≡ d
  pub least : (S : Region) → Separates b S → d ≤ℤ width b.routes S
  pub inside : (S : Region) → Separates b S → width b.routes S ≡ d → Inside b R S

-- R is the most overpromised region, by x: it has both home and port or neither, no such region is overpromised by
-- more, and each that is overpromised as much contains it.
pub record MostOverpromised (b : Board) (R : Region) (x : ℤ) : Type 0 where
  pub together : Together b R
  pub over : overpromise b.routes R ≡ x
  pub most : (S : Region) → Together b S → overpromise b.routes S ≤ℤ x
  pub inside : (S : Region) → Together b S → overpromise b.routes S ≡ x → Inside b R S
