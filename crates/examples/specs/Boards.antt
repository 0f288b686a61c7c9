-- The boards of the worked examples.
--   route         a route by its four numbers           board      a board by its numbers and its routes
--   region        the region of the places listed
--   four_places   four places and five routes, of which the first and the last are given
--   outward       a route from home on those places     across     one between the two inner places
--   crossing      such a board                          carrying   shares that deliver 6 on it
--   first_two     the places 0 and 1                    shifted    shares that differ from these outside the two
--   turned        the same board with two routes in each other's place
--   two_way       two places and a route that cubes may go both ways
--   promised      three places, of which the middle one is promised more than it can pass on
--   stuck         shares on it that leave 1 too many in the middle
--   eased         the same board with a floor that is lower by one
--   drained       three places, of which the middle one has to pass on more than can come to it
--   lacking       shares on it that leave 1 too few in the middle
--   backward      two places and a route from port to home
--   chain         three places in a row, joined by routes with equal marks
--   empty         four places and no routes
use Rattle.std.specs.Prelude.{ℕ, false, ◌||◌, List, [], ◌∷◌, ℤ, pos, negsuc, ◌==◌}
use Rattle.board.specs.Board.{Board}
use Rattle.board.specs.declared.route.Route.{Route}
use Rattle.flow.specs.Regions.{Region}

-- A route by its start, end, floor and ceiling.
abbrev pub route : ℕ → ℕ → ℤ → ℤ → Route
route start end floor ceiling = record { start = start; end = end; floor = floor; ceiling = ceiling }

-- A board by how many places it has, its home, its port and its routes.
abbrev pub board : ℕ → ℕ → ℕ → List Route → Board
board places home port routes =
    record { shape = record { places = places; home = home; port = port }; routes = routes }

-- The region of the places listed.
abbrev pub region : List ℕ → Region
region [] v = false
region (u ∷ us) v = v == u || region us v

-- Four places, with home 0 and port 3, and five routes, of which the first and the last are given.
abbrev pub four_places : Route → Route → Board
four_places first last =
    board 4 0 3 (first ∷ route 0 2 (pos 1) (pos 2) ∷ route 1 3 (pos 0) (pos 3) ∷ route 2 3 (pos 0) (pos 9) ∷ last ∷ [])

-- A route from home to another place of the four.
abbrev pub outward : Route
outward = route 0 1 (pos 0) (pos 5)

-- A route between the two places that are neither home nor port, with a floor below 0.
abbrev pub across : Route
across = route 2 1 (negsuc 0) (pos 1)

-- Four places and five routes, one of them with a floor below 0.
abbrev pub crossing : Board
crossing = four_places outward across

-- Shares that deliver 6 on it; one goes against its route.
abbrev pub carrying : List ℤ
carrying = pos 4 ∷ pos 2 ∷ pos 3 ∷ pos 3 ∷ negsuc 0 ∷ []

-- The places 0 and 1, the narrowest region there.
abbrev pub first_two : Region
first_two = region (0 ∷ 1 ∷ [])

-- Shares within the marks that differ at a route which neither starts nor ends in those two places.
abbrev pub shifted : List ℤ
shifted = pos 4 ∷ pos 2 ∷ pos 3 ∷ pos 5 ∷ negsuc 0 ∷ []

-- The same board with the first and the last route in each other's place.
abbrev pub turned : Board
turned = four_places across outward

-- Two places and a route from home to port that carries 7 along it or 3 against it.
abbrev pub two_way : Board
two_way = board 2 0 1 (route 0 1 (negsuc 2) (pos 7) ∷ [])

-- Three places in a row: at least 4 come to the middle one, and at most 3 go on from there to port.
abbrev pub promised : Board
promised = board 3 0 1 (route 0 2 (pos 4) (pos 6) ∷ route 2 1 (pos 0) (pos 3) ∷ [])

-- Shares within its marks: the middle place has 1 too many.
abbrev pub stuck : List ℤ
stuck = pos 4 ∷ pos 3 ∷ []

-- The same board, but only 3 have to come to the middle one.
abbrev pub eased : Board
eased = board 3 0 1 (route 0 2 (pos 3) (pos 6) ∷ route 2 1 (pos 0) (pos 3) ∷ [])

-- Three places in a row: at most 3 come to the middle one, and at least 4 go on from there to port.
abbrev pub drained : Board
drained = board 3 0 1 (route 0 2 (pos 0) (pos 3) ∷ route 2 1 (pos 4) (pos 6) ∷ [])

-- Shares within its marks: the middle place has 1 too few.
abbrev pub lacking : List ℤ
lacking = pos 3 ∷ pos 4 ∷ []

-- Two places and a route from port to home, which has to carry 2 at least.
abbrev pub backward : Board
backward = board 2 0 1 (route 1 0 (pos 2) (pos 5) ∷ [])

-- Three places in a row, joined by routes with equal marks: two regions are equally narrow.
abbrev pub chain : Board
chain = board 3 0 2 (route 0 1 (pos 0) (pos 4) ∷ route 1 2 (pos 0) (pos 4) ∷ [])

-- Four places and no routes.
abbrev pub empty : Board
empty = board 4 0 3 []
