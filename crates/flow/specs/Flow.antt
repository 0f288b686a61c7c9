-- What a flow on a board is.
--   Joins         a route whose ends are places
--   Network       a board whose routes join its places
--   carried       the shares of the routes that a test picks, together
--   starts_at     whether a route starts at a place          ends_at   whether it ends there
--   net           what starts at a place minus what ends there
--   Within        one share for each route, from its floor to its ceiling
--   Flow          shares within the marks, and net 0 at every place but home and port
--   delivery      the net of home
--   FlowOfValue   a flow of some value from home to port, as flows from a source to a sink are mostly defined
--   raised        shares with one of them raised
--   traffic       the sum of all shares
use Rattle.std.specs.Prelude.{◌≡◌, ℕ, ◌<◌, Bool, cond, List, [], ◌∷◌, ℤ, pos, ◌+ℤ◌, ◌-ℤ◌, neg_ℤ, ◌≤ℤ◌, fold, ◌==◌, ◌≢◌, slice_index_or, slice_set}
use Rattle.std.specs.List.{AllByRecursion}
use Rattle.board.specs.Board.{Board}
use Rattle.board.specs.declared.route.Route.{Route}

-- Both ends of a route are below this number of places.
pub record Joins (places : ℕ) (r : Route) : Type 0 where
  pub start : r.start < places
  pub end : r.end < places

-- A board whose routes join its places, and whose home and port are two of them: a directed graph with a source and
-- a sink. Every valid board is one; nothing is said here of how many places or routes there are, or of the marks.
pub record Network (b : Board) : Type 0 where
  pub home : b.shape.home < b.shape.places
  pub port : b.shape.port < b.shape.places
  pub apart : b.shape.port ≡ b.shape.home → ⊥
  pub routes : AllByRecursion (Joins b.shape.places) b.routes

-- The sum of the shares of those routes that the test picks. Route k has the share at place k of the list.
abbrev pub carried : (Route → Bool) → List Route → List ℤ → ℤ
carried p [] xs = pos 0
carried p (r ∷ rs) [] = pos 0
carried p (r ∷ rs) (x ∷ xs) = cond (p r) x (pos 0) +ℤ carried p rs xs

-- Whether a route starts at place v.
abbrev pub starts_at : ℕ → Route → Bool
starts_at v r = r.start == v

-- Whether a route ends at place v.
abbrev pub ends_at : ℕ → Route → Bool
ends_at v r = r.end == v

-- The net of place v: the shares of the routes that start there minus the shares of those that end there.
-- (What flows out of the node less what flows in.)
abbrev pub net : List Route → List ℤ → ℕ → ℤ
net rs xs v = carried (starts_at v) rs xs -ℤ carried (ends_at v) rs xs

-- One share (the flow on an arc) for each route, from its floor (lower bound) to its ceiling (capacity).
abbrev pub Within : List Route → List ℤ → Type 0
Within [] [] = Unit {0}
Within [] (x ∷ xs) = ⊥
Within (r ∷ rs) [] = ⊥
Within (r ∷ rs) (x ∷ xs) = (r.floor ≤ℤ x) × (x ≤ℤ r.ceiling) × Within rs xs

-- A flow: shares within the marks, and net 0 at every place but home and port.
pub record Flow (b : Board) (xs : List ℤ) : Type 0 where
  pub within : Within b.routes xs
  pub balanced : (v : ℕ) → v < b.shape.places → (v ≢ b.shape.home) → (v ≢ b.shape.port) → net b.routes xs v ≡ pos 0

-- The delivery (the value of a flow): the net of home. It may be negative.
abbrev pub delivery : Board → List ℤ → ℤ
delivery b xs = net b.routes xs b.shape.home

-- A flow of value d from home to port as it is mostly defined: shares within the marks; what goes out of a place less
-- what comes in is d at home, -d at port and 0 at every other place.
pub record FlowOfValue (b : Board) (xs : List ℤ) (d : ℤ) : Type 0 where
  pub within : Within b.routes xs
  pub home : net b.routes xs b.shape.home ≡ d
  pub port : net b.routes xs b.shape.port ≡ neg_ℤ d
  pub others : (v : ℕ) → v < b.shape.places → (v ≢ b.shape.home) → (v ≢ b.shape.port) → net b.routes xs v ≡ pos 0

-- The shares with that of route k raised by an amount (lowered, where the amount is negative).
abbrev pub raised : List ℤ → ℕ → ℤ → List ℤ
raised xs k a = slice_set xs k (slice_index_or xs k (pos 0) +ℤ a)

-- Traffic: the sum of the shares of all routes.
abbrev pub traffic : List ℤ → ℤ
traffic xs = fold ◌+ℤ◌ (pos 0) xs
