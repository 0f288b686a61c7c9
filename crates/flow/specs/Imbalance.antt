-- Shares that are within the marks but leave some places out of balance: what is left over, and where.
--   everywhere    the region of all places
--   sum_in        a sum over the places of a region
--   inner         whether a place is neither home nor port       ends       home and port
--   over          the inner places whose net is below 0
--   surplus_at    how far an inner place's net is below 0        surplus    the sum over all places
--   shortage_at   how far an inner place's net is above 0        shortage   the sum over all places
--   excess        the greater of surplus and shortage            ends_over   whether that is the shortage
--   origins       the places with a surplus, and home and port where the shortage is the greater
--   Blocks        a closed region that keeps a set of places from every shortage
--   Reach         the closed region that lies inside every closed region with a set of places
use Rattle.std.specs.Prelude.{◌≡◌, ℕ, zero, suc, ◌<◌, Bool, true, cond, not, ◌&&◌, ◌||◌, List, ℤ, pos, ◌+ℤ◌, neg_ℤ, ◌==◌, int_lt}
use Rattle.std.specs.Int.{int_max}
use Rattle.board.specs.Board.{Board}
use Rattle.flow.specs.Flow.{net}
use Rattle.flow.specs.Regions.{Region, Inside}
use Rattle.flow.specs.Residual.{Closed}

-- The region of all places.
abbrev pub everywhere : Region
everywhere v = true

-- The sum of f over those of the places 0 to n - 1 that are in the region.
abbrev pub sum_in : ℕ → Region → (ℕ → ℤ) → ℤ
sum_in zero R f = pos 0
sum_in (suc n) R f = cond (R n) (f n) (pos 0) +ℤ sum_in n R f

-- Whether a place is neither home nor port.
abbrev pub inner : Board → ℕ → Bool
inner b v = not (v == b.shape.home) && not (v == b.shape.port)

-- Home and port.
abbrev pub ends : Board → Region
ends b v = not (inner b v)

-- The places other than home and port whose net is below 0: more comes in than goes out.
abbrev pub over : Board → List ℤ → Region
over b xs v = inner b v && int_lt (net b.routes xs v) (pos 0)

-- The surplus at a place other than home and port: how much more comes in than goes out, if it is more.
abbrev pub surplus_at : Board → List ℤ → ℕ → ℤ
surplus_at b xs v = cond (over b xs v) (neg_ℤ (net b.routes xs v)) (pos 0)

-- The shortage at a place other than home and port: how much more goes out than comes in, if it is more.
abbrev pub shortage_at : Board → List ℤ → ℕ → ℤ
shortage_at b xs v = cond (inner b v && int_lt (pos 0) (net b.routes xs v)) (net b.routes xs v) (pos 0)

-- The surplus of all places together.
abbrev pub surplus : Board → List ℤ → ℤ
surplus b xs = sum_in b.shape.places everywhere (surplus_at b xs)

-- The shortage of all places together.
abbrev pub shortage : Board → List ℤ → ℤ
shortage b xs = sum_in b.shape.places everywhere (shortage_at b xs)

-- The greater of the two.
abbrev pub excess : Board → List ℤ → ℤ
excess b xs = int_max (surplus b xs) (shortage b xs)

-- Whether the shortage is the greater. All nets sum to 0, so home and port together then have a surplus.
abbrev pub ends_over : Board → List ℤ → Bool
ends_over b xs = int_lt (surplus b xs) (shortage b xs)

-- The origins: the places with a surplus; and home and port too, where the shortage is the greater.
abbrev pub origins : Board → List ℤ → Region
origins b xs v = over b xs v || ends_over b xs && ends b v

-- R is closed and has all places of O, but no place with a shortage: no residual steps lead from O to a shortage.
pub record Blocks (b : Board) (xs : List ℤ) (O R : Region) : Type 0 where
  pub closed : Closed b.routes xs R
  pub has : Inside b O R
  pub short : (v : ℕ) → v < b.shape.places → R v ≡ true → shortage_at b xs v ≡ pos 0

-- R is what residual steps reach from O: it is closed, has all places of O, and lies inside every such region.
pub record Reach (b : Board) (xs : List ℤ) (O R : Region) : Type 0 where
  pub closed : Closed b.routes xs R
  pub has : Inside b O R
  pub least : (S : Region) → Closed b.routes xs S → Inside b O S → Inside b R S
