-- What holds of every board. The words are those of the other files; each statement is one theorem.
--   ValidIsNetwork      a valid board is a network
--   WidthBounds         no flow delivers more than the width of a region with home and without port
--   NoneOverpromised    where a flow exists, no region with both ends or neither is overpromised
--   ClosedIsFull        what goes through a closed region is its ceilings leaving minus its floors entering
--   FullIsClosed        and a region of which this holds is closed
--   OrderIsFree         widths and overpromises do not depend on the order of the routes
--   OneAnswer           a board has one right answer, whatever the order of its routes
--   MeetingIsGreatest   a flow that delivers the width of a region delivers the most
--   MeetingIsRight      and that region is the right one if it lies inside every closed region with home
--   ExcessIsRight       which excess and which region are right where shares are left out of balance
--   EvenIsFlow          shares that leave no surplus and no shortage are a flow
--   NetsSum             the nets over a region sum to what goes through it
--   NetsCancel          over all places they sum to 0
--   Arrives             what leaves home arrives at port
--   Pushes              what raising one share does to the nets
--   StaysClosed         a closed region stays closed while the nets of its places stay
use Rattle.std.specs.Prelude.{◌≡◌, ℕ, ◌<◌, true, false, cond, List, length, ℤ, pos, ◌+ℤ◌, ◌-ℤ◌, ◌≤ℤ◌, ◌<ℤ◌, ◌==◌, slice_index_or}
use Rattle.std.specs.List.Sorted.{IsPermutation}
use Rattle.std.specs.List.{AllByRecursion}
use Rattle.board.specs.Board.{Board, Valid}
use Rattle.board.specs.declared.route.Route.{Route}
use Rattle.flow.specs.Flow.{Network, Joins, net, Within, Flow, delivery, FlowOfValue, raised}
use Rattle.flow.specs.Regions.{Region, through, width, overpromise, Separates, Together, Inside}
use Rattle.flow.specs.Outcome.{Outcome, Delivered, Overpromised, Greatest, RightAnswer, SameOutcome}
use Rattle.flow.specs.Residual.{Closed}
use Rattle.flow.specs.Imbalance.{everywhere, sum_in, over, ends, surplus, shortage, excess, origins, Blocks, Reach}

-- Every valid board is a network.
abbrev pub ValidIsNetwork : Type 0
ValidIsNetwork = (b : Board) → Valid b → Network b

-- A flow never delivers more than the width of any region with home and without port.
abbrev pub WidthBounds : Type 0
WidthBounds =
    (b : Board) (xs : List ℤ) (R : Region) → Network b → Flow b xs → Separates b R
    → delivery b xs ≤ℤ width b.routes R

-- Where a flow exists, no region with both home and port or with neither is overpromised by more than 0.
abbrev pub NoneOverpromised : Type 0
NoneOverpromised =
    (b : Board) (xs : List ℤ) (R : Region) → Network b → Flow b xs → Together b R
    → overpromise b.routes R ≤ℤ pos 0

-- With shares within the marks, what goes through a closed region is its ceilings leaving minus its floors entering.
abbrev pub ClosedIsFull : Type 0
ClosedIsFull =
    (rs : List Route) (xs : List ℤ) (R : Region) → Within rs xs → Closed rs xs R
    → through rs xs R ≡ width rs R

-- And the converse: a region through which so much goes is closed.
abbrev pub FullIsClosed : Type 0
FullIsClosed =
    (rs : List Route) (xs : List ℤ) (R : Region) → Within rs xs → through rs xs R ≡ width rs R
    → Closed rs xs R

-- Widths and overpromises do not change when the routes are put into another order, each as often.
abbrev pub OrderIsFree : Type 0
OrderIsFree =
    (rs ss : List Route) (R : Region) → IsPermutation rs ss
    → (width ss R ≡ width rs R) × (overpromise ss R ≡ overpromise rs R)

-- Two boards with the same frame and the same routes, each as often, in whatever order, and a right answer to each:
-- both give the same delivery and the same region, or both the same excess and the same region.
abbrev pub OneAnswer : Type 0
OneAnswer =
    (a b : Board) (p q : Outcome) → Network a → a.shape ≡ b.shape → IsPermutation a.routes b.routes
    → RightAnswer a p → RightAnswer b q → SameOutcome a p q

-- A flow whose delivery equals the width of a region with home and without port is a greatest one.
abbrev pub MeetingIsGreatest : Type 0
MeetingIsGreatest =
    (b : Board) (xs : List ℤ) (R : Region) → Network b → Flow b xs → Separates b R
    → delivery b xs ≡ width b.routes R → Greatest b (delivery b xs)

-- If besides the region lies inside every closed region that has home, delivery and region are the right answer.
abbrev pub MeetingIsRight : Type 0
MeetingIsRight =
    (b : Board) (xs : List ℤ) (R : Region) → Network b → Flow b xs → Separates b R
    → delivery b xs ≡ width b.routes R
    → ((S : Region) → Closed b.routes xs S → S b.shape.home ≡ true → Inside b R S)
    → RightAnswer b (Delivered (delivery b xs) R)

-- Shares within the marks leave some places out of balance, and no residual steps lead from a surplus to a shortage,
-- to home or to port, nor from home or port to a shortage. Then no flow exists, the excess is the greater of surplus
-- and shortage, and its region is what residual steps reach from the origins.
abbrev pub ExcessIsRight : Type 0
ExcessIsRight =
    (b : Board) (xs : List ℤ) (U V R : Region) → Network b → Within b.routes xs
    → Blocks b xs (over b xs) U → U b.shape.home ≡ false → U b.shape.port ≡ false
    → Blocks b xs (ends b) V
    → Reach b xs (origins b xs) R
    → pos 0 <ℤ excess b xs
    → RightAnswer b (Overpromised (excess b xs) R)

-- Shares within the marks that leave no surplus and no shortage are a flow.
abbrev pub EvenIsFlow : Type 0
EvenIsFlow =
    (b : Board) (xs : List ℤ) → Within b.routes xs → surplus b xs ≡ pos 0 → shortage b xs ≡ pos 0 → Flow b xs

-- The nets over the places of a region sum to what goes through it.
abbrev pub NetsSum : Type 0
NetsSum =
    (n : ℕ) (rs : List Route) (xs : List ℤ) (R : Region) → AllByRecursion (Joins n) rs
    → sum_in n R (net rs xs) ≡ through rs xs R

-- The nets over all places sum to 0.
abbrev pub NetsCancel : Type 0
NetsCancel = (n : ℕ) (rs : List Route) (xs : List ℤ) → AllByRecursion (Joins n) rs → sum_in n everywhere (net rs xs) ≡ pos 0

-- What leaves home arrives at port: a flow with delivery d is a flow of value d from home to port, and the other way
-- round.
abbrev pub Arrives : Type 0
Arrives =
    (b : Board) (xs : List ℤ) (d : ℤ) → Network b
    → (Flow b xs → delivery b xs ≡ d → FlowOfValue b xs d) × (FlowOfValue b xs d → Flow b xs × (delivery b xs ≡ d))

-- Raising the share of one route by an amount raises the net of its start and lowers the net of its end by that
-- amount, and leaves every other net.
abbrev pub Pushes : Type 0
Pushes =
    (rs : List Route) (xs : List ℤ) (k : ℕ) (a : ℤ) (v : ℕ) (d : Route) → k < length rs → length rs ≡ length xs
    → net rs (raised xs k a) v
    ≡ (net rs xs v +ℤ cond ((slice_index_or rs k d).start == v) a (pos 0)) -ℤ cond ((slice_index_or rs k d).end == v) a (pos 0)

-- Where the shares change but the nets of the places of a closed region do not, the region is still closed.
abbrev pub StaysClosed : Type 0
StaysClosed =
    (b : Board) (xs ys : List ℤ) (R : Region) → Network b → Within b.routes xs → Within b.routes ys
    → Closed b.routes xs R
    → ((v : ℕ) → v < b.shape.places → R v ≡ true → net b.routes ys v ≡ net b.routes xs v)
    → Closed b.routes ys R
