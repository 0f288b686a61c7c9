-- The theorems about every board, each put to use on a worked board that meets all it asks.
--   Stuck       shares with an excess, and the regions that make it the right answer
--   Instances   each theorem, with what it asks and what it gives
use Rattle.std.specs.Prelude.{◌≡◌, ℕ, ◌<◌, true, false, List, [], ◌∷◌, length, ℤ, pos, negsuc, ◌≤ℤ◌, ◌<ℤ◌}
use Rattle.std.specs.List.Sorted.{IsPermutation}
use Rattle.std.specs.List.{AllByRecursion}
use Rattle.board.specs.Board.{Board, Valid}
use Rattle.flow.specs.Flow.{Network, Joins, net, Within, Flow, delivery, FlowOfValue, raised}
use Rattle.flow.specs.Imbalance.{everywhere, sum_in, over, ends, surplus, shortage, excess, origins, Blocks, Reach}
use Rattle.flow.specs.Outcome.{Delivered, Overpromised, Greatest, RightAnswer, SameOutcome}
use Rattle.flow.specs.Regions.{Region, through, width, overpromise, Separates, Together, Inside}
use Rattle.flow.specs.Residual.{Closed}
use Rattle.examples.specs.Boards.{region, crossing, carrying, first_two, shifted, turned, promised, stuck, drained, lacking, eased}

-- Shares within the marks that no residual steps bring into balance, with the regions that show it; and the right
-- answer that follows.
pub record Stuck (b : Board) (xs : List ℤ) (U V R : Region) (x : ℤ) : Type 0 where
  pub network : Network b
  pub within : Within b.routes xs
  pub from_over : Blocks b xs (over b xs) U
  pub home_outside : U b.shape.home ≡ false
  pub port_outside : U b.shape.port ≡ false
  pub from_ends : Blocks b xs (ends b) V
  pub reached : Reach b xs (origins b xs) R
  pub excess_is : excess b xs ≡ x
  pub some : pos 0 <ℤ excess b xs
  pub right : RightAnswer b (Overpromised (excess b xs) R)

-- Each theorem on a worked board: first what it asks, then what it gives.
pub record Instances : Type 0 where
  -- a valid board is a network, which most of the others ask too
  pub valid_is_network : Valid crossing × Network crossing
  -- no region that separates home and port is narrower than what a flow delivers
  pub width_bounds :
      Flow crossing carrying × Separates crossing (region (0 ∷ []))
      × (delivery crossing carrying ≤ℤ width crossing.routes (region (0 ∷ [])))
  -- a flow rules out overpromised regions; this one has neither end, and is overpromised by 0
  pub none_overpromised :
      Network eased × Flow eased (pos 3 ∷ pos 3 ∷ []) × Together eased (region (2 ∷ []))
      × (overpromise eased.routes (region (2 ∷ [])) ≤ℤ pos 0)
  -- a closed region is full, and a full one closed
  pub closed_is_full :
      Within crossing.routes carrying × Closed crossing.routes carrying first_two
      × (through crossing.routes carrying first_two ≡ width crossing.routes first_two)
  pub full_is_closed :
      Within crossing.routes carrying × (through crossing.routes carrying first_two ≡ width crossing.routes first_two)
      × Closed crossing.routes carrying first_two
  -- the order of the routes is free
  pub order_is_free :
      IsPermutation crossing.routes turned.routes
      × (width turned.routes first_two ≡ width crossing.routes first_two)
      × (overpromise turned.routes first_two ≡ overpromise crossing.routes first_two)
  -- one right answer, here with the places of the region listed in two orders
  pub one_answer :
      (crossing.shape ≡ turned.shape) × IsPermutation crossing.routes turned.routes
      × RightAnswer crossing (Delivered (pos 6) first_two)
      × RightAnswer turned (Delivered (pos 6) (region (1 ∷ 0 ∷ [])))
      × SameOutcome crossing (Delivered (pos 6) first_two) (Delivered (pos 6) (region (1 ∷ 0 ∷ [])))
  -- a flow that delivers the width of a region delivers the most, and its region is the right one
  pub meeting_is_greatest :
      Flow crossing carrying × Separates crossing first_two × (delivery crossing carrying ≡ width crossing.routes first_two)
      × Greatest crossing (delivery crossing carrying)
  pub meeting_is_right :
      Flow crossing carrying × Separates crossing first_two × (delivery crossing carrying ≡ width crossing.routes first_two)
      × ((S : Region) → Closed crossing.routes carrying S → S crossing.shape.home ≡ true → Inside crossing first_two S)
      × RightAnswer crossing (Delivered (delivery crossing carrying) first_two)
  -- an excess in the middle, and one at home and port together
  pub excess_is_right : Stuck promised stuck (region (2 ∷ [])) everywhere (region (2 ∷ [])) (pos 1)
  pub excess_at_ends : Stuck drained lacking (region []) first_two first_two (pos 1)
  -- shares that leave nothing over and nothing short are a flow
  pub even_is_flow :
      Within crossing.routes carrying × (surplus crossing carrying ≡ pos 0) × (shortage crossing carrying ≡ pos 0)
      × Flow crossing carrying
  -- the nets of the two places sum to what goes through them, and those of all places to 0
  pub nets_sum :
      AllByRecursion (Joins 4) crossing.routes
      × (sum_in 4 first_two (net crossing.routes carrying) ≡ through crossing.routes carrying first_two)
  pub nets_cancel :
      AllByRecursion (Joins 4) crossing.routes × (sum_in 4 everywhere (net crossing.routes carrying) ≡ pos 0)
  -- what leaves home arrives at port
  pub arrives : Flow crossing carrying × (delivery crossing carrying ≡ pos 6) × FlowOfValue crossing carrying (pos 6)
  -- raising the share from place 0 to place 1 by 1
  pub pushes :
      (0 < length crossing.routes) × (length crossing.routes ≡ length carrying)
      × (net crossing.routes (raised carrying 0 (pos 1)) 0 ≡ pos 7)
      × (net crossing.routes (raised carrying 0 (pos 1)) 1 ≡ negsuc 0)
      × (net crossing.routes (raised carrying 0 (pos 1)) 2 ≡ pos 0)
  -- a closed region stays closed where only shares outside it change
  pub stays_closed :
      Within crossing.routes carrying × Within crossing.routes shifted × Closed crossing.routes carrying first_two
      × ((v : ℕ) → v < 4 → first_two v ≡ true → net crossing.routes shifted v ≡ net crossing.routes carrying v)
      × Closed crossing.routes shifted first_two
