-- What a right answer to a board is.
--   Outcome       a delivery with a region, or an excess with a region
--   Greatest      a delivery that a flow makes and that none exceeds
--   NoFlow        no flow exists
--   RightAnswer   what makes an outcome the right answer to a board
--   SameOutcome   the same kind, the same number and the same region
use Rattle.std.specs.Prelude.{◌≡◌, List, ℤ, pos, ◌≤ℤ◌, ◌<ℤ◌}
use Rattle.board.specs.Board.{Board}
use Rattle.flow.specs.Flow.{Flow, delivery}
use Rattle.flow.specs.Regions.{Region, SameRegion, Narrowest, MostOverpromised}

-- An outcome: what was delivered, with the region that holds the rest back; or by how much the board is overpromised
-- (the excess), with the region that promises too much.
pub data Outcome : Type 0 where
  Delivered : ℤ → Region → Outcome
  Overpromised : ℤ → Region → Outcome

-- A flow with delivery d exists, and no flow delivers more (the value of a maximum flow).
pub record Greatest (b : Board) (d : ℤ) : Type 0 where
  pub shares : List ℤ
  pub flow : Flow b shares
  pub delivers : delivery b shares ≡ d
  pub most : (xs : List ℤ) → Flow b xs → delivery b xs ≤ℤ d

-- No flow exists on the board.
abbrev pub NoFlow : Board → Type 0
NoFlow b = (xs : List ℤ) → Flow b xs → ⊥

-- A right answer to a board. Delivered d: d is the greatest delivery and the width of the region, which is the
-- narrowest. Overpromised x: no flow exists, and the region is the most overpromised, by x, which is above 0.
abbrev pub RightAnswer : Board → Outcome → Type 0
RightAnswer b (Delivered d R) = Greatest b d × Narrowest b R d
RightAnswer b (Overpromised x R) = NoFlow b × (pos 0 <ℤ x) × MostOverpromised b R x

-- Both are deliveries or both are excesses, the numbers are the same, and so are the places of the regions.
abbrev pub SameOutcome : Board → Outcome → Outcome → Type 0
SameOutcome b (Delivered d R) (Delivered e S) = (d ≡ e) × SameRegion b R S
SameOutcome b (Overpromised x R) (Overpromised y S) = (x ≡ y) × SameRegion b R S
SameOutcome b (Delivered d R) (Overpromised y S) = ⊥
SameOutcome b (Overpromised x R) (Delivered e S) = ⊥
