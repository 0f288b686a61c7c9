-- Two plausible mistakes, and that the definitions refute them.
--   CeilingsAlone   a width that leaves the floors of entering routes out
--   SeenFromPort    the greatest of the equally narrow regions for the least
--   Mistakes        both are mistakes
use Rattle.std.specs.Prelude.{◌≡◌, pos, ◌≤ℤ◌}
use Rattle.flow.specs.Outcome.{Delivered, RightAnswer}
use Rattle.flow.specs.Regions.{Region, leaves, ceilings, width, Separates, Inside}
use Rattle.examples.specs.Boards.{first_two, crossing, chain}

-- On four places and five routes, the ceilings leaving a region with home and without port are 5 at the least, at the
-- places 0 and 1; and no region makes 5 the right answer there.
pub record CeilingsAlone : Type 0 where
  pub separates : Separates crossing first_two
  pub five : ceilings (leaves first_two) crossing.routes ≡ pos 5
  pub least : (S : Region) → Separates crossing S → pos 5 ≤ℤ ceilings (leaves S) crossing.routes
  pub wrong : (S : Region) → RightAnswer crossing (Delivered (pos 5) S) → ⊥

-- On three places in a row, the places 0 and 1 are a region as narrow as any, and each that is as narrow lies inside
-- it; and it is not the region of the right answer.
pub record SeenFromPort : Type 0 where
  pub separates : Separates chain first_two
  pub four : width chain.routes first_two ≡ pos 4
  pub least : (S : Region) → Separates chain S → pos 4 ≤ℤ width chain.routes S
  pub around : (S : Region) → Separates chain S → width chain.routes S ≡ pos 4 → Inside chain S first_two
  pub wrong : RightAnswer chain (Delivered (pos 4) first_two) → ⊥

-- Both are mistakes.
abbrev pub Mistakes : Type 0
Mistakes = CeilingsAlone × SeenFromPort
