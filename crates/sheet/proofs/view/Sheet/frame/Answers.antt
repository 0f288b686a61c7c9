-- The header's fields are those of the stated shape.
use Rattle.layout.specs.Stated.{stated}
use Rattle.sheet.proofs.view.Sheet.frame.Goals as goal

pub returns : goal.returns
unfolding stated
returns c = let e = c.new.ensures.answer in cc
