-- The header of a sheet, once it is read.
--   Numbers         a shape and a number of routes
--   stated_of       the numbers of a header
--   stated_header   the numbers that a sheet's bits state
use Rattle.std.specs.Prelude.{ℕ, List}
use Rattle.board.specs.Board.{Shape, shape_of}
use Rattle.layout.specs.Stated.{stated, stating}
use Rattle.bits.specs.declared.field.Field.TheVariants.{Routes}
use Rattle.sheet.specs.declared.header.Header.{Header}

-- A shape and a number of routes.
pub record Numbers : Type 0 where
  pub shape : Shape
  pub routes : ℕ

-- The numbers of a header.
abbrev pub stated_of : Header → Numbers
stated_of h = record { shape = shape_of h.frame; routes = h.routes }

-- The numbers that a sheet's bits state.
abbrev pub stated_header : List ℕ → Numbers
stated_header bits = record { shape = (stated bits).shape; routes = stating bits 0 Routes }
