-- A valid board that is to be written.
--   board_of   the board
use Rattle.board.specs.Board.{Board, shape_of}
use Rattle.sheet.specs.declared.checked.Checked.{Checked}

-- The board that is to be written: its frame and its routes.
abbrev pub board_of : Checked → Board
board_of c = record { shape = shape_of c.frame.now; routes = c.routes.now }
