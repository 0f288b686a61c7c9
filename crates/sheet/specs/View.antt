-- What an accepted sheet shows.
--   board_of      the board that a view shows
--   routes_left   the routes that going over a view has still to come to
use Rattle.std.specs.Prelude.{List, drop}
use Rattle.board.specs.Board.{Board}
use Rattle.board.specs.declared.route.Route.{Route}
use Rattle.bits.specs.Bits.{bits_of}
use Rattle.layout.specs.Stated.{stated}
use Rattle.sheet.specs.declared.routes.Routes.{Routes}
use Rattle.sheet.specs.declared.view.Sheet.{Sheet}

-- The board that a view shows: the one that the bits of its bytes state.
abbrev pub board_of : Sheet → Board
board_of s = stated (bits_of s.bytes.now)

-- The routes from the next number on.
abbrev pub routes_left : Routes → List Route
routes_left r = drop r.next (board_of r.sheet).routes
