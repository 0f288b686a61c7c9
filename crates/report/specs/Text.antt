-- What is printed of a sheet, as bytes of text.
--   refused_line   the line for a refused sheet
--   frame_lines    the lines for a frame
--   route_words    the line for a route             route_line   the same, by the route
--   route_lines    the lines for all routes, by number
--   board_text     all lines for a board
--   answer_text    the text of an answer to a sheet
--   described      what is printed of a sheet
use Rattle.std.specs.Prelude.{ℕ, suc, List, [], ◌∷◌, ◌++◌, ℤ, Ok, Err, codes, decimal, Result}
use Rattle.std.specs.Fmt.{signed_decimal}
use Rattle.board.specs.Board.{Board, Shape}
use Rattle.board.specs.Questions.{answer}
use Rattle.board.specs.declared.route.Route.{Route}
use Rattle.bits.specs.Bits.{bits_of}
use Rattle.layout.specs.Faults.{fault_text}
use Rattle.layout.specs.Questions.{sheet_fault}
use Rattle.layout.specs.Stated.{stated}
use Rattle.layout.specs.declared.fault.SheetFault.{SheetFault}

-- A refused sheet: the word, then what its fault tells.
abbrev pub refused_line : SheetFault → List ℕ
refused_line f = codes "refused " ++ (fault_text f ++ codes "\n")

-- A frame: how many places, home and port.
abbrev pub frame_lines : Shape → List ℕ
frame_lines s =
    codes "places " ++ (decimal s.places ++ (codes "\nhome " ++ (decimal s.home ++ (codes "\nport " ++ (decimal s.port ++ codes "\n")))))

-- A route: its number, its ends and its marks.
abbrev pub route_words : ℕ → ℕ → ℕ → ℤ → ℤ → List ℕ
route_words k start end floor ceiling =
    codes "route "
    ++ (decimal k
    ++ (codes " start "
    ++ (decimal start
    ++ (codes " end " ++ (decimal end ++ (codes " floor " ++ (signed_decimal floor ++ (codes " ceiling " ++ (signed_decimal ceiling ++ codes "\n")))))))))

-- The line for the route of number k.
abbrev pub route_line : ℕ → Route → List ℕ
route_line k r = route_words k r.start r.end r.floor r.ceiling

-- The routes from number k on, a line each.
abbrev pub route_lines : ℕ → List Route → List ℕ
route_lines k [] = []
route_lines k (r ∷ rs) = route_line k r ++ route_lines (suc k) rs

-- A board: its frame, then its routes by number.
abbrev pub board_text : Board → List ℕ
board_text b = frame_lines b.shape ++ route_lines 0 b.routes

-- The text of an answer to a sheet.
abbrev pub answer_text : Result Board SheetFault → List ℕ
answer_text (Ok b) = board_text b
answer_text (Err f) = refused_line f

-- What is printed of a sheet that may have 512 routes.
abbrev pub described : List ℕ → List ℕ
described bytes = answer_text (answer (sheet_fault 512 (bits_of bytes)) (stated (bits_of bytes)))
