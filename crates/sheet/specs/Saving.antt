-- What is asked before a board is written as a sheet, and what the answer is.
--   write_number       the number of each refusal
--   board_with         the board that a frame and routes are
--   routes_questions   what each route is asked, in the order of their numbers
--   board_questions    what the board is asked
--   write_questions    all questions, in their order
--   Writable           a valid board, and room for its sheet
--   write_answer       how long the sheet is, or the fault of the first question that gets a no
use Rattle.std.specs.Prelude.{ℕ, suc, ◌≤◌, List, [], ◌∷◌, ◌++◌, length, Result, nat_le}
use Rattle.board.specs.Board.{Board, Shape, Valid, shape_of}
use Rattle.board.specs.Questions.{Question, first_no, handed_up, answer, route_number}
use Rattle.board.specs.declared.frame.Frame.{Frame}
use Rattle.board.specs.declared.route.Route.{Route}
use Rattle.layout.specs.Format.{sheet_length}
use Rattle.layout.specs.Questions.{order_questions}
use Rattle.layout.specs.declared.fault.OrderFault.{OrderFault}
use Rattle.sheet.specs.declared.writing.WriteFault.{WriteFault}
use Rattle.sheet.specs.declared.writing.WriteFault.TheVariants.{RouteLimit, Order, Buffer}

-- The number of the question that got a no.
abbrev pub write_number : WriteFault → ℕ
write_number RouteLimit = 52
write_number (Order o) = route_number o.fault
write_number Buffer = 61

-- The board with the shape of a frame and these routes.
abbrev pub board_with : Frame → List Route → Board
board_with f rs = record { shape = shape_of f; routes = rs }

-- Is each of these routes, from route k on, a route of the shape?
unfoldable pub routes_questions : Shape → ℕ → List Route → List (Question OrderFault)
routes_questions s k [] = []
routes_questions s k (r ∷ rs) =
    order_questions s k r ++ routes_questions s (suc k) rs

-- Are there at most 512 routes? Is each a route of the frame?
unfoldable pub board_questions : Board → List (Question WriteFault)
board_questions b = (nat_le (length b.routes) 512, RouteLimit) ∷ handed_up Order (routes_questions b.shape 0 b.routes)

-- What the board is asked, and then: has the buffer, of n bytes, room for the sheet?
unfoldable pub write_questions : Board → ℕ → List (Question WriteFault)
write_questions b n = board_questions b ++ (nat_le (sheet_length (length b.routes)) n, Buffer) ∷ []

-- The board is valid, and n bytes have room for its sheet.
pub record Writable (b : Board) (n : ℕ) : Type 0 where
  pub valid : Valid b
  pub room : sheet_length (length b.routes) ≤ n

-- How many bytes the sheet has, or the fault of the first question that gets a no.
unfoldable pub write_answer : Board → ℕ → Result ℕ WriteFault
write_answer b n = answer (first_no (write_questions b n)) (sheet_length (length b.routes))
