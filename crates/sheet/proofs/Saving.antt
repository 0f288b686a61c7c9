-- The questions that are asked before a board is written, and their answers.
use Rattle.std.proofs.Common.{◌≡◌, ℕ, suc, ◌<◌, ◌≤◌, true, false, leb, List, [], ◌∷◌, length, pos, is_ok, Some, None, Ok, Err, Decides, Option, sym, refl, ap, ◌∙◌, ⊎_elim}
use Rattle.std.proofs.lemmas.Bool.{le-leb, lt-leb, cases_lt, true≢false}
use Rattle.std.specs.Result.{result_err}
use Rattle.std.specs.List.{AllByRecursion}
use Rattle.board.specs.Board.{Board, Shape, shape_of, Valid, ValidShape, ValidRoute}
use Rattle.board.proofs.First.{first_some, first_none, first_parts, some_handed, all_handed, handed_no, handed_on, none_handed}
use Rattle.board.specs.Questions.{Question, first_no, handed_up, answer, route_questions}
use Rattle.board.specs.declared.fault.RouteFault.{RouteFault}
use Rattle.board.specs.declared.frame.Frame.{Frame}
use Rattle.board.specs.declared.route.Route.{Route}
use Rattle.board.proofs.Valid.{route_valid, route_accepted}
use Rattle.layout.specs.Format.{sheet_length}
use Rattle.sheet.specs.Saving.{routes_questions, board_questions, write_questions, Writable, write_answer}
use Rattle.layout.specs.declared.fault.OrderFault.{OrderFault}
use Rattle.sheet.specs.declared.writing.WriteFault.{WriteFault}
use Rattle.sheet.specs.declared.writing.WriteFault.TheVariants.{RouteLimit, Order, Buffer}

-- what a read of a route past the end gives
abbrev pub blank : Route
blank = record { start = 0; end = 0; floor = pos 0; ceiling = pos 0 }

-- the fault behind an answer
pub err_part_answer : {X F : Type 0} (o : Option F) (x : X) → result_err (answer o x) ≡ o
err_part_answer None x = refl
err_part_answer (Some f) x = refl

abbrev order_of : ℕ → RouteFault → OrderFault
order_of k f = record { route = k; fault = f }

-- one route more
pub routes_more : (s : Shape) (k : ℕ) (r : Route) (rs : List Route) → None ≡ first_no (route_questions s r) → first_no (routes_questions s k (r ∷ rs)) ≡ first_no (routes_questions s (suc k) rs)
unfolding routes_questions
routes_more s k r rs h =
    handed_on (order_of k) (route_questions s r) (routes_questions s (suc k) rs) (sym h)

pub routes_first : (s : Shape) (k : ℕ) (r : Route) (rs : List Route) (f : RouteFault) → Some f ≡ first_no (route_questions s r) → first_no (routes_questions s k (r ∷ rs)) ≡ Some (record { route = k; fault = f })
unfolding routes_questions
routes_first s k r rs f h =
    handed_no (order_of k) (route_questions s r) (routes_questions s (suc k) rs) f (sym h)

pub routes_valid : (s : Shape) (k : ℕ) (rs : List Route) → first_no (routes_questions s k rs) ≡ None → AllByRecursion (ValidRoute s) rs
unfolding routes_questions
routes_valid s k [] h = tt
routes_valid s k (r ∷ rs) h =
    let both = first_parts (handed_up (order_of k) (route_questions s r)) (routes_questions s (suc k) rs) h in
    (route_valid s r (none_handed (order_of k) (route_questions s r) both.0), routes_valid s (suc k) rs both.1)

pub routes_accepted : (s : Shape) (k : ℕ) (rs : List Route) → AllByRecursion (ValidRoute s) rs → first_no (routes_questions s k rs) ≡ None
unfolding routes_questions
routes_accepted s k [] h = refl
routes_accepted s k (r ∷ rs) h =
    handed_on (order_of k) (route_questions s r) (routes_questions s (suc k) rs) (route_accepted s r h.0)
    ∙ routes_accepted s (suc k) rs h.1

-- what a board is asked: three answers
pub board_many : (b : Board) → 512 < length b.routes → first_no (board_questions b) ≡ Some RouteLimit
unfolding board_questions
board_many b h = rw (lt-leb (length b.routes) 512 h)

pub board_order : (b : Board) (o : OrderFault) → length b.routes ≤ 512 → first_no (routes_questions b.shape 0 b.routes) ≡ Some o → first_no (board_questions b) ≡ Some (Order o)
unfolding board_questions
board_order b o h first = rw (le-leb (length b.routes) 512 h, some_handed Order (routes_questions b.shape 0 b.routes) o first)

pub board_accepted : (b : Board) → length b.routes ≤ 512 → first_no (routes_questions b.shape 0 b.routes) ≡ None → first_no (board_questions b) ≡ None
unfolding board_questions
board_accepted b h each = rw (le-leb (length b.routes) 512 h, all_handed Order (routes_questions b.shape 0 b.routes) each)

-- the numbers of a frame
pub frame_shape : (f : Frame) → ValidShape (shape_of f)
frame_shape f =
    record {
      several = f.several;
      few = f.few;
      home_inside = f.home_inside;
      port_inside = f.port_inside;
      apart = f.apart;
    }

-- a board that gets a yes each is valid
board_valid : (b : Board) → ValidShape b.shape → first_no (board_questions b) ≡ None → Valid b
unfolding board_questions
board_valid b shape h =
    ⊎_elim (λ (many : 512 < length b.routes). let e = board_many b many in cc)
    (λ few. let e = le-leb (length b.routes) 512 few in
    let each = rw e at h in
    record { frame = shape; few = few; each = routes_valid b.shape 0 b.routes (none_handed Order (routes_questions b.shape 0 b.routes) each) })
    (cases_lt 512 (length b.routes))

-- the last question
abbrev room : Board → ℕ → List (Question WriteFault)
room b n = (leb (sheet_length (length b.routes)) n, Buffer) ∷ []

-- and the three answers to a board that is to be written
pub write_refused : (b : Board) (n : ℕ) (f : WriteFault) → first_no (board_questions b) ≡ Some f → write_answer b n ≡ Err f
unfolding write_answer write_questions
write_refused b n f e = rw (first_some (board_questions b) (room b n) f e)

pub write_short : (b : Board) (n : ℕ) → first_no (board_questions b) ≡ None → n < sheet_length (length b.routes) → write_answer b n ≡ Err Buffer
unfolding write_answer write_questions
write_short b n e short =
    rw (first_none (board_questions b) (room b n) e, lt-leb (sheet_length (length b.routes)) n short)

pub write_fits : (b : Board) (n : ℕ) → first_no (board_questions b) ≡ None → sheet_length (length b.routes) ≤ n → write_answer b n ≡ Ok (sheet_length (length b.routes))
unfolding write_answer write_questions
write_fits b n e fits =
    rw (first_none (board_questions b) (room b n) e, le-leb (sheet_length (length b.routes)) n fits)

-- what is writable is accepted
writable_accepted : (b : Board) (n : ℕ) → Writable b n → is_ok (write_answer b n) ≡ true
writable_accepted b n w =
    ap is_ok (write_fits b n (board_accepted b w.valid.few (routes_accepted b.shape 0 b.routes w.valid.each)) w.room)

pub refused_decides : (b : Board) (n : ℕ) (f : WriteFault) → write_answer b n ≡ Err f → Decides false (Writable b n)
refused_decides b n f e = (λ h. absurd (true≢false (sym h)), λ w. sym (ap is_ok e) ∙ writable_accepted b n w)

pub accepted_decides : (b : Board) (n : ℕ) → ValidShape b.shape → first_no (board_questions b) ≡ None → sheet_length (length b.routes) ≤ n → Decides true (Writable b n)
accepted_decides b n shape e fits = (λ h. record { valid = board_valid b shape e; room = fits }, λ w. refl)
