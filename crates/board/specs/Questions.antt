-- The questions that a frame and a route are asked, in their order, and the numbers of the refusals.
--   Question                     a test, and the fault that a no gives
--   first_no                     the fault of the first question that gets a no
--   handed_up                    questions with their faults inside those of another layer
--   answer                       what is refused by such a fault, or accepted
--   map_ok                       an answer with the accepted value looked at through a function
--   frame_questions              what a frame is asked           frame_answer   the answer to three numbers
--   route_questions              what a route is asked           route_answer   the answer to a frame and four numbers
--   frame_number, route_number   the number of each refusal
use Rattle.std.specs.Prelude.{ℕ, Bool, cond, not, ◌&&◌, List, [], ◌∷◌, ℤ, pos, negsuc, Some, None, Ok, Err, Option, Result, ◌==◌, int_le, nat_le, nat_lt}
use Rattle.board.specs.Board.{Shape}
use Rattle.board.specs.declared.fault.FrameFault.{FrameFault}
use Rattle.board.specs.declared.fault.FrameFault.TheVariants.{PlaceCount, HomeUnknown, PortUnknown}
use Rattle.board.specs.declared.fault.RouteFault.{RouteFault}
use Rattle.board.specs.declared.fault.RouteFault.TheVariants.{StartUnknown, EndUnknown, SamePlace, CeilingRange, FloorRange}
use Rattle.board.specs.declared.route.Route.{Route}

-- A question: whether the answer is yes, and the fault that a no gives.
abbrev pub Question : Type 0 → Type 0
Question F = Bool × F

-- The fault of the first question that gets a no; none where each gets a yes.
abbrev pub first_no : {F : Type 0} → List (Question F) → Option F
first_no [] = None
first_no (q ∷ qs) = cond q.0 (first_no qs) (Some q.1)

-- The same questions, each fault handed up inside a fault of another layer.
abbrev pub handed_up : {F G : Type 0} → (F → G) → List (Question F) → List (Question G)
handed_up g [] = []
handed_up g (q ∷ qs) = (q.0, g q.1) ∷ handed_up g qs

-- Refused by the fault, if there is one; else the value.
abbrev pub answer : {X F : Type 0} → Option F → X → Result X F
answer None x = Ok x
answer (Some f) x = Err f

-- The same answer, with the accepted value looked at through a function.
abbrev pub map_ok : {X Y F : Type 0} → (X → Y) → Result X F → Result Y F
map_ok g (Ok x) = Ok (g x)
map_ok g (Err f) = Err f

-- Are there 2 to 128 places? Is home one of them? Is port one of them, and not home?
abbrev pub frame_questions : Shape → List (Question FrameFault)
frame_questions s =
    (nat_le 2 s.places && nat_le s.places 128, PlaceCount)
    ∷ (nat_lt s.home s.places, HomeUnknown)
    ∷ (nat_lt s.port s.places && not (s.port == s.home), PortUnknown)
    ∷ []

-- The answer to three numbers that are to be a frame.
abbrev pub frame_answer : ℕ → ℕ → ℕ → Result Shape FrameFault
frame_answer places home port =
    let s : Shape = record { places = places; home = home; port = port } in answer (first_no (frame_questions s)) s

-- Are both ends places of the frame? Do they differ? Is the ceiling 0 to 4,095? Is the floor at least -4,095 and at
-- most the ceiling?
abbrev pub route_questions : Shape → Route → List (Question RouteFault)
route_questions s r =
    (nat_lt r.start s.places, StartUnknown)
    ∷ (nat_lt r.end s.places, EndUnknown)
    ∷ (not (r.start == r.end), SamePlace)
    ∷ (int_le (pos 0) r.ceiling && int_le r.ceiling (pos 4095), CeilingRange)
    ∷ (int_le (negsuc 4094) r.floor && int_le r.floor r.ceiling, FloorRange)
    ∷ []

-- The answer to four numbers that are to be a route of a frame.
abbrev pub route_answer : Shape → ℕ → ℕ → ℤ → ℤ → Result Route RouteFault
route_answer s start end floor ceiling =
    let r : Route = record { start = start; end = end; floor = floor; ceiling = ceiling } in answer (first_no (route_questions s r)) r

-- The number of a refused frame.
abbrev pub frame_number : FrameFault → ℕ
frame_number PlaceCount = 1
frame_number HomeUnknown = 2
frame_number PortUnknown = 3

-- The number of a refused route.
abbrev pub route_number : RouteFault → ℕ
route_number StartUnknown = 11
route_number EndUnknown = 11
route_number SamePlace = 12
route_number CeilingRange = 13
route_number FloorRange = 14
