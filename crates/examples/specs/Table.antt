-- The worked examples as one table.
--   Row            a worked example
--   read_as        what a sheet with at most 512 routes is read as
--   RefusedRoute   an answer that refuses a route with this number
--   RefusedSheet   an answer that refuses a sheet with these four things
--   Holds          what a row says
--   table          the rows
--   EveryRow       every row of the table holds
use Rattle.std.specs.Prelude.{◌≡◌, ℕ, List, [], ◌∷◌, ℤ, pos, negsuc, Ok, Err, Result, nat_eq}
use Rattle.std.specs.List.{AllByRecursion}
use Rattle.board.specs.Board.{Board, Shape, Valid, ValidShape}
use Rattle.board.specs.Questions.{answer, route_answer, route_number}
use Rattle.board.specs.declared.fault.RouteFault.{RouteFault}
use Rattle.board.specs.declared.route.Route.{Route}
use Rattle.bits.specs.Bits.{bits_of}
use Rattle.layout.specs.Faults.{sheet_number, layer_of, record_of, bit_of}
use Rattle.layout.specs.Questions.{sheet_fault}
use Rattle.layout.specs.Stated.{stated}
use Rattle.layout.specs.declared.fault.Layer.{Layer}
use Rattle.layout.specs.declared.fault.Layer.TheVariants as layer
use Rattle.layout.specs.declared.fault.SheetFault.{SheetFault}
use Rattle.flow.specs.Flow.{Flow, delivery, traffic}
use Rattle.flow.specs.Outcome.{Outcome, Delivered, Overpromised, RightAnswer}
use Rattle.flow.specs.Pay.{pay_for}
use Rattle.examples.specs.Boards.{route, region, crossing, carrying, first_two, two_way, promised, eased, backward, chain, empty}

-- A worked example: the right answer to a board; shares that are a flow, with their delivery, traffic and pay; the
-- board that bytes state; bytes that are refused, with number, layer, record and bit; a route that a frame accepts,
-- or refuses with a number; the pay for a delivery; the right answer to every board with no routes.
pub data Row : Type 0 where
  Answers : Board → Outcome → Row
  Carries : Board → List ℤ → ℤ → ℤ → ℕ → Row
  States : List ℕ → Board → Row
  Refuses : List ℕ → ℕ → Layer → ℕ → ℕ → Row
  Lays : Shape → Route → Row
  Bars : Shape → Route → ℕ → Row
  Pays : ℤ → ℕ → Row
  NoRoutes : Row

-- What bytes are read as, where the routes have 512 entries: the board that they state, or the fault.
abbrev pub read_as : List ℕ → Result Board SheetFault
read_as bytes = answer (sheet_fault 512 (bits_of bytes)) (stated (bits_of bytes))

-- The answer refuses a route, with this number.
abbrev pub RefusedRoute : ℕ → Result Route RouteFault → Type 0
RefusedRoute number (Ok r) = ⊥
RefusedRoute number (Err f) = route_number f ≡ number

-- The answer refuses a sheet, with this number, by this layer, at this record and this bit.
abbrev pub RefusedSheet : ℕ → Layer → ℕ → ℕ → Result Board SheetFault → Type 0
RefusedSheet number layer place bit (Ok b) = ⊥
RefusedSheet number layer place bit (Err f) = (sheet_number f ≡ number) × (layer_of f ≡ layer) × (record_of f ≡ place) × (bit_of f ≡ bit)

-- What a row says.
abbrev pub Holds : Row → Type 0
Holds (Answers b o) = Valid b × RightAnswer b o
Holds (Carries b xs d t p) = Flow b xs × (delivery b xs ≡ d) × (traffic xs ≡ t) × (pay_for d ≡ p)
Holds (States bytes b) = read_as bytes ≡ Ok b
Holds (Refuses bytes number layer place bit) = RefusedSheet number layer place bit (read_as bytes)
Holds (Lays s r) = route_answer s r.start r.end r.floor r.ceiling ≡ Ok r
Holds (Bars s r number) = RefusedRoute number (route_answer s r.start r.end r.floor r.ceiling)
Holds (Pays d p) = pay_for d ≡ p
Holds NoRoutes =
    (s : Shape) → ValidShape s → RightAnswer (record { shape = s; routes = [] }) (Delivered (pos 0) (λ v. nat_eq v s.home))

-- The rows.
abbrev pub table : List Row
table =
    Answers crossing (Delivered (pos 6) first_two)
    ∷ Carries crossing carrying (pos 6) (pos 11) 21
    ∷ States (0x02 ∷ 0x00 ∷ 0x04 ∷ 0x01 ∷ 0x00 ∷ 0x07 ∷ 0xFF ∷ 0xA0 ∷ 0x0E ∷ []) two_way
    ∷ Answers two_way (Delivered (pos 7) (region (0 ∷ [])))
    ∷ Answers promised (Overpromised (pos 1) (region (2 ∷ [])))
    ∷ Answers eased (Delivered (pos 3) (region (0 ∷ 2 ∷ [])))
    ∷ Answers backward (Delivered (negsuc 1) (region (0 ∷ [])))
    ∷ Carries backward (pos 2 ∷ []) (negsuc 1) (pos 2) 0
    ∷ Answers chain (Delivered (pos 4) (region (0 ∷ [])))
    ∷ NoRoutes
    ∷ Lays two_way.shape (route 0 1 (negsuc 4094) (pos 0))
    ∷ Bars two_way.shape (route 0 1 (negsuc 4095) (pos 0)) 14
    ∷ Pays (pos 40) 820
    ∷ Pays (pos 41) 820
    ∷ States (0x04 ∷ 0x00 ∷ 0x0C ∷ 0x00 ∷ []) empty
    ∷ Refuses (0x04 ∷ 0x00 ∷ 0x0C ∷ 0x00 ∷ 0x00 ∷ []) 54 layer.Sheet 1 32
    ∷ []

-- Every row of the table holds.
abbrev pub EveryRow : Type 0
EveryRow = AllByRecursion Holds table
